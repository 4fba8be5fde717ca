-- What the calls of a site in memory made of what a crash leaves, and the moments that they passed.
use Rattle.std.proofs.Common.{◌≡◌, ◌<◌, ◌≤◌, ◌-◌, get_or, true, ℕ, zero, suc, List, [], ◌∷◌, ◌++◌, length, take, Some, IsTrue, refl, ap, ◌∙◌, arith}
use Rattle.std.specs.List.{list_all}
use Rattle.std.specs.FinMap.{get}
use Rattle.std.proofs.lemmas.Bool.{leb-true, le-leb}
use Rattle.std.proofs.lemmas.List.{take-append-le, take_all}
use Rattle.std.proofs.lemmas.List.Folds.{list_all-append}
use Rattle.ts_site.specs.declared.call.Call.{Call}
use Rattle.ts_site.specs.declared.call.Call.TheVariants.{Create, Append, Sync, Rename, Remove, SyncNames, Barrier, Say}
use Rattle.ts_site.specs.Crash.{CrashState, written}
use Rattle.ts_site.specs.Call.{crash_happens, crash_after, said_by, said_after, is_silent, moments_before, call_lies_in, call_says_in}
use Rattle.ts_site.specs.Moments.{Moment}
use Rattle.ts_site.proofs.CallLemmas.{take_last}
use Rattle.ts_site.proofs.StoreLemmas.{and_left, and_right, and_both, content_same}

-- one more call
pub crash_after-push : (store : List ℕ) (calls : List Call) (call : Call) (state : CrashState) → crash_after store (calls ++ call ∷ []) state ≡ crash_happens store call (crash_after store calls state)
crash_after-push store [] call state = refl
crash_after-push store (first ∷ calls) call state = crash_after-push store calls call (crash_happens store first state)

pub said_after-push : (calls : List Call) (call : Call) (count : ℕ) → said_after (calls ++ call ∷ []) count ≡ said_by call (said_after calls count)
said_after-push [] call count = refl
said_after-push (first ∷ calls) call count = said_after-push calls call (said_by first count)

pub moments_before-push : (store told : List ℕ) (calls : List Call) (call : Call) (state : CrashState) (count : ℕ) (earlier : List Moment)
    → moments_before store told (calls ++ call ∷ []) state count earlier
    ≡ record { crash = crash_after store calls state; told = take (said_after calls count) told } ∷ moments_before store told calls state count earlier
moments_before-push store told [] call state count earlier = refl
moments_before-push store told (first ∷ calls) call state count earlier =
    moments_before-push store told calls call (crash_happens store first state) (said_by first count) (record { crash = state; told = take count told } ∷ earlier)

pub said_by_silent : (call : Call) (count : ℕ) → is_silent call ≡ true → said_by call count ≡ count
said_by_silent (Create name) count h = refl
said_by_silent (Append stored) count h = refl
said_by_silent (Sync name) count h = refl
said_by_silent (Rename from to) count h = refl
said_by_silent (Remove name) count h = refl
said_by_silent SyncNames count h = refl
said_by_silent Barrier count h = refl
said_by_silent (Say end) count h = cc

pub silent_says_in : (call : Call) (size : ℕ) → is_silent call ≡ true → IsTrue (call_says_in size call)
silent_says_in (Create name) size h = refl
silent_says_in (Append stored) size h = refl
silent_says_in (Sync name) size h = refl
silent_says_in (Rename from to) size h = refl
silent_says_in (Remove name) size h = refl
silent_says_in SyncNames size h = refl
silent_says_in Barrier size h = refl
silent_says_in (Say end) size h = cc

pub says_pushed : (size : ℕ) (calls after : List Call) (call : Call) → after ≡ calls ++ call ∷ [] → IsTrue (list_all (call_says_in size) calls) → IsTrue (call_says_in size call)
    → IsTrue (list_all (call_says_in size) after)
says_pushed size calls after call pushed h last =
    ap (list_all (call_says_in size)) pushed ∙ list_all-append (call_says_in size) calls (call ∷ []) ∙ and_both _ _ h (and_both _ _ last refl)

says_longer : (size larger : ℕ) (call : Call) → size ≤ larger → IsTrue (call_says_in size call) → IsTrue (call_says_in larger call)
says_longer size larger (Say end) grows h = let within : end ≤ size = leb-true _ _ h in le-leb _ _ (omega arith)
says_longer size larger (Create name) grows h = refl
says_longer size larger (Append stored) grows h = refl
says_longer size larger (Sync name) grows h = refl
says_longer size larger (Rename from to) grows h = refl
says_longer size larger (Remove name) grows h = refl
says_longer size larger SyncNames grows h = refl
says_longer size larger Barrier grows h = refl

pub all_say_longer : (size larger : ℕ) (calls : List Call) → size ≤ larger → IsTrue (list_all (call_says_in size) calls) → IsTrue (list_all (call_says_in larger) calls)
all_say_longer size larger [] grows h = refl
all_say_longer size larger (call ∷ calls) grows h =
    and_both _ _ (says_longer size larger call grows (and_left _ _ h)) (all_say_longer size larger calls grows (and_right (call_says_in size call) _ h))

said_within : (call : Call) (count size : ℕ) → IsTrue (call_says_in size call) → count ≤ size → said_by call count ≤ size
said_within (Say end) count size h below = leb-true _ _ h
said_within (Create name) count size h below = below
said_within (Append stored) count size h below = below
said_within (Sync name) count size h below = below
said_within (Rename from to) count size h below = below
said_within (Remove name) count size h below = below
said_within SyncNames count size h below = below
said_within Barrier count size h below = below

-- a store that grows keeps what a crash leaves
pub crash_happens_same : (store more : List ℕ) (call : Call) (state : CrashState) → IsTrue (call_lies_in (length store) call) → crash_happens (store ++ more) call state ≡ crash_happens store call state
crash_happens_same store more (Append stored) state h = ap (λ bytes. written stored.name (Some bytes) state) (content_same store more stored h)
crash_happens_same store more (Create name) state h = refl
crash_happens_same store more (Sync name) state h = refl
crash_happens_same store more (Rename from to) state h = refl
crash_happens_same store more (Remove name) state h = refl
crash_happens_same store more SyncNames state h = refl
crash_happens_same store more Barrier state h = refl
crash_happens_same store more (Say end) state h = refl

pub crash_after_same : (store more : List ℕ) (calls : List Call) (state : CrashState) → IsTrue (list_all (call_lies_in (length store)) calls) → crash_after (store ++ more) calls state ≡ crash_after store calls state
crash_after_same store more [] state h = refl
crash_after_same store more (call ∷ calls) state h =
    ap (crash_after (store ++ more) calls) (crash_happens_same store more call state (and_left _ _ h))
    ∙ crash_after_same store more calls (crash_happens store call state) (and_right (call_lies_in (length store) call) _ h)

-- and, with an output that grows, the moments
pub moments_before_same : (store more told extra : List ℕ) (calls : List Call) (state : CrashState) (count : ℕ) (earlier : List Moment)
    → IsTrue (list_all (call_lies_in (length store)) calls) → IsTrue (list_all (call_says_in (length told)) calls) → count ≤ length told
    → moments_before (store ++ more) (told ++ extra) calls state count earlier ≡ moments_before store told calls state count earlier
moments_before_same store more told extra [] state count earlier lies says within = refl
moments_before_same store more told extra (call ∷ calls) state count earlier lies says within =
    ap (λ (s : CrashState). moments_before (store ++ more) (told ++ extra) calls s (said_by call count) (record { crash = state; told = take count (told ++ extra) } ∷ earlier)) (crash_happens_same store more call state (and_left _ _ lies))
    ∙ ap (λ (front : List ℕ). moments_before (store ++ more) (told ++ extra) calls (crash_happens store call state) (said_by call count) (record { crash = state; told = front } ∷ earlier)) (take-append-le count told extra within)
    ∙ moments_before_same store more told extra calls (crash_happens store call state) (said_by call count) (record { crash = state; told = take count told } ∷ earlier)
    (and_right (call_lies_in (length store) call) _ lies) (and_right (call_says_in (length told) call) _ says) (said_within call count (length told) (and_left _ _ says) within)

-- one more call, which lies in the store
pub lies_pushed : (size : ℕ) (calls after : List Call) (call : Call) → after ≡ calls ++ call ∷ [] → IsTrue (list_all (call_lies_in size) calls) → IsTrue (call_lies_in size call)
    → IsTrue (list_all (call_lies_in size) after)
lies_pushed size calls after call pushed h last =
    ap (list_all (call_lies_in size)) pushed ∙ list_all-append (call_lies_in size) calls (call ∷ []) ∙ and_both _ _ h (and_both _ _ last refl)

-- the moments before a call that was just made are those before the last one, and that
pub past_pushed : (store told : List ℕ) (calls after : List Call) (call : Call) (state : CrashState) → after ≡ calls ++ call ∷ [] → said_after calls 0 ≡ length told
    → moments_before store told after state 0 [] ≡ record { crash = crash_after store calls state; told = told } ∷ moments_before store told calls state 0 []
past_pushed store told calls after call state pushed all =
    ap (λ (cs : List Call). moments_before store told cs state 0 []) pushed ∙ moments_before-push store told calls call state 0 []
    ∙ ap (λ (front : List ℕ). record { crash = crash_after store calls state; told = front } ∷ moments_before store told calls state 0 [])
    (ap (λ n. take n told) all ∙ take_all (length told) told (omega arith))

pub crash_pushed : (store : List ℕ) (calls after : List Call) (call : Call) (state : CrashState) → after ≡ calls ++ call ∷ []
    → crash_after store after state ≡ crash_happens store call (crash_after store calls state)
crash_pushed store calls after call state pushed = ap (λ (cs : List Call). crash_after store cs state) pushed ∙ crash_after-push store calls call state

-- the same where the store and the output went on
pub past_grown : (store longer more told further extra : List ℕ) (calls after : List Call) (call : Call) (state : CrashState)
    → longer ≡ store ++ more → further ≡ told ++ extra → after ≡ calls ++ call ∷ [] → said_after calls 0 ≡ length told
    → IsTrue (list_all (call_lies_in (length store)) calls) → IsTrue (list_all (call_says_in (length told)) calls)
    → moments_before longer further after state 0 [] ≡ record { crash = crash_after store calls state; told = told } ∷ moments_before store told calls state 0 []
past_grown store longer more told further extra calls after call state grown went pushed all lies says =
    ap (λ (s : List ℕ). moments_before s further after state 0 []) grown ∙ ap (λ (t : List ℕ). moments_before (store ++ more) t after state 0 []) went
    ∙ ap (λ (cs : List Call). moments_before (store ++ more) (told ++ extra) cs state 0 []) pushed
    ∙ moments_before-push (store ++ more) (told ++ extra) calls call state 0 []
    ∙ ap (λ (moment : Moment). moment ∷ moments_before (store ++ more) (told ++ extra) calls state 0 []) (same_moment (crash_after_same store more calls state lies) front)
    ∙ ap (λ (earlier : List Moment). record { crash = crash_after store calls state; told = told } ∷ earlier)
    (moments_before_same store more told extra calls state 0 [] lies says (omega arith))
  where
    front : take (said_after calls 0) (told ++ extra) ≡ told
    front = ap (λ n. take n (told ++ extra)) all ∙ take-append-le (length told) told extra (omega arith) ∙ take_all (length told) told (omega arith)

    same_moment : {one other : CrashState} {before after : List ℕ} → one ≡ other → before ≡ after
        → ◌≡◌ {A = Moment} (record { crash = one; told = before }) (record { crash = other; told = after })
    same_moment crash words = λ i. record { crash = crash i; told = words i }

pub crash_grown : (store longer more : List ℕ) (calls after : List Call) (call : Call) (state : CrashState)
    → longer ≡ store ++ more → after ≡ calls ++ call ∷ [] → IsTrue (list_all (call_lies_in (length store)) calls)
    → crash_after longer after state ≡ crash_happens longer call (crash_after store calls state)
crash_grown store longer more calls after call state grown pushed lies =
    crash_pushed longer calls after call state pushed
    ∙ ap (crash_happens longer call) (ap (λ (s : List ℕ). crash_after s calls state) grown ∙ crash_after_same store more calls state lies)

-- the bytes of a front of the calls
pub all_lie_front : (size n : ℕ) (calls : List Call) → IsTrue (list_all (call_lies_in size) calls) → IsTrue (list_all (call_lies_in size) (take n calls))
all_lie_front size n [] h = none_left n
  where
    none_left : (n : ℕ) → IsTrue (list_all (call_lies_in size) (take n []))
    none_left zero = refl
    none_left (suc n) = refl
all_lie_front size zero (call ∷ calls) h = refl
all_lie_front size (suc n) (call ∷ calls) h = and_both _ _ (and_left _ _ h) (all_lie_front size n calls (and_right (call_lies_in size call) _ h))

-- the oldest names after a front of the calls, by its last one
pub oldest_step : (store : List ℕ) (calls : List Call) (i : ℕ) (call : Call) (state : CrashState) (name : List ℕ) → 0 < i → i ≤ length calls → call ≡ get_or calls (i - 1) call
    → get (crash_after store (take i calls) state).oldest name ≡ get (crash_happens store call (crash_after store (take (i - 1) calls) state)).oldest name
oldest_step store calls i call state name some within is =
    ap (λ (cs : List Call). get (crash_after store cs state).oldest name) (take_last calls i call some within is)
    ∙ ap (λ (s : CrashState). get s.oldest name) (crash_after-push store (take (i - 1) calls) call state)
