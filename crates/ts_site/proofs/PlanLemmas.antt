-- Plans that are counted one after the other.
use Rattle.std.proofs.Common.{◌≡◌, ◌<◌, ◌+◌, ◌-◌, Bool, true, false, ℕ, zero, suc, List, [], ◌∷◌, ◌++◌, length, take, drop, map, reverse, find, get_or, set, Some, option_map, refl, sym, ap, ◌∙◌, arith, add-one}
use Rattle.std.specs.Prelude.{if◌then◌else◌}
use Rattle.std.proofs.lemmas.List.{reverse-append, take_more}
use Rattle.ts_site.specs.declared.plan.CallKind.{CallKind}
use Rattle.ts_site.specs.declared.plan.Plan.{Plan}
use Rattle.ts_site.specs.MemorySite.{speaks_of, is_due, nearer, planned}

-- a list of which the front is changed
abbrev changed : (f : Plan → Plan) (xs : List Plan) (i : ℕ) → List Plan
changed f xs i = map f (take i xs) ++ drop i xs

at_changed : (f : Plan → Plan) (xs : List Plan) (i : ℕ) (d : Plan) → i < length xs → get_or (changed f xs i) i d ≡ get_or xs i d
at_changed f [] i d h = absurd (omega arith)
at_changed f (x ∷ xs) zero d h = refl
at_changed f (x ∷ xs) (suc i) d h = at_changed f xs i d (omega arith)

set_changed : (f : Plan → Plan) (xs : List Plan) (i : ℕ) (d : Plan) → i < length xs → set (changed f xs i) i (f (get_or xs i d)) ≡ changed f xs (suc i)
set_changed f [] i d h = absurd (omega arith)
set_changed f (x ∷ xs) zero d h = refl
set_changed f (x ∷ xs) (suc i) d h = ap (λ l. f x ∷ l) (set_changed f xs i d (omega arith))

-- the plans after one more of them was counted
pub counted_more : (kind : CallKind) (plans before after : List Plan) (i : ℕ) (d counted : Plan) → i < length plans
    → before ≡ map (nearer kind) (take i plans) ++ drop i plans → counted ≡ nearer kind (get_or before i d) → after ≡ set before i counted
    → after ≡ map (nearer kind) (take (i + 1) plans) ++ drop (i + 1) plans
counted_more kind plans before after i d counted within is now set_so =
    let old : get_or before i d ≡ get_or plans i d = ap (λ l. get_or l i d) is ∙ at_changed (nearer kind) plans i d within in
    set_so ∙ ap (λ l. set l i counted) is ∙ ap (set (changed (nearer kind) plans i) i) (now ∙ ap (nearer kind) old)
    ∙ set_changed (nearer kind) plans i d within ∙ ap (changed (nearer kind) plans) (sym (add-one i))

find_first : (test : Plan → Bool) (plan : Plan) (plans : List Plan) → option_map (λ plan. plan.how) (find test (plan ∷ plans))
    ≡ (if test plan then Some plan.how else option_map (λ plan. plan.how) (find test plans))
find_first test plan plans = by_case (test plan) refl
  where
    by_case : (b : Bool) → test plan ≡ b → option_map (λ plan. plan.how) (if b then Some plan else find test plans) ≡ (if b then Some plan.how else option_map (λ plan. plan.how) (find test plans))
    by_case true is = refl
    by_case false is = refl

planned-push : (kind : CallKind) (plans : List Plan) (plan : Plan)
    → planned kind (plans ++ plan ∷ []) ≡ (if is_due kind plan then Some plan.how else planned kind plans)
planned-push kind plans plan = ap (λ l. option_map (λ plan. plan.how) (find (is_due kind) l)) (reverse-append plans (plan ∷ [])) ∙ find_first (is_due kind) plan (reverse plans)

-- the fault that is planned by one plan more
pub planned_more : (kind : CallKind) (plans before : List Plan) (i : ℕ) (d : Plan) → i < length plans → before ≡ map (nearer kind) (take i plans) ++ drop i plans
    → planned kind (take (i + 1) plans) ≡ (if is_due kind (get_or before i d) then Some (get_or before i d).how else planned kind (take i plans))
planned_more kind plans before i d within is =
    let old : get_or plans i d ≡ get_or before i d = sym (ap (λ l. get_or l i d) is ∙ at_changed (nearer kind) plans i d within) in
    ap (planned kind) (take_more plans i d within) ∙ planned-push kind (take i plans) (get_or plans i d)
    ∙ ap (λ (p : Plan). if is_due kind p then Some p.how else planned kind (take i plans)) old

how_kept_by : (b : Bool) (plan : Plan) → (if b then record plan { left = plan.left - 1 } else plan).how ≡ plan.how
how_kept_by true plan = refl
how_kept_by false plan = refl

pub how_kept : (kind : CallKind) (plan : Plan) → (nearer kind plan).how ≡ plan.how
how_kept kind plan = how_kept_by (speaks_of kind plan) plan
