-- Fronts of a text: which are the longest, and how they are written in bytes.
use Rattle.std.specs.Prelude.{◌≡◌, ◌≢◌, ℕ, ◌<◌, ◌≤◌, List, [], ◌∷◌, ◌++◌, length, All, IsUtf8, chars, encode_utf8_all, refl}
use Rattle.std.proofs.Common.{sym, ap, subst, ◌∙◌, arith, append_assoc, length-append}
use Rattle.std.proofs.lemmas.List.{nil_from_length}
use Rattle.std.proofs.lemmas.List.Elements.{All-nil, All-cons, All-head, All-tail, All-push}
use Rattle.std.proofs.lemmas.Str.{chars-nil, encode_ascii, encodes-append, encodes-chars, length-le-encodes}
use Rattle.ts_model.specs.Longest.{IsLongest}

-- no P at the front of the text
abbrev pub Stops : (ℕ → Type 0) → List ℕ → Type 0
Stops P text = (c : ℕ) (more : List ℕ) → P c → text ≡ c ∷ more → ⊥

-- one or more P
abbrev pub Part : (ℕ → Type 0) → List ℕ → Type 0
Part P part = (part ≢ []) × All P part

pub same_heads : (x y : ℕ) (xs ys : List ℕ) → x ∷ xs ≡ y ∷ ys → (x ≡ y) × (xs ≡ ys)
same_heads x y xs ys same = (cc, cc)

pub same_fronts : (a b r s : List ℕ) → length a ≡ length b → a ++ r ≡ b ++ s → (a ≡ b) × (r ≡ s)
same_fronts [] [] r s long same = (refl, same)
same_fronts [] (y ∷ b) r s long same = absurd (omega arith)
same_fronts (x ∷ a) [] r s long same = absurd (omega arith)
same_fronts (x ∷ a) (y ∷ b) r s long same =
    let heads = same_heads x y (a ++ r) (b ++ s) same in
    let shorter : length a ≡ length b = omega arith in
    let others = same_fronts a b r s shorter (heads.1) in
    (λ i. heads.0 i ∷ others.0 i, others.1)

-- there is one longest front
pub longest_once : (P : List ℕ → Type 0) (text a b r s : List ℕ) → IsLongest P text a r → IsLongest P text b s → (a ≡ b) × (r ≡ s)
longest_once P text a b r s first second =
    let under = first.longest b s second.has second.parts in
    let over = second.longest a r first.has first.parts in
    same_fronts a b r s (omega arith) (sym first.parts ∙ second.parts)

-- a front of P alone lies within one behind which there is no P
pub within : (P : ℕ → Type 0) (xs rest ys more : List ℕ) → All P ys → Stops P rest → xs ++ rest ≡ ys ++ more → (middle : List ℕ) × (xs ≡ ys ++ middle) × (more ≡ middle ++ rest)
within P xs rest [] more all stops same = (xs, refl, sym same)
within P [] rest (y ∷ ys) more all stops same = absurd (stops y (ys ++ more) (All-head P y ys all) same)
within P (x ∷ xs) rest (y ∷ ys) more all stops same =
    let heads = same_heads x y (xs ++ rest) (ys ++ more) same in
    let others = within P xs rest ys more (All-tail P y ys all) stops (heads.1) in
    (others.0, λ i. heads.0 i ∷ others.1 i, others.2)

-- what has P has Q in each character, and no Q stands behind the front
pub longest_before : (P : List ℕ → Type 0) (Q : ℕ → Type 0) (front rest : List ℕ) → P front → Stops Q rest → ((other : List ℕ) → P other → All Q other) → IsLongest P (front ++ rest) front rest
longest_before P Q front rest has stops all = record {
  has = has;
  parts = refl;
  longest = λ other more p same.
      let parts = within Q front rest other more (all other p) stops same in
      let long : length front ≡ length (other ++ parts.0) = ap length (parts.1) in
      omega (arith, long, length-append other (parts.0));
}

pub all_longest : (P : ℕ → Type 0) (text front rest : List ℕ) → All P front → Stops P rest → text ≡ front ++ rest → IsLongest (All P) text front rest
all_longest P text front rest all stops parts =
    let here : IsLongest (All P) (front ++ rest) front rest = longest_before (All P) P front rest all stops (λ other p. p) in
    record { has = all; parts = parts; longest = λ other more p same. here.longest other more p (sym parts ∙ same) }

pub all_stops : (P : ℕ → Type 0) (text front rest : List ℕ) → IsLongest (All P) text front rest → Stops P rest
all_stops P text front rest longest c more p begins =
    let longer : length (front ++ c ∷ []) ≤ length front =
    longest.longest (front ++ c ∷ []) more (All-push P front c longest.has p) (longest.parts ∙ ap (λ r. front ++ r) begins ∙ sym (append_assoc front (c ∷ []) more)) in
    omega (arith, longer, length-append front (c ∷ []))

-- as long as it can be, and not empty
pub part_longest : (P : ℕ → Type 0) (text front rest : List ℕ) → IsLongest (All P) text front rest → front ≢ [] → IsLongest (Part P) text front rest
part_longest P text front rest longest some = record {
  has = (some, longest.has);
  parts = longest.parts;
  longest = λ other more p same. longest.longest other more (p.1) same;
}

pub part_stops : (P : ℕ → Type 0) (text front rest : List ℕ) → IsLongest (Part P) text front rest → Stops P rest
part_stops P text front rest longest = all_stops P text front rest (record {
  has = longest.has.1;
  parts = longest.parts;
  longest = λ other more p same. elim_empty other more p same;
}) where
  elim_empty : (other more : List ℕ) → All P other → text ≡ other ++ more → length other ≤ length front
  elim_empty [] more p same = omega arith
  elim_empty (c ∷ other) more p same = longest.longest (c ∷ other) more ((λ e. cc), p) same

pub no_part : (P : ℕ → Type 0) (text front rest : List ℕ) → IsLongest (All P) text front rest → front ≡ [] → (part more : List ℕ) → Part P part → text ≢ part ++ more
no_part P text front rest longest empty part more p same =
    let short = longest.longest part more (p.1) same in
    let none : length front ≡ 0 = ap length empty in
    p.0 (nil_from_length part (omega arith))

-- P alone has been read
pub record RunSoFar (P : ℕ → Type 0) (text rest : List ℕ) : Type 0 where
  pub front : List ℕ
  pub all : All P front
  pub parts : text ≡ front ++ rest

pub run_begins : (P : ℕ → Type 0) (text : List ℕ) → RunSoFar P text text
run_begins P text = record { front = []; all = All-nil P; parts = refl }

pub run_more : (P : ℕ → Type 0) (text rest next : List ℕ) (c : ℕ) → RunSoFar P text rest → rest ≡ c ∷ next → P c → RunSoFar P text next
run_more P text rest next c s begins p = record {
  front = s.front ++ c ∷ [];
  all = All-push P s.front c s.all p;
  parts = s.parts ∙ ap (λ r. s.front ++ r) begins ∙ sym (append_assoc s.front (c ∷ []) next);
}

pub run_ends : (P : ℕ → Type 0) (text rest : List ℕ) → RunSoFar P text rest → Stops P rest → (front : List ℕ) × IsLongest (All P) text front rest
run_ends P text rest s stops = (s.front, all_longest P text s.front rest s.all stops s.parts)

-- the characters at the front of a text, in bytes
pub front_bytes : (text rest front : List ℕ) → IsUtf8 text → IsUtf8 rest → chars text ≡ front ++ chars rest → text ≡ encode_utf8_all front ++ rest
front_bytes text rest front text_is rest_is parts =
    sym (encodes-chars text text_is) ∙ ap encode_utf8_all parts ∙ encodes-append front (chars rest) ∙ ap (λ r. encode_utf8_all front ++ r) (encodes-chars rest rest_is)

-- a front that has no bytes is empty, and one that is empty has none
pub front_empty : (text rest front : List ℕ) → IsUtf8 text → IsUtf8 rest → chars text ≡ front ++ chars rest → length text ≤ length rest → front ≡ []
front_empty text rest front text_is rest_is parts short =
    let long : length text ≡ length (encode_utf8_all front ++ rest) = ap length (front_bytes text rest front text_is rest_is parts) in
    nil_from_length front (omega (arith, long, length-append (encode_utf8_all front) rest, length-le-encodes front))

pub front_full : (text rest front : List ℕ) → IsUtf8 text → IsUtf8 rest → chars text ≡ front ++ chars rest → length rest < length text → front ≢ []
front_full text rest front text_is rest_is parts longer empty =
    let bytes : text ≡ encode_utf8_all [] ++ rest = front_bytes text rest [] text_is rest_is (parts ∙ ap (λ f. f ++ chars rest) empty) in
    let long : length text ≡ length rest = ap length bytes in
    omega arith

-- below 128 a character is its byte
pub ascii_head : (c : ℕ) (cs : List ℕ) → c < 128 → encode_utf8_all (c ∷ cs) ≡ c ∷ encode_utf8_all cs
ascii_head c cs small = ap (λ bytes. bytes ++ encode_utf8_all cs) (encode_ascii c small)

pub ascii_as_written : (cs : List ℕ) → All (λ c. c < 128) cs → encode_utf8_all cs ≡ cs
ascii_as_written [] all = refl
ascii_as_written (c ∷ cs) all =
    ascii_head c cs (All-head (λ c. c < 128) c cs all) ∙ ap (λ r. c ∷ r) (ascii_as_written cs (All-tail (λ c. c < 128) c cs all))

pub all_front : (P : ℕ → Type 0) (xs ys : List ℕ) → All P (xs ++ ys) → All P xs × All P ys
all_front P [] ys all = (All-nil P, all)
all_front P (x ∷ xs) ys all =
    let others = all_front P xs ys (All-tail P x (xs ++ ys) all) in
    (All-cons P x xs (All-head P x (xs ++ ys) all) (others.0), others.1)

-- there is nothing at the front of an empty text
pub stops_empty : (P : ℕ → Type 0) (text : List ℕ) → text ≡ [] → Stops P (chars text)
stops_empty P text empty c more p begins = let none : chars text ≡ [] = ap chars empty ∙ chars-nil in cc

pub stops_other : (P : ℕ → Type 0) (text rest : List ℕ) (d : ℕ) → (P d → ⊥) → text ≡ d ∷ rest → Stops P text
stops_other P text rest d other is c more p begins =
    let heads = same_heads c d more rest (sym begins ∙ is) in
    other (subst P (heads.0) p)

-- the text is shorter behind its longest front of P exactly where P begins it
pub some_part : (P : ℕ → Type 0) (text rest : List ℕ) → IsUtf8 text → IsUtf8 rest → (front : List ℕ) × IsLongest (All P) (chars text) front (chars rest) → length rest < length text
    → (part : List ℕ) × IsLongest (Part P) (chars text) part (chars rest)
some_part P text rest text_is rest_is (front, longest) longer =
    (front, part_longest P (chars text) front (chars rest) longest (front_full text rest front text_is rest_is longest.parts longer))

pub no_part_left : (P : ℕ → Type 0) (text rest : List ℕ) → IsUtf8 text → IsUtf8 rest → (front : List ℕ) × IsLongest (All P) (chars text) front (chars rest) → length text ≤ length rest
    → (part more : List ℕ) → Part P part → chars text ≢ part ++ more
no_part_left P text rest text_is rest_is (front, longest) short =
    no_part P (chars text) front (chars rest) longest (front_empty text rest front text_is rest_is longest.parts short)
