-- One more line of a body.
use Rattle.std.proofs.Common.{◌≡◌, ℕ, ◌+◌, ◌<◌, Bool, true, false, List, [], ◌∷◌, ◌++◌, length, refl, sym, ◌∙◌, ap, append_assoc, append-nil}
use Rattle.std.specs.Prelude.{nat_le, if◌then◌else◌, flat_map, Option, Some, option_to_list}
use Rattle.std.proofs.lemmas.Bool.{leb-false}
use Rattle.ts_model.specs.declared.signed.SignedTriple.{SignedTriple}
use Rattle.ts_nt.specs.LineRead.{Answers}
use Rattle.ts_script.specs.Lines.{LineView, line_view}
use Rattle.ts_nt.specs.Limits.{line_limit}
use Rattle.ts_script.specs.Body.{AreReadAs, SpellBody, IsFirstFault, IsFaultOf}
use Rattle.ts_script.specs.declared.body.BodyFault.{BodyFault}
use Rattle.ts_script.specs.declared.body.BodyFault.TheVariants.{Bad, TooLong}

abbrev pub seen_as : List ℕ → Bool → LineView
seen_as bytes long = record { bytes = bytes; too_long = long }

-- a line that is shown whole is the line
pub view-whole : (bytes seen : List ℕ) (long : Bool) → line_view bytes ≡ seen_as seen long → long ≡ false → bytes ≡ seen
view-whole bytes seen long e is = by_test (nat_le (length bytes) line_limit) e
  where
    by_test : (b : Bool) → (if b then seen_as bytes false else seen_as [] true) ≡ seen_as seen long → bytes ≡ seen
    by_test true e = ap (λ (line : LineView). line.bytes) e
    by_test false e = absurd (let f : true ≡ false = ap (λ (line : LineView). line.too_long) e ∙ is in cc)

-- a line that isn't shown is over its limit
pub view-over : (bytes seen : List ℕ) (long : Bool) → line_view bytes ≡ seen_as seen long → long ≡ true → line_limit < length bytes
view-over bytes seen long e is = by_test (nat_le (length bytes) line_limit) refl e
  where
    by_test : (b : Bool) → nat_le (length bytes) line_limit ≡ b → (if b then seen_as bytes false else seen_as [] true) ≡ seen_as seen long → line_limit < length bytes
    by_test true t e = absurd (let f : false ≡ true = ap (λ (line : LineView). line.too_long) e ∙ is in cc)
    by_test false t e = leb-false _ _ t

first_fault-more : (P : List ℕ → Type 0) (before : ℕ) (lines : List (List ℕ)) (bytes : List ℕ) (at : ℕ) → IsFirstFault P before lines at → IsFirstFault P before (lines ++ bytes ∷ []) at
first_fault-more P before lines bytes at found = record {
  front = found.front;
  line = found.line;
  rest = found.rest ++ bytes ∷ [];
  parts = ap (λ (l : List (List ℕ)). l ++ bytes ∷ []) found.parts ∙ append_assoc found.front (found.line ∷ found.rest) (bytes ∷ []);
  number = found.number;
  answers = found.answers;
  read = found.read;
  fault = found.fault;
}

pub fault-more : (before : ℕ) (lines : List (List ℕ)) (bytes : List ℕ) (body : List SignedTriple) (fault : BodyFault) → IsFaultOf before lines body (Some fault) → IsFaultOf before (lines ++ bytes ∷ []) body (Some fault)
fault-more before lines bytes body (Bad at) found = first_fault-more _ before lines bytes at found
fault-more before lines bytes body (TooLong at) found = first_fault-more _ before lines bytes at found

pub read-more : (lines : List (List ℕ)) (answers : List (Option SignedTriple)) (line : List ℕ) (answer : Option SignedTriple) → AreReadAs lines answers → Answers line answer → AreReadAs (lines ++ line ∷ []) (answers ++ answer ∷ [])
read-more [] [] line answer read one = (one, tt)
read-more [] (x ∷ answers) line answer read one = absurd read
read-more (l ∷ lines) [] line answer read one = absurd read
read-more (l ∷ lines) (x ∷ answers) line answer read one = (read.0, read-more lines answers line answer read.1 one)

named-more : (answers : List (Option SignedTriple)) (answer : Option SignedTriple) → flat_map option_to_list (answers ++ answer ∷ []) ≡ flat_map option_to_list answers ++ option_to_list answer
named-more [] answer = append-nil (option_to_list answer)
named-more (x ∷ answers) answer = ap (λ (l : List SignedTriple). option_to_list x ++ l) (named-more answers answer) ∙ sym (append_assoc (option_to_list x) (flat_map option_to_list answers) (option_to_list answer))

-- a line that is read goes on
pub spell-more : (lines : List (List ℕ)) (body : List SignedTriple) (line : List ℕ) (answer : Option SignedTriple) → SpellBody lines body → Answers line answer → SpellBody (lines ++ line ∷ []) (body ++ option_to_list answer)
spell-more lines body line answer spelled one =
    (spelled.0 ++ answer ∷ [], read-more lines spelled.0 line answer spelled.1 one, ap (λ (l : List SignedTriple). l ++ option_to_list answer) spelled.2 ∙ sym (named-more spelled.0 answer))

-- the first line at fault
pub fault-here : (P : List ℕ → Type 0) (before : ℕ) (lines : List (List ℕ)) (body : List SignedTriple) (line : List ℕ) (at : ℕ) → at ≡ before + length lines + 1 → SpellBody lines body → P line → IsFirstFault P before (lines ++ line ∷ []) at
fault-here P before lines body line at number spelled fault = record {
  front = lines;
  line = line;
  rest = [];
  parts = refl;
  number = number;
  answers = spelled.0;
  read = spelled.1;
  fault = fault;
}
