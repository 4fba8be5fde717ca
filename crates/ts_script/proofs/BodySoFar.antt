-- The lines of a body that were read so far.
use Rattle.std.proofs.Common.{◌≡◌, inl, inr, ℕ, zero, suc, ◌+◌, ◌<◌, Bool, true, false, List, [], ◌∷◌, ◌++◌, length, map, drop, refl, sym, ◌∙◌, ap, subst, arith, append_assoc, append-nil, length-append}
use Rattle.std.specs.Prelude.{nat_le, if◌then◌else◌, Option}
use Rattle.std.proofs.lemmas.Bool.{leb-true}
use Rattle.ts_model.specs.declared.signed.SignedTriple.{SignedTriple}
use Rattle.ts_script.specs.Lines.{LineView, line_view, overlong, lines_after, lines_behind}
use Rattle.ts_nt.specs.Limits.{line_limit}
use Rattle.ts_script.specs.Cutting.{lines_to_come, view_of, IsNext, GivesLine}
use Rattle.ts_script.specs.declared.cutter.Line.{Line}
use Rattle.ts_script.specs.Body.{IsFaultOf}
use Rattle.ts_script.specs.declared.cutter.LineCutter.{LineCutter}
use Rattle.ts_script.specs.declared.body.BodyFault.{BodyFault}

-- of these lines the first were read, and the others are to come
pub record IsReadUpTo (start now : LineCutter) (left_now : List ℕ) (body : List SignedTriple) (fault : Option BodyFault) (lines : List (List ℕ)) : Type 0 where
  pub done : List (List ℕ)
  pub rest : List (List ℕ)
  pub parts : lines ≡ done ++ rest
  pub to_come : lines_to_come now left_now ≡ map line_view rest
  pub number : now.number ≡ start.number + length done
  pub read : IsFaultOf start.number done body fault

abbrev pub IsReadSoFar : LineCutter → List ℕ → LineCutter → List ℕ → List SignedTriple → Option BodyFault → Type 0
IsReadSoFar start left_start now left_now body fault =
    (lines : List (List ℕ)) → lines_to_come start left_start ≡ map line_view lines → IsReadUpTo start now left_now body fault lines

-- a list of lines that begins with a line as it is given
pub map-first : (rest : List (List ℕ)) (line : LineView) (lines : List LineView) → map line_view rest ≡ line ∷ lines → (first : List ℕ) × ((others : List (List ℕ)) × (rest ≡ first ∷ others) × (line_view first ≡ line) × (map line_view others ≡ lines))
map-first [] line lines e = absurd (cc)
map-first (first ∷ others) line lines e = (first, (others, refl, ap (λ (ls : List LineView). head_or line ls) e, ap (λ (ls : List LineView). drop 1 ls) e))
  where
    head_or : LineView → List LineView → LineView
    head_or d [] = d
    head_or d (x ∷ xs) = x

pub map-none : (rest : List (List ℕ)) → map line_view rest ≡ [] → rest ≡ []
map-none [] e = refl
map-none (first ∷ others) e = absurd (cc)

-- one more line
pub read-one : (start cur new : LineCutter) (left_start left_cur left_new : List ℕ) (body body' : List SignedTriple) (fault fault' : Option BodyFault) (line : Line)
    → IsReadSoFar start left_start cur left_cur body fault
    → lines_to_come cur left_cur ≡ view_of line ∷ lines_to_come new left_new
    → new.number ≡ cur.number + 1
    → line.number ≡ cur.number + 1
    → ((before : ℕ) (lines : List (List ℕ)) (bytes : List ℕ) → line_view bytes ≡ view_of line → line.number ≡ before + length lines + 1
    → IsFaultOf before lines body fault → IsFaultOf before (lines ++ bytes ∷ []) body' fault')
    → IsReadSoFar start left_start new left_new body' fault'
read-one start cur new left_start left_cur left_new body body' fault fault' line so_far next number said add lines is =
    let was = so_far lines is in
    let split = map-first was.rest (view_of line) (lines_to_come new left_new) (sym was.to_come ∙ next) in
    record {
      done = was.done ++ split.0 ∷ [];
      rest = split.1.0;
      parts = was.parts ∙ ap (λ (ls : List (List ℕ)). was.done ++ ls) split.1.1 ∙ sym (append_assoc was.done (split.0 ∷ []) split.1.0);
      to_come = sym split.1.3;
      number = omega (arith, number, was.number, length-append was.done (split.0 ∷ []));
      read = add start.number was.done split.0 split.1.2 (omega (arith, said, was.number)) was.read;
    }

-- no more lines
pub read-all : (start cur : LineCutter) (left_start left_cur : List ℕ) (body : List SignedTriple) (fault : Option BodyFault) (lines : List (List ℕ))
    → IsReadSoFar start left_start cur left_cur body fault → lines_to_come cur left_cur ≡ [] → lines_to_come start left_start ≡ map line_view lines → IsFaultOf start.number lines body fault
read-all start cur left_start left_cur body fault lines so_far none is =
    let was = so_far lines is in
    let all : lines ≡ was.done = was.parts ∙ ap (λ (ls : List (List ℕ)). was.done ++ ls) (map-none was.rest (sym was.to_come ∙ none)) ∙ append-nil was.done in
    subst (λ (ls : List (List ℕ)). IsFaultOf start.number ls body fault) (sym all) was.read

-- ---- on every source

-- some lines were read, as many as were given
abbrev pub IsReadFrom : ℕ → ℕ → List SignedTriple → Option BodyFault → Type 0
IsReadFrom before number body fault = (lines : List (List ℕ)) × (number ≡ before + length lines) × IsFaultOf before lines body fault

long_line : (n : ℕ) → (bytes : List ℕ) × (n < length bytes)
long_line zero = (0 ∷ [], omega arith)
long_line (suc n) = let shorter = long_line n in (0 ∷ shorter.0, let longer : n < length shorter.0 = shorter.1 in omega (arith, longer))

view-overlong : (bytes : List ℕ) → line_limit < length bytes → line_view bytes ≡ overlong
view-overlong bytes over = by_test (nat_le (length bytes) line_limit) refl
  where
    by_test : (b : Bool) → nat_le (length bytes) line_limit ≡ b → (if b then record { bytes = bytes; too_long = false } else overlong) ≡ overlong
    by_test true t = absurd (let within = leb-true _ _ t in omega arith)
    by_test false t = refl

-- a line to come is given of some bytes
view_of-some : (is_overlong after_return : Bool) (text : List ℕ) (line : LineView) (lines : List LineView) → lines_behind is_overlong after_return text ≡ line ∷ lines
    → (bytes : List ℕ) × (line_view bytes ≡ line)
unfolding lines_behind
view_of-some true after_return text line lines e =
    let long = long_line line_limit in
    let same : overlong ≡ line = cc in
    (long.0, view-overlong long.0 long.1 ∙ same)
view_of-some false after_return text line lines e =
    let split = map-first (lines_after after_return text) line lines e in (split.0, split.1.2)

pub next_of-some : (cur new : LineCutter) (bytes : List ℕ) (line : LineView) → IsNext cur new bytes line → (bytes : List ℕ) × (line_view bytes ≡ line)
next_of-some cur new bytes line (inl next) = view_of-some cur.is_overlong cur.after_return _ line _ (next [])
next_of-some cur new bytes line (inr last) = view_of-some cur.is_overlong cur.after_return _ line _ last.1

-- one more line
pub read-some : (before : ℕ) (cur new : LineCutter) (taken : List ℕ) (body body' : List SignedTriple) (fault fault' : Option BodyFault) (line : Line)
    → IsReadFrom before cur.number body fault
    → GivesLine cur new taken (view_of line)
    → line.number ≡ cur.number + 1
    → ((before : ℕ) (lines : List (List ℕ)) (bytes : List ℕ) → line_view bytes ≡ view_of line → line.number ≡ before + length lines + 1
    → IsFaultOf before lines body fault → IsFaultOf before (lines ++ bytes ∷ []) body' fault')
    → IsReadFrom before new.number body' fault'
read-some before cur new taken body body' fault fault' line was gives said add =
    let some = next_of-some cur new taken (view_of line) gives.next in
    let count : cur.number ≡ before + length was.0 = was.1 in (
      was.0 ++ some.0 ∷ [],
      omega (arith, gives.number, count, length-append was.0 (some.0 ∷ [])),
      add before was.0 some.0 some.1 (omega (arith, said, count)) was.2,
    )
