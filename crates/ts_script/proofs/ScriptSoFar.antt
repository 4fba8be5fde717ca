-- The lines of a script that were read so far.
use Rattle.std.proofs.Common.{◌≡◌, ℕ, ◌+◌, List, [], ◌∷◌, ◌++◌, length, map, refl, sym, ◌∙◌, ap, arith, append_assoc, length-append}
use Rattle.ts_script.specs.Cutting.{lines_to_come, GivesLine}
use Rattle.ts_script.specs.Lines.{LineView, line_view}
use Rattle.ts_script.specs.ScriptBody.{AreAll}
use Rattle.ts_script.specs.declared.cutter.LineCutter.{LineCutter}
use Rattle.ts_script.proofs.BodySoFar.{map-first, next_of-some}

pub all-more : (P : List ℕ → Type 0) (lines : List (List ℕ)) (line : List ℕ) → AreAll P lines → P line → AreAll P (lines ++ line ∷ [])
all-more P [] line are is = (is, tt)
all-more P (first ∷ lines) line are is = (are.0, all-more P lines line are.1 is)

-- ---- lines of which each has P, where the source tells what is left

-- of these lines the first were read, and the others are to come
pub record IsUpTo (P : List ℕ → Type 0) (start now : LineCutter) (left_now : List ℕ) (lines : List (List ℕ)) : Type 0 where
  pub done : List (List ℕ)
  pub rest : List (List ℕ)
  pub parts : lines ≡ done ++ rest
  pub to_come : lines_to_come now left_now ≡ map line_view rest
  pub number : now.number ≡ start.number + length done
  pub have : AreAll P done

abbrev pub AreUpTo : (List ℕ → Type 0) → LineCutter → List ℕ → LineCutter → List ℕ → Type 0
AreUpTo P start left_start now left_now = (lines : List (List ℕ)) → lines_to_come start left_start ≡ map line_view lines → IsUpTo P start now left_now lines

pub up_to-none : (P : List ℕ → Type 0) (start : LineCutter) (left : List ℕ) → AreUpTo P start left start left
up_to-none P start left lines is = record { done = []; rest = lines; parts = refl; to_come = is; number = omega arith; have = tt }

-- the next line that is to come, and those behind it
pub record Splits (line : LineView) (new : LineCutter) (left_new : List ℕ) (rest : List (List ℕ)) : Type 0 where
  pub first : List ℕ
  pub others : List (List ℕ)
  pub parts : rest ≡ first ∷ others
  pub seen : line_view first ≡ line
  pub to_come : lines_to_come new left_new ≡ map line_view others

pub split : (cur new : LineCutter) (left_cur left_new : List ℕ) (rest : List (List ℕ)) (line : LineView)
    → lines_to_come cur left_cur ≡ map line_view rest → lines_to_come cur left_cur ≡ line ∷ lines_to_come new left_new → Splits line new left_new rest
split cur new left_cur left_new rest line is next =
    let first = map-first rest line (lines_to_come new left_new) (sym is ∙ next) in
    record { first = first.0; others = first.1.0; parts = first.1.1; seen = first.1.2; to_come = sym first.1.3 }

-- one more line
pub up_to-more : (P : List ℕ → Type 0) (start cur new : LineCutter) (left_start left_cur left_new : List ℕ) (line : LineView)
    → AreUpTo P start left_start cur left_cur → lines_to_come cur left_cur ≡ line ∷ lines_to_come new left_new → new.number ≡ cur.number + 1
    → ((bytes : List ℕ) → line_view bytes ≡ line → P bytes) → AreUpTo P start left_start new left_new
up_to-more P start cur new left_start left_cur left_new line so_far next number has lines is =
    let was = so_far lines is in
    let cut = split cur new left_cur left_new was.rest line was.to_come next in
    record {
      done = was.done ++ cut.first ∷ [];
      rest = cut.others;
      parts = was.parts ∙ ap (λ (ls : List (List ℕ)). was.done ++ ls) cut.parts ∙ sym (append_assoc was.done (cut.first ∷ []) cut.others);
      to_come = cut.to_come;
      number = omega (arith, number, was.number, length-append was.done (cut.first ∷ []));
      have = all-more P was.done cut.first was.have (has cut.first cut.seen);
    }

-- ---- on every source

-- some lines were read, as many as were given, and each has P
abbrev pub HaveRead : (List ℕ → Type 0) → ℕ → ℕ → Type 0
HaveRead P before number = (lines : List (List ℕ)) × (number ≡ before + length lines) × AreAll P lines

pub have_read-more : (P : List ℕ → Type 0) (before : ℕ) (cur new : LineCutter) (taken : List ℕ) (line : LineView) → HaveRead P before cur.number
    → GivesLine cur new taken line → ((bytes : List ℕ) → line_view bytes ≡ line → P bytes) → HaveRead P before new.number
have_read-more P before cur new taken line was gives has =
    let some = next_of-some cur new taken line gives.next in
    let count : cur.number ≡ before + length was.0 = was.1 in (
      was.0 ++ some.0 ∷ [],
      omega (arith, gives.number, count, length-append was.0 (some.0 ∷ [])),
      all-more P was.0 some.0 was.2 (has some.0 some.1),
    )
