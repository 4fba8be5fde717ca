use Rattle.std.specs.Prelude.{◌≡◌, ℕ, ◌++◌, List, take, chars, encode_utf8_all, slice_range, Result, Ok, Err, IfOk, is_ok, if◌then◌else◌}
use Rattle.std.proofs.Common.{ap, ◌∙◌, arith}
use Rattle.ts_nt.proofs.Seams.{seam, seam_boundary, seam_front}
use Rattle.ts_nt.proofs.verbatim.append_front.Goals as goal

pub overflow_sub-text : goal.overflow_sub-text
overflow_sub-text c = (seam _ _ _ c.utf8.text c.utf8.rest c.requires.1).0

pub range-requires-clause-end_boundary : goal.range-requires-clause-end_boundary
range-requires-clause-end_boundary c = seam_boundary _ _ _ c.utf8.text c.utf8.rest c.requires.1

from_start : (text : List ℕ) (n : ℕ) → slice_range text 0 n ≡ take n text
from_start text n = grind arith

appended : {E : Type 0} (result : Result (Unit {0}) E) (old new part text rest : List ℕ)
    → new ≡ (if is_ok result then old ++ part else old)
    → ((front : List ℕ) → chars text ≡ front ++ chars rest → part ≡ encode_utf8_all front)
    → IfOk result (λ _. (front : List ℕ) → chars text ≡ front ++ chars rest → new ≡ old ++ encode_utf8_all front)
appended (Ok x) old new part text rest pushed is = λ front parts. pushed ∙ ap (λ p. old ++ p) (is front parts)
appended (Err e) old new part text rest pushed is = tt

pub returns : goal.returns
returns c =
    appended c.push_str.result _ _ c.range.result.now c.args.text.now c.args.rest.now c.push_str.ensures.bytes
    (λ front parts. c.range.ensures.value ∙ from_start _ _ ∙ seam_front _ _ front c.utf8.text c.utf8.rest parts)
