use Rattle.std.proofs.Common.{◌≡◌, ℕ, ◌+◌, ◌^◌, ◌<◌, false, List, ◌++◌, length, take, drop, refl, sym, ◌∙◌, ap, arith, append_assoc}
use Rattle.std.proofs.lemmas.List.{take_at, take-take, take-append-drop, drop-take}
use Rattle.ts_vbyte.specs.Spelling.{spelling, NumberSays}
use Rattle.ts_vbyte.proofs.SpellingLemmas.{spelling_cancels}
use Rattle.ts_front.specs.Dictionary.{whole}
use Rattle.ts_front.specs.Pieces.{piece_bytes}
use Rattle.ts_front.proofs.EntriesLemmas.{piece_other}

-- a piece that is no head begins with what it shares
pub shared_says : (bytes suffix rest : List ℕ) (shared : ℕ) → shared < 2 ^ 64 → bytes ≡ piece_bytes false shared suffix ++ rest
    → NumberSays (take (length (spelling shared)) bytes) shared
shared_says bytes suffix rest shared h e = record {
  spelled = ap (take (length (spelling shared))) (e ∙ ap (λ l. l ++ rest) (piece_other shared suffix) ∙ append_assoc (spelling shared) (whole suffix) rest)
      ∙ take_at (spelling shared) (whole suffix ++ rest) (length (spelling shared)) refl;
  fits = h;
}

-- and goes on with a whole text
pub shared_read : (bytes suffix rest : List ℕ) (shared size found : ℕ) → bytes ≡ piece_bytes false shared suffix ++ rest
    → NumberSays (take size bytes) found → drop size bytes ≡ whole suffix ++ rest
shared_read bytes suffix rest shared size found e says =
    let both : (found ≡ shared) × (drop size bytes ≡ whole suffix ++ rest) =
    spelling_cancels found shared (drop size bytes) (whole suffix ++ rest)
    (ap (λ l. l ++ drop size bytes) (sym says.spelled) ∙ take-append-drop size bytes ∙ e
    ∙ ap (λ l. l ++ rest) (piece_other shared suffix) ∙ append_assoc (spelling shared) (whole suffix) rest) in
    both.1

pub piece_of_parts : (bytes suffix : List ℕ) (shared size more : ℕ) → NumberSays (take size bytes) shared → take more (drop size bytes) ≡ whole suffix
    → take (size + more) bytes ≡ piece_bytes false shared suffix
piece_of_parts bytes suffix shared size more says e =
    sym (take-append-drop size (take (size + more) bytes))
    ∙ ap (λ l. l ++ drop size (take (size + more) bytes)) (take-take size (size + more) bytes (omega arith) ∙ says.spelled)
    ∙ ap (λ l. spelling shared ++ l) (drop-take size more bytes ∙ e)
    ∙ sym (piece_other shared suffix)
