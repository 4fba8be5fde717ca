use Rattle.std.proofs.Common.{◌≡◌, ℕ, ◌+◌, ◌-◌, ◌*◌, ◌/◌, ◌<◌, List, [], ◌∷◌, ◌++◌, length, get_or, arith, ◌∙◌, ap, inl, inr}
use Rattle.std.specs.Cmp.Lexicographic.{slice_cmp, nat_list_cmp_total}
use Rattle.std.specs.Ordering.{nat_cmp}
use Rattle.std.specs.declared.cmp.Ordering.TheVariants.{Less}
use Rattle.std.proofs.lemmas.Bool.{cases_lt}
use Rattle.std.proofs.lemmas.List.{length_push}
use Rattle.std.proofs.lemmas.List.FromFn.{length-map-range_with_len, get_or-map-range_with_len}
use Rattle.std.proofs.lemmas.Map.Keys.{Less-from_sorted, sorted_from_all_adjacent}
use Rattle.ts_front.specs.Shared.{text_at}
use Rattle.ts_front.specs.Dictionary.{Rising, place_of, block_starts}
use Rattle.ts_front.proofs.EntriesLemmas.{text_before, text_last}

-- an earlier text is below a later one
pub rising_at : (texts : List (List ℕ)) (i j : ℕ) → Rising texts → i < j → j < length texts → slice_cmp nat_cmp (text_at texts i) (text_at texts j) ≡ Less
rising_at texts i j h k l = Less-from_sorted (slice_cmp nat_cmp) texts i j [] h k l

-- a rising list with a greater text at its end
pub rising_push : (texts : List (List ℕ)) (text : List ℕ) → Rising texts
    → (0 < length texts → slice_cmp nat_cmp (text_at texts (length texts - 1)) text ≡ Less) → Rising (texts ++ text ∷ [])
rising_push texts text h last =
    sorted_from_all_adjacent nat_list_cmp_total (texts ++ text ∷ []) [] (λ k l.
    let many : length (texts ++ text ∷ []) ≡ length texts + 1 = length_push texts text in
    elim (cases_lt (k + 1) (length texts)) [
      | inl below ↦
          ap (λ t. slice_cmp nat_cmp t (text_at (texts ++ text ∷ []) (k + 1))) (text_before texts text k (omega arith))
          ∙ ap (slice_cmp nat_cmp (text_at texts k)) (text_before texts text (k + 1) below)
          ∙ rising_at texts k (k + 1) h (omega arith) below
      | inr top ↦
          (let place : k ≡ length texts - 1 = omega arith in
          ap (λ t. slice_cmp nat_cmp t (text_at (texts ++ text ∷ []) (k + 1))) (text_before texts text k (omega arith) ∙ ap (text_at texts) place)
          ∙ ap (slice_cmp nat_cmp (text_at texts (length texts - 1))) (text_last texts text (k + 1) (omega arith))
          ∙ last (omega arith))
    ])

pub length-block_starts : (texts : List (List ℕ)) → length (block_starts texts) ≡ (length texts + 7) / 8
unfolding block_starts
length-block_starts texts = length-map-range_with_len (λ b. place_of texts (8 * b)) 0 ((length texts + 7) / 8)

pub block_start_at : (texts : List (List ℕ)) (b : ℕ) → 8 * b < length texts → get_or (block_starts texts) b 0 ≡ place_of texts (8 * b)
unfolding block_starts
block_start_at texts b h = get_or-map-range_with_len (λ k. place_of texts (8 * k)) 0 ((length texts + 7) / 8) b b 0 (omega arith) (omega arith)
