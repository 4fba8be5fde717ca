-- Parts of a list of occurrences that are put in order.
use Rattle.std.proofs.Common.{◌≡◌, ℕ, ◌++◌, List, Bor, drop, length, take, sym, ap, ◌∙◌, subst}
use Rattle.std.specs.List.Sorted.{IsPermutation}
use Rattle.std.proofs.Math.Seq.{take-append_seam}
use Rattle.std.proofs.lemmas.List.{drop-map, length-map, map-append, take-map}
use Rattle.std.proofs.lemmas.List.Sorted.{IsPermutation-map, IsPermutation-put_mid, IsPermutation-trans, length_permutation}
use Rattle.ts_model.specs.TextTerm.{TextTerm}
use Rattle.ts_builder.specs.Ranks.{placed}
use borrow.Rule.Slice.PartMut.{mid_of, post_of, put_mid}

abbrev pub Occurrence : Type 0
Occurrence = Bor TextTerm × ℕ × ℕ

abbrev pub bare : Occurrence → TextTerm × ℕ
bare occurrence = (occurrence.0.now, occurrence.1)

pub sort_moves : (xs ys : List Occurrence) → IsPermutation xs ys → IsPermutation (placed xs) (placed ys)
sort_moves xs ys moved = IsPermutation-map bare xs ys moved

pub same_many : (xs ys : List Occurrence) → IsPermutation (placed xs) (placed ys) → length ys ≡ length xs
same_many xs ys moved = sym (length-map ys bare) ∙ length_permutation (placed xs) (placed ys) moved ∙ length-map xs bare

placed_middle : (a k : ℕ) (xs : List Occurrence) → placed (mid_of a k xs) ≡ mid_of a k (placed xs)
placed_middle a k xs = sym (take-map bare k (drop a xs)) ∙ ap (take k) (sym (drop-map bare a xs))

placed_behind : (a k : ℕ) (xs : List Occurrence) → placed (post_of a k xs) ≡ post_of a k (placed xs)
placed_behind a k xs = sym (drop-map bare k (drop a xs)) ∙ ap (drop k) (sym (drop-map bare a xs))

placed_put : (a k : ℕ) (xs ys : List Occurrence) → placed (put_mid a k xs ys) ≡ put_mid a k (placed xs) (placed ys)
placed_put a k xs ys =
    map-append bare (take a xs) (ys ++ post_of a k xs)
    ∙ ap (λ rest. placed (take a xs) ++ rest) (map-append bare ys (post_of a k xs) ∙ ap (λ rest. placed ys ++ rest) (placed_behind a k xs))
    ∙ ap (λ front. front ++ (placed ys ++ post_of a k (placed xs))) (sym (take-map bare a xs))

-- a part that is put in order moves the whole
pub part_moves : (given xs ys : List Occurrence) (a k : ℕ) → IsPermutation (placed given) (placed xs) → IsPermutation (placed (mid_of a k xs)) (placed ys) → IsPermutation (placed given) (placed (put_mid a k xs ys))
part_moves given xs ys a k before moved =
    IsPermutation-trans (placed given) (placed xs) (placed (put_mid a k xs ys)) before
    (subst (IsPermutation (placed xs)) (sym (placed_put a k xs ys)) (IsPermutation-put_mid a k (placed xs) (placed ys)
    (subst (λ part. IsPermutation part (placed ys)) (placed_middle a k xs) moved)))

pub whole_front : (xs ys : List Occurrence) (n : ℕ) → n ≡ length xs → take n (xs ++ ys) ≡ xs
whole_front xs ys n many = ap (λ n. take n (xs ++ ys)) many ∙ take-append_seam xs ys
