-- Two lists, entry by entry.
use Rattle.std.proofs.Common.{◌≡◌, ℕ, zero, suc, ◌+◌, ◌<◌, List, [], ◌∷◌, ◌++◌, length, take, get_or, refl, sym, ap, ◌∙◌, subst, arith}
use Rattle.std.specs.List.{AllZip}
use Rattle.std.proofs.lemmas.List.{take_more}

module _ {X Y : Type 0} (R : X → Y → Type 0) where
  zip_push : (xs : List X) (ys : List Y) (x : X) (y : Y) → AllZip R xs ys → R x y → AllZip R (xs ++ x ∷ []) (ys ++ y ∷ [])
  zip_push [] [] x y all is = (is, tt)
  zip_push [] (z ∷ zs) x y all is = absurd all
  zip_push (w ∷ ws) [] x y all is = absurd all
  zip_push (w ∷ ws) (z ∷ zs) x y all is = (all.0, zip_push ws zs x y all.1 is)

  pub zip_more : (xs : List X) (ys : List Y) (i : ℕ) (x : X) (y : Y) → i < length xs → x ≡ get_or xs i x → AllZip R (take i xs) ys → R x y → AllZip R (take (i + 1) xs) (ys ++ y ∷ [])
  zip_more xs ys i x y below there all is =
      subst (λ zs. AllZip R zs (ys ++ y ∷ [])) (sym (take_more xs i x below ∙ ap (λ z. take i xs ++ z ∷ []) (sym there))) (zip_push (take i xs) ys x y all is)

  pub zip_by_index : (xs : List X) (ys : List Y) → length xs ≡ length ys → ((i : ℕ) (d : X) (e : Y) → i < length xs → R (get_or xs i d) (get_or ys i e)) → AllZip R xs ys
  zip_by_index [] [] many each = tt
  zip_by_index [] (y ∷ ys) many each = absurd (omega arith)
  zip_by_index (x ∷ xs) [] many each = absurd (omega arith)
  zip_by_index (x ∷ xs) (y ∷ ys) many each = (each 0 x y (omega arith), zip_by_index xs ys (omega arith) (λ i d e below. each (suc i) d e (omega arith)))

  pub zip_length : (xs : List X) (ys : List Y) → AllZip R xs ys → length xs ≡ length ys
  zip_length [] [] all = refl
  zip_length [] (y ∷ ys) all = absurd all
  zip_length (x ∷ xs) [] all = absurd all
  zip_length (x ∷ xs) (y ∷ ys) all = ap suc (zip_length xs ys all.1)

  pub zip_at : (xs : List X) (ys : List Y) (i : ℕ) (d : X) (e : Y) → AllZip R xs ys → i < length xs → R (get_or xs i d) (get_or ys i e)
  zip_at [] ys i d e all below = absurd (omega arith)
  zip_at (x ∷ xs) [] i d e all below = absurd all
  zip_at (x ∷ xs) (y ∷ ys) zero d e all below = all.0
  zip_at (x ∷ xs) (y ∷ ys) (suc i) d e all below = zip_at xs ys i d e all.1 (omega arith)
