-- A loop over the parts of a chain: the part whose turn it is, and those behind it.
use Rattle.std.proofs.Common.{◌≡◌, ℕ, ◌+◌, ◌<◌, List, ◌∷◌, length, get_or, slice_get, drop, map, Some, refl, sym, ap, ◌∙◌, arith}
use Rattle.std.specs.Option.{option_map}
use Rattle.std.proofs.lemmas.Option.{slice_get-map, slice_get_read}
use Rattle.std.proofs.lemmas.List.{drop_more, get_or-map, length-map}

-- what is left before a turn: what the turn's element is seen as, and what is left behind it
pub turn : {A B : Type 0} (view : A → B) (xs ys : List A) (values : List B) (i : ℕ) (x : A)
    → map view xs ≡ values → ys ≡ xs → x ≡ get_or ys i x → i < length ys → drop i values ≡ view x ∷ drop (i + 1) values
turn view xs ys values i x is same at within =
    let e : map view ys ≡ values = ap (map view) same ∙ is in
    let long : length values ≡ length ys = ap length (sym e) ∙ length-map ys view in
    let here : get_or values i (view x) ≡ view x = ap (λ l. get_or l i (view x)) (sym e) ∙ get_or-map view ys i x (view x) within ∙ ap view (sym at) in
    drop_more values i (view x) (omega arith) ∙ ap (λ y. y ∷ drop (i + 1) values) here

-- what a turn's element is seen as stands among what all are seen as
pub seen : {A B : Type 0} (view : A → B) (xs : List A) (i : ℕ) (x : A) (d : B) → x ≡ get_or xs i x → i < length xs → get_or (map view xs) i d ≡ view x
seen view xs i x d at within = get_or-map view xs i x d within ∙ ap view (sym at)

-- the same of an element at a place
pub stands_at : {A B : Type 0} (view : A → B) (xs : List A) (values : List B) (i : ℕ) (x : A) → map view xs ≡ values → x ≡ get_or xs i x → i < length values
    → slice_get values i ≡ Some (view x)
stands_at view xs values i x is at within =
    let long = ap length is in
    let inside : i < length xs = omega (arith, long, length-map xs view) in
    ap (λ l. slice_get l i) (sym is) ∙ slice_get-map view xs i ∙ ap (option_map view) (slice_get_read xs (length xs) i x refl inside at)
