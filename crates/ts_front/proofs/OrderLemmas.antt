use Rattle.std.proofs.Common.{◌≡◌, ◌≢◌, ℕ, List, true, false, refl, sym, ◌∙◌, ap}
use Rattle.std.specs.Prelude.{Option, Some, None, IfNone}
use Rattle.std.specs.Cmp.Lexicographic.{slice_cmp, nat_list_cmp_total}
use Rattle.std.specs.Cmp.{tied_itself}
use Rattle.std.specs.Ordering.{nat_cmp, is_eq, is_lt, is_gt, ordering_reverse}
use Rattle.std.specs.FinMap.{slice_cmp-IsAntisymmetric, nat_cmp-IsAntisymmetric}
use Rattle.std.specs.declared.cmp.Ordering.{Ordering}
use Rattle.std.specs.declared.cmp.Ordering.TheVariants.{Less, Equal, Greater}

equal_is : (o : Ordering) → is_eq o ≡ true → o ≡ Equal
equal_is Less e = absurd (cc)
equal_is Equal e = refl
equal_is Greater e = absurd (cc)

pub less_is : (o : Ordering) → is_lt o ≡ true → o ≡ Less
less_is Less e = refl
less_is Equal e = absurd (cc)
less_is Greater e = absurd (cc)

pub greater_is : (o : Ordering) → is_gt o ≡ true → o ≡ Greater
greater_is Less e = absurd (cc)
greater_is Equal e = absurd (cc)
greater_is Greater e = refl

-- texts whose order is equal are one
pub same_text : (o : Ordering) (xs ys : List ℕ) → o ≡ slice_cmp nat_cmp xs ys → is_eq o ≡ true → xs ≡ ys
same_text o xs ys e h = slice_cmp-IsAntisymmetric nat_cmp-IsAntisymmetric xs ys (sym e ∙ equal_is o h)

pub other_text : (o : Ordering) (xs ys : List ℕ) → o ≡ slice_cmp nat_cmp xs ys → is_eq o ≡ false → xs ≢ ys
other_text o xs ys e h same =
    let equal : o ≡ Equal = e ∙ ap (λ t. slice_cmp nat_cmp t ys) same ∙ tied_itself nat_list_cmp_total ys in
    let both : true ≡ false = sym (ap is_eq equal) ∙ h in
    absurd (cc)

-- texts that a greater one comes before are greater too
pub greater_later : (x y t : List ℕ) → slice_cmp nat_cmp x y ≡ Less → slice_cmp nat_cmp x t ≡ Greater → slice_cmp nat_cmp y t ≡ Greater
greater_later x y t h e =
    let o = nat_list_cmp_total in
    let below : slice_cmp nat_cmp t x ≡ Less = o.antisymm t x ∙ ap ordering_reverse e in
    o.antisymm y t ∙ ap ordering_reverse (o.trans t x y below h)

pub greater_differs : (x t : List ℕ) → slice_cmp nat_cmp x t ≡ Greater → x ≢ t
greater_differs x t e same =
    let equal : slice_cmp nat_cmp x t ≡ Equal = ap (λ v. slice_cmp nat_cmp v t) same ∙ tied_itself nat_list_cmp_total t in
    let both : Greater ≡ Equal = sym e ∙ equal in
    absurd (cc)

-- what stands before a text that is not greater is another
pub earlier_differs : (x y t : List ℕ) → slice_cmp nat_cmp x y ≡ Less → slice_cmp nat_cmp y t ≢ Greater → x ≢ t
earlier_differs x y t h none same =
    none (nat_list_cmp_total.antisymm y t ∙ ap ordering_reverse (ap (λ v. slice_cmp nat_cmp v y) (sym same) ∙ h))

pub not_greater : (o : Ordering) → is_gt o ≡ false → o ≢ Greater
not_greater o e h =
    let both : true ≡ false = sym (ap is_gt h) ∙ e in
    absurd (cc)

pub if_none_then : {X P Q : Type 0} (r : Option X) → IfNone r P → (P → Q) → IfNone r Q
if_none_then None h f = f h
if_none_then (Some x) h f = h
