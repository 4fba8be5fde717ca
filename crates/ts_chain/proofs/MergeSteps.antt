-- Which entry of two rising lists comes first in their merge.
use Rattle.std.proofs.Common.{◌≡◌, true, false, cond, T, List, [], ◌∷◌, ◌++◌, Option, Some, None, option_map, IfNone, refl, sym, ap, ◌∙◌, subst}
use Rattle.std.specs.declared.cmp.Ordering.{Ordering}
use Rattle.std.specs.declared.cmp.Ordering.TheVariants.{Less, Equal, Greater}
use Rattle.std.specs.Ordering.{eq_by_cmp, ordering_reverse}
use Rattle.std.specs.FinMap.{is_sorted}
use Rattle.ts_plane.specs.declared.triple.IdTriple.{IdTriple}
use Rattle.ts_plane.specs.Triple.{triple_cmp}
use Rattle.ts_chain.specs.declared.stream.Named.{Named}
use Rattle.ts_chain.specs.declared.stream.Turn.TheVariants.{Newer, Older, Both}
use Rattle.ts_chain.specs.Streams.{as_pair, head_of, listed, merged, turn_by, turn_of}
use Rattle.ts_chain.specs.Rising.{AreRising}
use Rattle.ts_chain.proofs.Decided.{Above, Said, above-append, above-less, both, decided-first, decided-rising, decided-same, equal_is, first, found, found-above, found-append, is_less, or_else, passes, triple_cmp_total, triple_cmp-IsAntisymmetric}

-- ---- heads

head-none : (xs : List Said) → None ≡ head_of xs → xs ≡ []
head-none [] e = refl
head-none (x ∷ xs) e = let no : ⊥ = cc in absurd no

rising : (xs : List Said) → AreRising xs → T (is_sorted triple_cmp xs)
unfolding AreRising
rising xs h = passes _ h

-- what follows the head of a rising list is above it
above-tail : (x : Said) (xs : List Said) → AreRising (x ∷ xs) → Above x.0 xs
above-tail x xs h = first _ _ (rising (x ∷ xs) h)

above-all : (t : IdTriple) (y : Said) (ys : List Said) → AreRising (y ∷ ys) → triple_cmp t y.0 ≡ Less → Above t (y ∷ ys)
above-all t y ys h e = both _ _ (is_less _ e) (above-less t y.0 ys e (above-tail y ys h))

above-head : (t : IdTriple) (ys : List Said) (m : Named) → AreRising ys → Some (as_pair m) ≡ head_of ys → triple_cmp t m.triple ≡ Less → Above t ys
above-head t [] m h is e = tt
above-head t (y ∷ ys) m h is e = let same : as_pair m ≡ y = cc in above-all t y ys h (subst (λ (p : Said). triple_cmp t p.0 ≡ Less) same e)

-- ---- merges

-- the head of the newer is below the older
merged-newer : (x : Said) (xs ys : List Said) → AreRising (x ∷ xs) → Above x.0 ys → merged (x ∷ xs) ys ≡ x ∷ merged xs ys
merged-newer x xs ys h above = decided-first x (xs ++ ys) (above-append x.0 xs ys (above-tail x xs h) above)

-- the head of the older is below the newer
merged-older : (xs : List Said) (y : Said) (ys : List Said) → AreRising (y ∷ ys) → Above y.0 xs → merged xs (y ∷ ys) ≡ y ∷ merged xs ys
merged-older xs y ys h above =
    decided-same (xs ++ (y ∷ ys)) (y ∷ (xs ++ ys)) alike
    ∙ decided-first y (xs ++ ys) (above-append y.0 xs ys above (above-tail y ys h))
  where
    alike : (t : IdTriple) → found t (xs ++ (y ∷ ys)) ≡ found t (y ∷ (xs ++ ys))
    alike t = found-append t xs (y ∷ ys) ∙ elim (eq_by_cmp triple_cmp t y.0) as (λ b. eq_by_cmp triple_cmp t y.0 ≡ b → or_else (found t xs) (cond b (Some y.1) (found t ys)) ≡ cond b (Some y.1) (found t (xs ++ ys))) [
      | true ↦ λ e. ap (λ said. or_else said (Some y.1)) (ap (λ u. found u xs) (triple_cmp-IsAntisymmetric t y.0 (equal_is _ e)) ∙ found-above y.0 xs above)
      | false ↦ λ e. sym (found-append t xs ys)
    ] refl

-- both heads are of one triple: the newer decides
merged-both : (x : Said) (xs : List Said) (y : Said) (ys : List Said) → AreRising (x ∷ xs) → AreRising (y ∷ ys) → x.0 ≡ y.0 → merged (x ∷ xs) (y ∷ ys) ≡ x ∷ merged xs ys
merged-both x xs y ys h g same =
    decided-same (x ∷ (xs ++ (y ∷ ys))) (x ∷ (xs ++ ys)) alike
    ∙ decided-first x (xs ++ ys) (above-append x.0 xs ys (above-tail x xs h) (subst (λ t. Above t ys) (sym same) (above-tail y ys g)))
  where
    alike : (t : IdTriple) → found t (x ∷ (xs ++ (y ∷ ys))) ≡ found t (x ∷ (xs ++ ys))
    alike t = elim (eq_by_cmp triple_cmp t x.0) as (λ b. eq_by_cmp triple_cmp t x.0 ≡ b → cond b (Some x.1) (found t (xs ++ (y ∷ ys))) ≡ cond b (Some x.1) (found t (xs ++ ys))) [
      | true ↦ λ e. refl
      | false ↦ λ e.
          found-append t xs (y ∷ ys)
          ∙ ap (λ b. or_else (found t xs) (cond b (Some y.1) (found t ys))) (ap (eq_by_cmp triple_cmp t) (sym same) ∙ e)
          ∙ sym (found-append t xs ys)
    ] refl

-- ---- turns

turn-newer : (o : Ordering) → turn_by o ≡ Newer → o ≡ Less
turn-newer Less e = refl
turn-newer Equal e = let no : ⊥ = cc in absurd no
turn-newer Greater e = let no : ⊥ = cc in absurd no

turn-older : (o : Ordering) → turn_by o ≡ Older → o ≡ Greater
turn-older Less e = let no : ⊥ = cc in absurd no
turn-older Equal e = let no : ⊥ = cc in absurd no
turn-older Greater e = refl

turn-both : (o : Ordering) → turn_by o ≡ Both → o ≡ Equal
turn-both Less e = let no : ⊥ = cc in absurd no
turn-both Equal e = refl
turn-both Greater e = let no : ⊥ = cc in absurd no

-- ---- steps

-- what is given comes first, and nothing is given of nothing
pub record Gives (named : List Said) (given : Option Named) (after : List Said) : Type 0 where
  pub left : named ≡ listed given ++ after
  pub none : IfNone given (named ≡ [])

-- the head is what is given
given-head : (xs after : List Said) (head given : Option Named) → option_map as_pair head ≡ head_of xs → Gives xs given after → option_map as_pair given ≡ option_map as_pair head
given-head xs after head None is gives = sym (is ∙ ap head_of gives.none)
given-head xs after head (Some a) is gives = sym (is ∙ ap head_of gives.left)

above-older : (n : Named) (head : Option Named) (ys : List Said) → AreRising ys → option_map as_pair head ≡ head_of ys → turn_of (Some n) head ≡ Newer → Above n.triple ys
above-older n None ys rise is turn = subst (Above n.triple) (sym (head-none ys is)) tt
above-older n (Some m) ys rise is turn = above-head n.triple ys m rise is (turn-newer _ turn)

above-newer : (m : Named) (head : Option Named) (xs : List Said) → AreRising xs → option_map as_pair head ≡ head_of xs → turn_of head (Some m) ≡ Older → Above m.triple xs
above-newer m None xs rise is turn = subst (Above m.triple) (sym (head-none xs is)) tt
above-newer m (Some n) xs rise is turn = above-head m.triple xs n rise is (triple_cmp_total.antisymm m.triple n.triple ∙ ap ordering_reverse (turn-older _ turn))

pub gives-newer : (xs ys after : List Said) (newer older given : Option Named) → AreRising xs → AreRising ys → option_map as_pair newer ≡ head_of xs → option_map as_pair older ≡ head_of ys
    → turn_of newer older ≡ Newer → Gives xs given after → Gives (merged xs ys) given (merged after ys)
gives-newer xs ys after None older given rise_x rise_y is_x is_y turn gives = let no : ⊥ = cc in absurd no
gives-newer xs ys after (Some n) older None rise_x rise_y is_x is_y turn gives = let same = given-head xs after (Some n) None is_x gives in let no : ⊥ = cc in absurd no
gives-newer xs ys after (Some n) older (Some a) rise_x rise_y is_x is_y turn gives =
    let same : as_pair a ≡ as_pair n = (let e = given-head xs after (Some n) (Some a) is_x gives in cc) in
    let above : Above a.triple ys = subst (λ (p : Said). Above p.0 ys) (sym same) (above-older n older ys rise_y is_y turn) in
    record { left = ap (λ l. merged l ys) gives.left ∙ merged-newer (as_pair a) after ys (subst AreRising gives.left rise_x) above; none = tt }

pub gives-older : (xs ys after : List Said) (newer older given : Option Named) → AreRising xs → AreRising ys → option_map as_pair newer ≡ head_of xs → option_map as_pair older ≡ head_of ys
    → turn_of newer older ≡ Older → Gives ys given after → Gives (merged xs ys) given (merged xs after)
gives-older xs ys after None None None rise_x rise_y is_x is_y turn gives =
    record { left = ap (λ l. merged xs l) gives.left; none = ap (λ l. merged l ys) (head-none xs is_x) ∙ ap (λ l. merged [] l) gives.none ∙ decided-rising [] tt }
gives-older xs ys after (Some n) None given rise_x rise_y is_x is_y turn gives = let no : ⊥ = cc in absurd no
gives-older xs ys after newer (Some m) None rise_x rise_y is_x is_y turn gives = let same = given-head ys after (Some m) None is_y gives in let no : ⊥ = cc in absurd no
gives-older xs ys after None None (Some a) rise_x rise_y is_x is_y turn gives = let same = given-head ys after None (Some a) is_y gives in let no : ⊥ = cc in absurd no
gives-older xs ys after newer (Some m) (Some a) rise_x rise_y is_x is_y turn gives =
    let same : as_pair a ≡ as_pair m = (let e = given-head ys after (Some m) (Some a) is_y gives in cc) in
    let above : Above a.triple xs = subst (λ (p : Said). Above p.0 xs) (sym same) (above-newer m newer xs rise_x is_x turn) in
    record { left = ap (λ l. merged xs l) gives.left ∙ merged-older xs (as_pair a) after (subst AreRising gives.left rise_y) above; none = tt }

pub gives-both : (xs ys after behind : List Said) (newer older given also : Option Named) → AreRising xs → AreRising ys → option_map as_pair newer ≡ head_of xs → option_map as_pair older ≡ head_of ys
    → turn_of newer older ≡ Both → Gives xs given after → Gives ys also behind → Gives (merged xs ys) given (merged after behind)
gives-both xs ys after behind None older given also rise_x rise_y is_x is_y turn gives others = let no : ⊥ = cc in absurd no
gives-both xs ys after behind (Some n) None given also rise_x rise_y is_x is_y turn gives others = let no : ⊥ = cc in absurd no
gives-both xs ys after behind (Some n) (Some m) None also rise_x rise_y is_x is_y turn gives others = let same = given-head xs after (Some n) None is_x gives in let no : ⊥ = cc in absurd no
gives-both xs ys after behind (Some n) (Some m) (Some a) None rise_x rise_y is_x is_y turn gives others = let same = given-head ys behind (Some m) None is_y others in let no : ⊥ = cc in absurd no
gives-both xs ys after behind (Some n) (Some m) (Some a) (Some b) rise_x rise_y is_x is_y turn gives others =
    let same_x : as_pair a ≡ as_pair n = (let e = given-head xs after (Some n) (Some a) is_x gives in cc) in
    let same_y : as_pair b ≡ as_pair m = (let e = given-head ys behind (Some m) (Some b) is_y others in cc) in
    let one : n.triple ≡ m.triple = triple_cmp-IsAntisymmetric n.triple m.triple (turn-both _ turn) in
    let same : a.triple ≡ b.triple = ap (λ (p : Said). p.0) same_x ∙ one ∙ ap (λ (p : Said). p.0) (sym same_y) in
    record {
      left = ap (λ l. merged l ys) gives.left ∙ ap (λ l. merged (as_pair a ∷ after) l) others.left
          ∙ merged-both (as_pair a) after (as_pair b) behind (subst AreRising gives.left rise_x) (subst AreRising others.left rise_y) same;
      none = tt;
    }
