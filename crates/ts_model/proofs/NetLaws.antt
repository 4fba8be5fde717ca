-- That sorting the lines from the last to the first, and keeping the first of each triple, leaves the last line of each.
use Rattle.std.proofs.Common.{◌≡◌, Bool, true, false, not, ◌&&◌, cond, All, List, [], ◌∷◌, map, filter, find, reverse, Some, refl, sym, ap, ◌∙◌}
use Rattle.std.specs.Option.{is_some, option_map}
use Rattle.std.specs.declared.cmp.Ordering.{Ordering}
use Rattle.std.specs.declared.cmp.Ordering.TheVariants.{Less, Equal, Greater}
use Rattle.std.specs.Ordering.{eq_by_cmp, is_eq, is_lt, on, ordering_reverse}
use Rattle.std.specs.Cmp.{IsTotalOrder, Equal-is, on_total, tied_itself}
use Rattle.std.specs.List.{AllByRecursion, dedup}
use Rattle.std.specs.List.Sorted.{IsStrictlySortedBy, IsSorted, IsStable, ties}
use Rattle.std.proofs.lemmas.List.Kept.{IsStrictlySortedBy-dedup}
use Rattle.std.proofs.lemmas.List.Elements.{All-weaker, All-from_recursion}
use Rattle.std.proofs.lemmas.List.Sorted.{list_any-IsPermutation, IsPermutation-reverse}
use Rattle.ts_model.specs.declared.signed.Sign.TheVariants.{Add}
use Rattle.ts_model.specs.declared.signed.SignedTriple.{SignedTriple}
use Rattle.ts_model.specs.TextTriple.{TextTriple}
use Rattle.ts_model.specs.Order.{triple_cmp, triple_cmp_total, triple_cmp-IsAntisymmetric}
use Rattle.ts_model.specs.NetChange.{is_line_of, last_sign, body_triples}
use Rattle.ts_model.specs.Sets.{contains, members}
use Rattle.ts_model.proofs.ListLaws.{head_of, find-filter, is_some-find, find-dedup, list_any-map, IsStrictlySortedBy-map}
use Rattle.ts_model.proofs.SetLaws.{contains-from_list, members_are}

-- ---- lines in the order of their triples

abbrev pub line_cmp : SignedTriple → SignedTriple → Ordering
line_cmp = on (λ (line : SignedTriple). line.triple) triple_cmp

pub line_cmp_total : IsTotalOrder line_cmp
line_cmp_total = on_total (λ (line : SignedTriple). line.triple) triple_cmp_total

abbrev pub is_same : SignedTriple → SignedTriple → Bool
is_same = eq_by_cmp line_cmp

abbrev pub triples_of : List SignedTriple → List TextTriple
triples_of lines = map (λ line. line.triple) lines

same_triple : (x y : SignedTriple) → is_same x y ≡ true → x.triple ≡ y.triple
same_triple x y e = triple_cmp-IsAntisymmetric _ _ ((Equal-is (triple_cmp x.triple y.triple)).0 e)

ties_are : (r : Ordering) → is_eq r ≡ (not (is_lt r) && not (is_lt (ordering_reverse r)))
ties_are Less = refl
ties_are Equal = refl
ties_are Greater = refl

-- lines with one triple tie
is_line_of-ties : (q : TextTriple) (line : SignedTriple) → is_line_of q line ≡ ties (λ x y. is_lt (line_cmp x y)) (record { sign = Add; triple = q }) line
is_line_of-ties q line = ties_are (triple_cmp q line.triple) ∙ ap (λ r. not (is_lt (triple_cmp q line.triple)) && not (is_lt r)) (sym (triple_cmp_total.antisymm line.triple q))

-- a stable sort leaves the first line of each triple
find-stable : (xs ys : List SignedTriple) → IsStable line_cmp xs ys → (q : TextTriple) → find (is_line_of q) ys ≡ find (is_line_of q) xs
find-stable xs ys stable q =
    find-filter (is_line_of q) ys
    ∙ ap head_of ((λ i. filter (λ line. is_line_of-ties q line i) ys) ∙ stable (record { sign = Add; triple = q }) ∙ (λ i. filter (λ line. sym (is_line_of-ties q line) i) xs))
    ∙ sym (find-filter (is_line_of q) xs)

find-kept : (q : TextTriple) (ys : List SignedTriple) → find (is_line_of q) (dedup is_same ys) ≡ find (is_line_of q) ys
find-kept q ys = find-dedup is_same (is_line_of q) (λ x k e. ap (λ t. eq_by_cmp triple_cmp q t) (same_triple x k e)) ys

-- ---- the lines that are left, of which each triple has one

itself : (q : TextTriple) → eq_by_cmp triple_cmp q q ≡ true
itself q = ap is_eq (tied_itself triple_cmp_total q)

below_is_other : (x y : SignedTriple) → line_cmp x y ≡ Less → is_line_of y.triple x ≡ false
below_is_other x y less = ap is_eq (triple_cmp_total.antisymm y.triple x.triple ∙ ap ordering_reverse less)

abbrev IsFirst : List SignedTriple → SignedTriple → Type 0
IsFirst lines line = find (is_line_of line.triple) lines ≡ Some line

each_is_first : (lines : List SignedTriple) → IsStrictlySortedBy line_cmp lines → AllByRecursion (IsFirst lines) lines
unfolding IsStrictlySortedBy
each_is_first [] h = tt
each_is_first (x ∷ xs) h = (ap (λ b. cond b (Some x) (find (is_line_of x.triple) xs)) (itself x.triple), later xs h.0 (each_is_first xs h.1))
  where
    later : (ys : List SignedTriple) → AllByRecursion (λ y. line_cmp x y ≡ Less) ys → AllByRecursion (IsFirst xs) ys → AllByRecursion (IsFirst (x ∷ xs)) ys
    later [] above first = tt
    later (y ∷ ys) above first = (ap (λ b. cond b (Some x) (find (is_line_of y.triple) xs)) (below_is_other x y above.0) ∙ first.0, later ys above.1 first.1)

-- ---- the set

-- a body names the triples of its lines
contains-body_triples : (body : List SignedTriple) (q : TextTriple) → contains (body_triples body) q ≡ is_some (find (is_line_of q) (reverse body))
contains-body_triples body q =
    contains-from_list triple_cmp triple_cmp_total (triples_of body) q
    ∙ list_any-map (eq_by_cmp triple_cmp q) (λ (line : SignedTriple). line.triple) body
    ∙ list_any-IsPermutation (is_line_of q) body (reverse body) (IsPermutation-reverse body)
    ∙ sym (is_some-find (is_line_of q) (reverse body))

module _ (body sorted : List SignedTriple) (up : IsSorted line_cmp sorted) (stable : IsStable line_cmp (reverse body) sorted) where
  abbrev kept : List SignedTriple
  kept = dedup is_same sorted

  rising : IsStrictlySortedBy line_cmp kept
  rising = IsStrictlySortedBy-dedup line_cmp_total (λ x y. refl) sorted up

  found : (q : TextTriple) → find (is_line_of q) kept ≡ find (is_line_of q) (reverse body)
  found q = find-kept q sorted ∙ find-stable (reverse body) sorted stable q

  -- the lines that are left have the triples that the body names
  pub body_triples_are : triples_of kept ≡ members (body_triples body)
  body_triples_are =
      members_are triple_cmp triple_cmp_total triple_cmp-IsAntisymmetric (body_triples body) (triples_of kept)
      (IsStrictlySortedBy-map triple_cmp (λ (line : SignedTriple). line.triple) kept rising)
      (λ q. list_any-map (eq_by_cmp triple_cmp q) (λ (line : SignedTriple). line.triple) kept ∙ sym (is_some-find (is_line_of q) kept) ∙ ap is_some (found q) ∙ sym (contains-body_triples body q))

  -- and their last signs
  pub signs_are : All (λ line. last_sign body line.triple ≡ Some line.sign) kept
  signs_are = All-weaker (IsFirst kept) (λ line. last_sign body line.triple ≡ Some line.sign)
      (λ line first. ap (option_map (λ line. line.sign)) (sym (found line.triple) ∙ first))
      kept (All-from_recursion (IsFirst kept) kept (each_is_first kept rising))
