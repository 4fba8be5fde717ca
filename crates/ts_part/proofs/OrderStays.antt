-- The birth order of a layer's terms begins with that of an ancestor's.
use Rattle.std.proofs.Common.{◌≡◌, ℕ, List, [], ◌++◌, Option, Some, None, sym, ◌∙◌, subst}
use Rattle.std.specs.Ordering.{eq_by_cmp}
use Rattle.std.specs.List.{AllByRecursion}
use Rattle.std.specs.List.Sorted.{IsStrictlySortedBy, IsPermutation}
use Rattle.std.specs.FinMap.{empty}
use Rattle.std.proofs.lemmas.List.Sorted.{list_any-IsPermutation, IsPermutation-refl, IsPermutation-trans, IsPermutation-append}
use Rattle.ts_model.specs.declared.term.TermKind.{TermKind}
use Rattle.ts_model.specs.declared.term.TermKind.TheVariants.{Node, Predicate, Value}
use Rattle.ts_model.specs.TextTerm.{TextTerm}
use Rattle.ts_model.specs.Order.{term_cmp, term_cmp_total, term_cmp-IsAntisymmetric}
use Rattle.ts_model.specs.Sets.{members, from_list, difference}
use Rattle.ts_model.specs.History.{History, IsWellKept}
use Rattle.ts_model.specs.Listing.{key_cmp}
use Rattle.ts_model.proofs.BirthOrder.{key_cmp_total, key_cmp-IsAntisymmetric}
use Rattle.ts_model.proofs.SetLaws.{IsStrictlySortedBy-members, contains-from_list, members_are}
use Rattle.ts_model.proofs.SetAlgebra.{members-from_rising}
use Rattle.ts_part.specs.Numbers.{IsTermAt, in_order, numbered_with}
use Rattle.ts_part.specs.Step.{IsNewTerm}
use Rattle.ts_part.proofs.Ranks.{among_at, each_among, place_of, moved_rising}
use Rattle.ts_part.proofs.Births.{IsOver}
use Rattle.ts_part.proofs.Subsets.{parts_moved}
use Rattle.ts_part.proofs.Later.{old_first, old_order}
use Rattle.ts_part.proofs.Numbered.{all_of, old_of, new_of, is_new, own_term, still_there}
use Rattle.ts_part.proofs.RisingLists.{rises_too, rises-append}
use Rattle.ts_part.proofs.Places.{only_moved, place_has, ordered_rise}

pub nothing : members (empty {X = Unit {0}} {R = term_cmp}) ≡ []
unfolding IsStrictlySortedBy
nothing = members-from_rising term_cmp term_cmp_total term_cmp-IsAntisymmetric [] tt

module _ (history : History) (kept : IsWellKept history) where
  none_moved : (kind : TermKind) → IsPermutation (members (numbered_with kind history None)) []
  none_moved Node = subst (λ l. IsPermutation l []) (sym nothing) (IsPermutation-refl [])
  none_moved Predicate = subst (λ l. IsPermutation l []) (sym nothing) (IsPermutation-refl [])
  none_moved Value = subst (λ l. IsPermutation l []) (sym nothing) (IsPermutation-refl [])

  moved_at : (kind : TermKind) (at : Option ℕ) → IsPermutation (members (numbered_with kind history at)) (in_order kind history at)
  moved_at kind None = none_moved kind
  moved_at kind (Some a) = only_moved history kept a kind

  terms_at : (kind : TermKind) (at : Option ℕ) → AllByRecursion (IsTermAt history at) (in_order kind history at)
  terms_at kind None = tt
  terms_at kind (Some a) =
      each_among (key_cmp history a) (key_cmp_total history a) (IsTermAt history (Some a)) (in_order kind history (Some a)) (λ term there.
      let place = place_of (key_cmp history a) (key_cmp_total history a) (key_cmp-IsAntisymmetric history a) (in_order kind history (Some a)) term there in
      own_term history kept kind (Some a) term (place_has history kept a kind place.0 term place.1))

  module _ (from : Option ℕ) (k : ℕ) (over : IsOver history from k) (kind : TermKind) where
    abbrev pub newer : List TextTerm
    newer = members (from_list {R = key_cmp history k} (new_of history kept from k over kind))

    newer_moved : IsPermutation (new_of history kept from k over kind) newer
    newer_moved =
        moved_rising (key_cmp history k) (key_cmp_total history k) (key_cmp-IsAntisymmetric history k) term_cmp term_cmp_total (new_of history kept from k over kind)
        (IsStrictlySortedBy-members term_cmp (difference (all_of history kept from k over kind) (old_of history kept from k over kind)))

    newer_terms : AllByRecursion (IsNewTerm history from k) newer
    newer_terms =
        each_among (key_cmp history k) (key_cmp_total history k) (IsNewTerm history from k) newer (λ term there.
        let place = place_of (key_cmp history k) (key_cmp_total history k) (key_cmp-IsAntisymmetric history k) (new_of history kept from k over kind) term
        (list_any-IsPermutation (eq_by_cmp (key_cmp history k) term) (new_of history kept from k over kind) newer newer_moved ∙ there) in
        is_new history kept from k over kind term (among_at term_cmp term_cmp_total (new_of history kept from k over kind) place.0 term place.1))

    both_moved : IsPermutation (members (all_of history kept from k over kind)) (in_order kind history from ++ newer)
    both_moved =
        IsPermutation-trans (members (all_of history kept from k over kind)) (members (old_of history kept from k over kind) ++ new_of history kept from k over kind) (in_order kind history from ++ newer)
        (parts_moved term_cmp term_cmp_total term_cmp-IsAntisymmetric (all_of history kept from k over kind) (old_of history kept from k over kind) (still_there history kept from k over kind))
        (IsPermutation-append (members (old_of history kept from k over kind)) (in_order kind history from) (new_of history kept from k over kind) newer (moved_at kind from) newer_moved)

  older_rise : (from : Option ℕ) (k : ℕ) → IsOver history from k → (kind : TermKind) → IsStrictlySortedBy (key_cmp history k) (in_order kind history from)
  unfolding IsStrictlySortedBy
  older_rise None k over kind = tt
  older_rise (Some a) k over kind =
      rises_too (key_cmp history k) (key_cmp history a) (IsTermAt history (Some a)) (λ x y first second less. old_order history kept a k over x y first second ∙ less)
      (in_order kind history (Some a)) (terms_at kind (Some a)) (ordered_rise history kept a kind)

  -- the order goes on with the new terms
  pub in_order-goes_on : (from : Option ℕ) (k : ℕ) (over : IsOver history from k) (kind : TermKind) → in_order kind history (Some k) ≡ in_order kind history from ++ newer from k over kind
  in_order-goes_on from k over kind =
      let list : List TextTerm = in_order kind history from ++ newer from k over kind in
      let rising : IsStrictlySortedBy (key_cmp history k) list =
      rises-append (key_cmp history k) (IsTermAt history from) (IsNewTerm history from k) (λ x y old new. old_first history kept from k over x y old new.there new.before)
      (in_order kind history from) (newer from k over kind) (terms_at kind from) (newer_terms from k over kind) (older_rise from k over kind)
      (IsStrictlySortedBy-members (key_cmp history k) (from_list {R = key_cmp history k} (new_of history kept from k over kind))) in
      sym (members_are (key_cmp history k) (key_cmp_total history k) (key_cmp-IsAntisymmetric history k) (from_list (members (all_of history kept from k over kind))) list rising (λ q.
      sym (list_any-IsPermutation (eq_by_cmp (key_cmp history k) q) (members (all_of history kept from k over kind)) list (both_moved from k over kind))
      ∙ sym (contains-from_list (key_cmp history k) (key_cmp_total history k) (members (all_of history kept from k over kind)) q)))
