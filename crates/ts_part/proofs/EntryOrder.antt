-- The entries of one layer over its parent rise in birth order: they are born together.
use Rattle.std.proofs.Common.{◌≡◌, ℕ, [], ◌∷◌, Option, Some, refl, sym, ap, ◌∙◌}
use Rattle.std.specs.declared.cmp.Ordering.{Ordering}
use Rattle.std.specs.declared.cmp.Ordering.TheVariants.{Less, Equal, Greater}
use Rattle.std.specs.Ordering.{nat_cmp, ordering_then}
use Rattle.std.specs.Cmp.{nat_cmp_total, tied_itself}
use Rattle.std.specs.Cmp.Lexicographic.{slice_cmp}
use Rattle.std.specs.List.Sorted.{IsStrictlySortedBy}
use Rattle.std.proofs.lemmas.List.Kept.{IsStrictlySortedBy-filter}
use Rattle.ts_model.specs.declared.term.TermKind.{TermKind}
use Rattle.ts_model.specs.declared.term.TermKind.TheVariants.{Node, Value}
use Rattle.ts_model.specs.TextTerm.{TextTerm}
use Rattle.ts_model.specs.Order.{kind_place, term_cmp}
use Rattle.ts_model.specs.Sets.{difference}
use Rattle.ts_model.specs.History.{History, IsWellKept}
use Rattle.ts_model.specs.Listing.{key_cmp}
use Rattle.ts_model.proofs.SetLaws.{IsStrictlySortedBy-members}
use Rattle.ts_part.specs.Step.{is_of_kind, new_terms, IsNewTerm}
use Rattle.ts_part.proofs.RisingLists.{rises_too, rises-append}
use Rattle.ts_part.proofs.Births.{IsOver}
use Rattle.ts_part.proofs.Later.{key_from, born_next}
use Rattle.ts_part.proofs.Numbered.{all_of, old_of, new_of}
use Rattle.ts_part.proofs.EntryCounts.{IsListed, each_listed}
use Rattle.ts_part.proofs.NewTerms.{entries}

-- ---- orderings

pub by_spelling : (r s : Ordering) → ordering_then r s ≡ Less → s ≡ Equal → r ≡ Less
by_spelling Less s e tie = refl
by_spelling Equal s e tie = let none : ⊥ = cc in absurd none
by_spelling Greater s e tie = let none : ⊥ = cc in absurd none

pub number_tied : (a b : ℕ) → a ≡ b → nat_cmp a b ≡ Equal
number_tied a b e = ap (λ n. nat_cmp a n) (sym e) ∙ tied_itself nat_cmp_total a

module _ (history : History) (kept : IsWellKept history) (from : Option ℕ) (k : ℕ) (over : IsOver history from k) (top : ℕ) (one : over.front ≡ top ∷ []) where
  born_together : (x y : TextTerm) → IsNewTerm history from k x → IsNewTerm history from k y → nat_cmp (key_from history (Some k) x) (key_from history (Some k) y) ≡ Equal
  born_together x y a b =
      number_tied (key_from history (Some k) x) (key_from history (Some k) y)
      (born_next history kept from k over top one x a.there a.before ∙ sym (born_next history kept from k over top one y b.there b.before))

  -- of one kind they stand by their spellings
  pub kin_rise : (x y : TextTerm) → IsNewTerm history from k x → IsNewTerm history from k y → x.kind ≡ y.kind → term_cmp x y ≡ Less → key_cmp history k x y ≡ Less
  kin_rise x y a b kin less =
      let kinds : nat_cmp (kind_place x.kind) (kind_place y.kind) ≡ Equal = number_tied (kind_place x.kind) (kind_place y.kind) (ap kind_place kin) in
      (λ i. ordering_then (born_together x y a b i) (ordering_then (kinds i) (slice_cmp nat_cmp x.spelling y.spelling)))
      ∙ by_spelling (slice_cmp nat_cmp x.spelling y.spelling) (nat_cmp (kind_place x.kind) (kind_place y.kind)) less kinds

  -- and nodes before values
  pub node_first : (x y : TextTerm) → IsNewTerm history from k x → IsNewTerm history from k y → x.kind ≡ Node → y.kind ≡ Value → key_cmp history k x y ≡ Less
  node_first x y a b node value = λ i.
      ordering_then (born_together x y a b i) (ordering_then (nat_cmp (kind_place (node i)) (kind_place (value i))) (slice_cmp nat_cmp x.spelling y.spelling))

  pub kind_rises : (kind : TermKind) → IsStrictlySortedBy (key_cmp history k) (new_terms kind history from k)
  kind_rises kind =
      rises_too (key_cmp history k) term_cmp (IsListed history from k kind) (λ x y a b less. kin_rise x y a.1 b.1 (a.0 ∙ sym b.0) less) (new_terms kind history from k) (each_listed history kept from k over kind)
      (IsStrictlySortedBy-filter term_cmp (is_of_kind kind) (new_of history kept from k over kind)
      (IsStrictlySortedBy-members term_cmp (difference (all_of history kept from k over kind) (old_of history kept from k over kind))))

  pub entries_rise : IsStrictlySortedBy (key_cmp history k) (entries history kept from k over)
  entries_rise =
      rises-append (key_cmp history k) (IsListed history from k Node) (IsListed history from k Value) (λ x y a b. node_first x y a.1 b.1 a.0 b.0) (new_terms Node history from k) (new_terms Value history from k)
      (each_listed history kept from k over Node) (each_listed history kept from k over Value) (kind_rises Node) (kind_rises Value)
