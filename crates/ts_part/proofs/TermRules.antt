-- The lists of new terms keep the rules of a part's lists.
use Rattle.std.proofs.Common.{◌≡◌, ℕ, List, Option, Some, sym, ap, ◌∙◌}
use Rattle.std.specs.declared.cmp.Ordering.TheVariants.{Less}
use Rattle.std.specs.Ordering.{nat_cmp}
use Rattle.std.specs.Cmp.Lexicographic.{slice_cmp}
use Rattle.std.proofs.lemmas.List.Elements.{All-from_recursion}
use Rattle.std.proofs.lemmas.List.Kept.{IsStrictlySortedBy-filter}
use Rattle.ts_model.specs.declared.term.TermKind.{TermKind}
use Rattle.ts_model.specs.TextTerm.{TextTerm, IsTerm}
use Rattle.ts_model.specs.Order.{kind_place, term_cmp}
use Rattle.ts_model.specs.Sets.{difference}
use Rattle.ts_model.specs.History.{History, IsWellKept}
use Rattle.ts_model.proofs.SetLaws.{IsStrictlySortedBy-members}
use Rattle.ts_part.specs.Rules.{TermsRule}
use Rattle.ts_part.specs.Step.{is_of_kind, new_terms}
use Rattle.ts_part.proofs.Ranks.{each_weaker}
use Rattle.ts_part.proofs.RisingLists.{rises-map}
use Rattle.ts_part.proofs.Births.{IsOver}
use Rattle.ts_part.proofs.Numbered.{all_of, old_of, new_of}
use Rattle.ts_part.proofs.EntryCounts.{IsListed, each_listed}
use Rattle.ts_part.proofs.EntryOrder.{by_spelling, number_tied}
use Rattle.ts_part.proofs.TripleTerms.{term_at}

module _ (history : History) (kept : IsWellKept history) (from : Option ℕ) (k : ℕ) (over : IsOver history from k) where
  spelled : (kind : TermKind) (x y : TextTerm) → IsListed history from k kind x → IsListed history from k kind y → term_cmp x y ≡ Less → slice_cmp nat_cmp x.spelling y.spelling ≡ Less
  spelled kind x y a b less =
      by_spelling (slice_cmp nat_cmp x.spelling y.spelling) (nat_cmp (kind_place x.kind) (kind_place y.kind)) less
      (number_tied (kind_place x.kind) (kind_place y.kind) (ap kind_place (a.0 ∙ sym b.0)))

  pub terms_keep : (kind : TermKind) → TermsRule kind (new_terms kind history from k)
  terms_keep kind =
      let terms : List TextTerm = new_terms kind history from k in
      let each = each_listed history kept from k over kind in
      record {
        kinds = All-from_recursion (λ term. term.kind ≡ kind) terms (each_weaker (IsListed history from k kind) (λ term. term.kind ≡ kind) (λ term h. h.0) terms each);
        canonical = All-from_recursion IsTerm terms (each_weaker (IsListed history from k kind) IsTerm (λ term h. term_at history kept (Some k) term h.1.there) terms each);
        rising =
            rises-map term_cmp (slice_cmp nat_cmp) (λ (term : TextTerm). term.spelling) (IsListed history from k kind) (spelled kind) terms each
            (IsStrictlySortedBy-filter term_cmp (is_of_kind kind) (new_of history kept from k over kind)
            (IsStrictlySortedBy-members term_cmp (difference (all_of history kept from k over kind) (old_of history kept from k over kind))));
      }
