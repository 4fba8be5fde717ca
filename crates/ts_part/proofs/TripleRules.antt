-- The triples that come and that go keep the rules of a part's lists.
use Rattle.std.proofs.Common.{◌≡◌, ℕ, ◌≤◌, ◌⊎◌, inl, true, false, not, Option, Some, sym, ap, ◌∙◌, subst, true≢false}
use Rattle.std.proofs.lemmas.Bool.{and_parts, not-true}
use Rattle.ts_model.specs.declared.term.TermKind.TheVariants.{Node, Value}
use Rattle.ts_model.specs.TextTerm.{TextTerm}
use Rattle.ts_model.specs.TextTriple.{TextTriple}
use Rattle.ts_model.specs.Order.{triple_cmp, triple_cmp_total, triple_cmp-IsAntisymmetric}
use Rattle.ts_model.specs.Sets.{contains, size}
use Rattle.ts_model.specs.History.{History, IsWellKept, content_at, content_at_parent}
use Rattle.ts_model.proofs.SetAlgebra.{contains-difference}
use Rattle.ts_plane.specs.Triple.{IsWithin}
use Rattle.ts_part.specs.Numbers.{IsTermAt, id_triple, id_triples, number_of, numbered_with, totals_at}
use Rattle.ts_part.specs.Rules.{AreApart, TriplesRule}
use Rattle.ts_part.specs.Step.{gained, lost}
use Rattle.ts_part.proofs.Births.{IsOver}
use Rattle.ts_part.proofs.Mentioned.{numbered_as_node}
use Rattle.ts_part.proofs.Numbered.{still_there}
use Rattle.ts_part.proofs.NewNumbers.{old_within}
use Rattle.ts_part.proofs.IdOrder.{from_set, id-once, id-within, id_triples-each, id_triples-plane}
use Rattle.ts_part.proofs.TripleTerms.{IsTripleAt, content_terms}

module _ (history : History) (kept : IsWellKept history) (from : Option ℕ) (k : ℕ) (over : IsOver history from k) where
  gained_parts : (q : TextTriple) → contains (gained history from k) q ≡ true → (contains (content_at history k) q ≡ true) × (contains (content_at_parent history from) q ≡ false)
  gained_parts q there =
      let parts = and_parts (contains (content_at history k) q) (not (contains (content_at_parent history from) q))
      (sym (contains-difference triple_cmp triple_cmp_total triple_cmp-IsAntisymmetric (content_at history k) (content_at_parent history from) q) ∙ there) in
      (parts.0, not-true (contains (content_at_parent history from) q) parts.1)

  pub lost_before : (q : TextTriple) → contains (lost history from k) q ≡ true → contains (content_at_parent history from) q ≡ true
  lost_before q there =
      (and_parts (contains (content_at_parent history from) q) (not (contains (content_at history k) q))
      (sym (contains-difference triple_cmp triple_cmp_total triple_cmp-IsAntisymmetric (content_at_parent history from) (content_at history k) q) ∙ there)).0

  pub gained_here : (q : TextTriple) → contains (gained history from k) q ≡ true → IsTripleAt history (Some k) q
  gained_here q there = content_terms history kept (Some k) q (gained_parts q there).0

  still : (term : TextTerm) → IsTermAt history from term → IsTermAt history (Some k) term
  still term was = still_there history kept from k over term.kind term was

  lost_there : (q : TextTriple) → contains (lost history from k) q ≡ true → IsTripleAt history from q
  lost_there q there = content_terms history kept from q (lost_before q there)

  pub lost_here : (q : TextTriple) → contains (lost history from k) q ≡ true → IsTripleAt history (Some k) q
  lost_here q there =
      let was = lost_there q there in
      record { is = was.is; subject = still q.subject was.subject; predicate = still q.predicate was.predicate; object = still q.object was.object }

  pub gained_keep : TriplesRule (totals_at history (Some k)).0 (totals_at history (Some k)).1 (id_triples history k (gained history from k))
  gained_keep = record {
    list = id_triples-plane history kept k (gained history from k) gained_here;
    within = id_triples-each history kept k (gained history from k) gained_here (IsWithin (totals_at history (Some k)).0 (totals_at history (Some k)).1) (λ q there. id-within history kept k q (gained_here q there));
  }

  end_within : (term : TextTerm) → (term.kind ≡ Node) ⊎ (term.kind ≡ Value) → IsTermAt history from term → number_of history k term ≤ (totals_at history from).0
  end_within term kind was = subst (λ set. number_of history k term ≤ size set) (numbered_as_node history from term.kind kind) (old_within history kept from k over term was)

  lost_within : (q : TextTriple) → contains (lost history from k) q ≡ true → IsWithin (totals_at history from).0 (totals_at history from).1 (id_triple history k q)
  unfolding id_triple
  lost_within q there =
      let was = lost_there q there in
      record {
        subject = end_within q.subject (inl was.is.0.0) was.subject;
        predicate = subst (λ kind. number_of history k q.predicate ≤ size (numbered_with kind history from)) was.is.0.1 (old_within history kept from k over q.predicate was.predicate);
        object = end_within q.object was.is.0.2 was.object;
      }

  pub lost_keep : TriplesRule (totals_at history from).0 (totals_at history from).1 (id_triples history k (lost history from k))
  lost_keep = record {
    list = id_triples-plane history kept k (lost history from k) lost_here;
    within = id_triples-each history kept k (lost history from k) lost_here (IsWithin (totals_at history from).0 (totals_at history from).1) lost_within;
  }

  -- no triple comes and goes
  pub keep_apart : AreApart (id_triples history k (gained history from k)) (id_triples history k (lost history from k))
  keep_apart triple comes goes =
      let come = from_set history kept k (gained history from k) triple comes in
      let go = from_set history kept k (lost history from k) triple goes in
      let one : come.0 ≡ go.0 = id-once history kept k come.0 go.0 (gained_here come.0 come.1) (lost_here go.0 go.1) (come.2 ∙ sym go.2) in
      true≢false (sym (lost_before go.0 go.1) ∙ ap (contains (content_at_parent history from)) (sym one) ∙ (gained_parts come.0 come.1).1)
