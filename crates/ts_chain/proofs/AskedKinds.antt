-- What a pattern selects, by the numbers that a chain has for its terms.
use Rattle.std.proofs.Common.{◌≡◌, ◌≢◌, ℕ, ◌⊎◌, inl, inr, Bool, true, false, true≢false, ◌&&◌, List, [], Option, None, Some, IfSome, refl, sym, ap, ◌∙◌, subst, arith}
use Rattle.ts_model.specs.declared.pattern.Pattern.{Pattern}
use Rattle.ts_model.specs.declared.term.TermKind.{TermKind}
use Rattle.ts_model.specs.declared.term.TermKind.TheVariants.{Node, Predicate, Value}
use Rattle.ts_model.specs.Fits.{fits, term_fits}
use Rattle.ts_model.specs.History.{History, IsWellKept}
use Rattle.ts_model.specs.Listing.{select}
use Rattle.ts_model.specs.Order.{kind_place}
use Rattle.ts_model.specs.Sets.{contains}
use Rattle.ts_model.specs.TextTerm.{TextTerm}
use Rattle.ts_model.specs.TextTriple.{TextTriple, IsTriple}
use Rattle.ts_plane.specs.declared.pattern.IdPattern.{IdPattern}
use Rattle.ts_plane.specs.declared.triple.IdTriple.{IdTriple}
use Rattle.ts_part.specs.Facts.{Facts}
use Rattle.ts_part.specs.Numbers.{IsTermAt, number_of, numbered_with}
use Rattle.ts_part.proofs.Mentioned.{same_term}
use Rattle.ts_chain.specs.declared.numbered.Numbered.{Numbered}
use Rattle.ts_chain.specs.declared.numbered.Numbered.TheVariants.{Terms, Predicates}
use Rattle.ts_chain.specs.Ids.{HasId}
use Rattle.ts_chain.specs.Patterns.{AsksByKind, IsAskedIn, IsNumbered, IsNumberedBy, IsPatternBy, IsPatternIn}
use Rattle.ts_chain.specs.Stands.{StandsFor}
use Rattle.ts_chain.specs.Walks.{selected, walked}
use Rattle.ts_chain.proofs.IdsAtLayers.{has_id_at, id_at}
use Rattle.ts_chain.proofs.NamesAtLayers.{node_or_value}
use Rattle.ts_chain.proofs.SelectedAtLayers.{selected_at}
use Rattle.ts_chain.proofs.Strangers.{nothing_fits, strangers}

-- ---- kinds

three : (a b c : Bool) → (a && b && c) ≡ true → (a ≡ true) × (b ≡ true) × (c ≡ true)
three true true true e = (refl, refl, refl)
three true true false e = absurd (true≢false (sym e))
three true false c e = absurd (true≢false (sym e))
three false b c e = absurd (true≢false (sym e))

-- what fits a term is of its kind
of_kind : (P : TermKind → Type 0) (given : Option TextTerm) (other : TextTerm) → term_fits given other ≡ true → P other.kind → IfSome given (λ term. P term.kind)
of_kind P None other fit is = tt
of_kind P (Some term) other fit is = subst (λ (t : TextTerm). P t.kind) (sym (same_term term other fit)) is

asks_by_kind : (wanted : Pattern) (q : TextTriple) → IsTriple q → fits wanted q ≡ true → AsksByKind wanted
asks_by_kind wanted q is fit =
    let each = three (term_fits wanted.subject q.subject) (term_fits wanted.predicate q.predicate) (term_fits wanted.object q.object) fit in
    record {
      subject = of_kind (λ kind. kind ≢ Predicate) wanted.subject q.subject each.0 (node_or_value q.subject.kind (inl is.0.0));
      predicate = of_kind (λ kind. kind ≡ Predicate) wanted.predicate q.predicate each.1 is.0.1;
      object = of_kind (λ kind. kind ≢ Predicate) wanted.object q.object each.2 (node_or_value q.object.kind is.0.2);
    }

pub kinds_select_nothing : (history : History) (k : ℕ) (wanted : Pattern) → IsWellKept history → ¬ AsksByKind wanted → select history k wanted ≡ []
kinds_select_nothing history k wanted kept other = nothing_fits history k wanted kept (λ q there. by q there.is (fits wanted q) refl)
  where
    by : (q : TextTriple) → IsTriple q → (fit : Bool) → fits wanted q ≡ fit → fit ≡ false
    by q is false e = refl
    by q is true e = absurd (other (asks_by_kind wanted q is e))

-- ---- the numbers of a pattern

-- the pattern asks for terms of the kinds of their places
kinds_of : (numbered : Numbered) (parts : List Facts) (given : Option TextTerm) (id : Option ℕ) → IsAskedIn numbered parts given id → IfSome given (λ term. IsNumberedBy numbered term.kind)
kinds_of numbered parts None None is = tt
kinds_of numbered parts None (Some id) is = absurd is
kinds_of numbered parts (Some term) None is = absurd is
kinds_of numbered parts (Some term) (Some id) is = is.0

module _ (history : History) (k : ℕ) (parts : List Facts) (stands : StandsFor parts history k) where
  numbered_at : (numbered : Numbered) (given : Option TextTerm) (id : Option ℕ) → IsAskedIn numbered parts given id → IsNumbered history k given id
  numbered_at numbered None None is = tt
  numbered_at numbered None (Some id) is = absurd is
  numbered_at numbered (Some term) None is = absurd is
  numbered_at numbered (Some term) (Some id) is = id_at history k parts term id stands is.1

  module _ (wanted : Pattern) where
    pub pattern_by : (ids : IdPattern) → IsPatternIn parts wanted ids → IsPatternBy history k wanted ids
    pattern_by ids is = record {
      kinds = record {
        subject = kinds_of Terms parts wanted.subject ids.s is.subject;
        predicate = kinds_of Predicates parts wanted.predicate ids.p is.predicate;
        object = kinds_of Terms parts wanted.object ids.o is.object;
      };
      subject = numbered_at Terms wanted.subject ids.s is.subject;
      predicate = numbered_at Predicates wanted.predicate ids.p is.predicate;
      object = numbered_at Terms wanted.object ids.o is.object;
    }

    pub walk_selects : (ids : IdPattern) → IsPatternIn parts wanted ids → (after : Option IdTriple) → walked parts ids after ≡ selected history k wanted after
    walk_selects ids is after = selected_at history k parts wanted ids after stands (pattern_by ids is)

-- ---- a pattern without numbers

is_predicate : (kind : TermKind) → (kind ≡ Predicate) ⊎ (kind ≢ Predicate)
is_predicate Node = inr (λ e. node_or_value Node (inl refl) e)
is_predicate Predicate = inl refl
is_predicate Value = inr (λ e. node_or_value Value (inr refl) e)

is_numbered_by : (numbered : Numbered) (kind : TermKind) → IsNumberedBy numbered kind ⊎ (¬ IsNumberedBy numbered kind)
is_numbered_by Terms kind = elim (is_predicate kind) as (λ _. (kind ≢ Predicate) ⊎ (¬ (kind ≢ Predicate))) [
  | inl is ↦ inr (λ other. other is)
  | inr other ↦ inl other
]
is_numbered_by Predicates kind = is_predicate kind

module _ (history : History) (k : ℕ) (parts : List Facts) (stands : StandsFor parts history k) where
  -- why a term has no number in its place: it is of another kind, or the layer hasn't it
  abbrev IsOut : Numbered → Option TextTerm → Type 0
  IsOut numbered given = (term : TextTerm) × (given ≡ Some term) × ((¬ IsNumberedBy numbered term.kind) ⊎ (¬ IsTermAt history (Some k) term))

  asked : (numbered : Numbered) (given : Option TextTerm) → ((id : Option ℕ) × IsAskedIn numbered parts given id) ⊎ IsOut numbered given
  asked numbered None = inl (None, tt)
  asked numbered (Some term) = by (is_numbered_by numbered term.kind) (contains (numbered_with term.kind history (Some k)) term) refl
    where
      by : IsNumberedBy numbered term.kind ⊎ (¬ IsNumberedBy numbered term.kind) → (there : Bool) → contains (numbered_with term.kind history (Some k)) term ≡ there
          → ((id : Option ℕ) × IsAskedIn numbered parts (Some term) id) ⊎ IsOut numbered (Some term)
      by (inr other) there e = inr (term, refl, inl other)
      by (inl is) false e = inr (term, refl, inr (λ there. true≢false (sym there ∙ e)))
      by (inl is) true e = inl (Some (number_of history k term), (is, has_id_at history k parts term stands e))

  module _ (wanted : Pattern) where
    subject_out : IsOut Terms wanted.subject → select history k wanted ≡ []
    subject_out out = elim out.2 as (λ _. select history k wanted ≡ []) [
      | inl other ↦ kinds_select_nothing history k wanted stands.kept (λ kinds.
          other (subst (λ (given : Option TextTerm). IfSome given (λ term. term.kind ≢ Predicate)) out.1 kinds.subject))
      | inr absent ↦ strangers history k wanted out.0 stands.kept absent (inl out.1)
    ]

    predicate_out : IsOut Predicates wanted.predicate → select history k wanted ≡ []
    predicate_out out = elim out.2 as (λ _. select history k wanted ≡ []) [
      | inl other ↦ kinds_select_nothing history k wanted stands.kept (λ kinds.
          other (subst (λ (given : Option TextTerm). IfSome given (λ term. term.kind ≡ Predicate)) out.1 kinds.predicate))
      | inr absent ↦ strangers history k wanted out.0 stands.kept absent (inr (inl out.1))
    ]

    object_out : IsOut Terms wanted.object → select history k wanted ≡ []
    object_out out = elim out.2 as (λ _. select history k wanted ≡ []) [
      | inl other ↦ kinds_select_nothing history k wanted stands.kept (λ kinds.
          other (subst (λ (given : Option TextTerm). IfSome given (λ term. term.kind ≢ Predicate)) out.1 kinds.object))
      | inr absent ↦ strangers history k wanted out.0 stands.kept absent (inr (inr out.1))
    ]

    pub nothing_asked : ((ids : IdPattern) → ¬ IsPatternIn parts wanted ids) → select history k wanted ≡ []
    nothing_asked none = by (asked Terms wanted.subject) (asked Predicates wanted.predicate) (asked Terms wanted.object)
      where
        by : ((id : Option ℕ) × IsAskedIn Terms parts wanted.subject id) ⊎ IsOut Terms wanted.subject
            → ((id : Option ℕ) × IsAskedIn Predicates parts wanted.predicate id) ⊎ IsOut Predicates wanted.predicate
            → ((id : Option ℕ) × IsAskedIn Terms parts wanted.object id) ⊎ IsOut Terms wanted.object → select history k wanted ≡ []
        by (inr out) p o = subject_out out
        by (inl s) (inr out) o = predicate_out out
        by (inl s) (inl p) (inr out) = object_out out
        by (inl s) (inl p) (inl o) = absurd (none (record { s = s.0; p = p.0; o = o.0 }) (record { subject = s.1; predicate = p.1; object = o.1 }))
