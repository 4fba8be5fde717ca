-- The walk's numbers name the listing's terms, and a pattern with a term that the layer lacks finds nothing.
use Rattle.std.proofs.Common.{◌≡◌, ◌≢◌, ℕ, ◌⊎◌, inl, inr, Bool, true, false, ◌&&◌, cond, List, [], ◌∷◌, filter, Option, Some, refl, sym, ap, ◌∙◌, subst}
use Rattle.std.specs.List.{AllByRecursion}
use Rattle.ts_model.specs.declared.pattern.Pattern.{Pattern}
use Rattle.ts_model.specs.declared.term.TermKind.TheVariants.{Node, Predicate}
use Rattle.ts_model.specs.Birth.{is_term}
use Rattle.ts_model.specs.Fits.{fits, term_fits}
use Rattle.ts_model.specs.History.{History, IsWellKept, content_at}
use Rattle.ts_model.specs.Listing.{birth_cmp, listing, select}
use Rattle.ts_model.specs.Sets.{contains}
use Rattle.ts_model.specs.TextTerm.{TextTerm}
use Rattle.ts_model.specs.TextTriple.{TextTriple}
use Rattle.ts_model.proofs.BirthOrder.{birth_cmp_total, birth_cmp-IsAntisymmetric}
use Rattle.ts_part.specs.Facts.{Facts}
use Rattle.ts_part.specs.Numbers.{IsTermAt, id_triple, number_of}
use Rattle.ts_part.proofs.IdOrder.{in_set, node_at, predicate_at}
use Rattle.ts_part.proofs.Mentioned.{same_term}
use Rattle.ts_part.proofs.Places.{number-once}
use Rattle.ts_part.proofs.Ranks.{each_among, place_of}
use Rattle.ts_part.proofs.TripleTerms.{IsTripleAt, content_terms}
use Rattle.ts_chain.specs.Chain.{layer_of}
use Rattle.ts_chain.specs.Ids.{HasOfKind}
use Rattle.ts_chain.specs.Spelled.{IsSpelledBy}
use Rattle.ts_chain.specs.Stands.{StandsFor}
use Rattle.ts_chain.specs.Views.{NamesPredicate, NamesTerm}
use Rattle.ts_chain.proofs.IdsAtLayers.{has_id_at}
use Rattle.ts_chain.proofs.NamesAtLayers.{named_in, names_predicate_at, names_term_at, node_or_value}
use Rattle.ts_chain.proofs.SelectedAtLayers.{other_than}

-- ---- what a chain names

pub term_named : (history : History) (k : ℕ) (parts : List Facts) (term : TextTerm) → StandsFor parts history k → IsTermAt history (Some k) term → term.kind ≢ Predicate
    → NamesTerm parts (number_of history k term) term
term_named history k parts term stands there other =
    let id = number_of history k term in
    let found = named_in history stands.kept term id parts (has_id_at history k parts term stands there) in
    record {
      part = found.0;
      among = found.1;
      has = elim (other_than term.kind other) [
        | inl node ↦ subst (λ kind. HasOfKind kind found.0 id term) node found.2
        | inr value ↦ subst (λ kind. HasOfKind kind found.0 id term) value found.2
      ];
    }

pub predicate_named : (history : History) (k : ℕ) (parts : List Facts) (term : TextTerm) → StandsFor parts history k → IsTermAt history (Some k) term → term.kind ≡ Predicate
    → NamesPredicate parts (number_of history k term) term
predicate_named history k parts term stands there is =
    let id = number_of history k term in
    let found = named_in history stands.kept term id parts (has_id_at history k parts term stands there) in
    record { part = found.0; among = found.1; has = subst (λ kind. HasOfKind kind found.0 id term) is found.2 }

-- a triple whose terms a layer has
pub triple_named : (history : History) (k : ℕ) (parts : List Facts) (triple : TextTriple) → StandsFor parts history k → IsTripleAt history (Some k) triple
    → IsSpelledBy parts (id_triple history k triple) triple
unfolding id_triple
triple_named history k parts triple stands terms = record {
  subject = term_named history k parts triple.subject stands terms.subject (node_or_value triple.subject.kind (inl terms.is.0.0));
  predicate = predicate_named history k parts triple.predicate stands terms.predicate terms.is.0.1;
  object = term_named history k parts triple.object stands terms.object (node_or_value triple.object.kind terms.is.0.2);
}

pub content_named : (history : History) (k : ℕ) (parts : List Facts) (triple : TextTriple) → StandsFor parts history k → contains (content_at history k) triple ≡ true
    → IsSpelledBy parts (id_triple history k triple) triple
content_named history k parts triple stands there = triple_named history k parts triple stands (content_terms history stands.kept (Some k) triple there)

-- a number names one term
pub one_term : (history : History) (k : ℕ) (parts : List Facts) (id : ℕ) (a b : TextTerm) → StandsFor parts history k → NamesTerm parts id a → NamesTerm parts id b → a ≡ b
one_term history k parts id a b stands names_a names_b =
    let is_a = names_term_at history k parts id a stands names_a in
    let is_b = names_term_at history k parts id b stands names_b in
    number-once history stands.kept k Node a b (node_at history stands.kept (Some k) a (other_than a.kind is_a.kind) is_a.there) (node_at history stands.kept (Some k) b (other_than b.kind is_b.kind) is_b.there)
    (is_a.number ∙ sym is_b.number)

pub one_predicate : (history : History) (k : ℕ) (parts : List Facts) (id : ℕ) (a b : TextTerm) → StandsFor parts history k → NamesPredicate parts id a → NamesPredicate parts id b → a ≡ b
one_predicate history k parts id a b stands names_a names_b =
    let is_a = names_predicate_at history k parts id a stands names_a in
    let is_b = names_predicate_at history k parts id b stands names_b in
    number-once history stands.kept k Predicate a b (predicate_at history stands.kept (Some k) a is_a.kind is_a.there) (predicate_at history stands.kept (Some k) b is_b.kind is_b.there)
    (is_a.number ∙ sym is_b.number)

-- ---- strangers

none_pass : {X : Type 0} (test : X → Bool) (xs : List X) → AllByRecursion (λ x. test x ≡ false) xs → filter test xs ≡ []
none_pass test [] each = refl
none_pass test (x ∷ xs) each = ap (λ t. cond t (x ∷ filter test xs) (filter test xs)) each.0 ∙ none_pass test xs each.1

-- a term that is asked for and that the layer hasn't is none of a triple's terms
differs : (history : History) (k : ℕ) (given : Option TextTerm) (term other : TextTerm) → given ≡ Some term → ¬ IsTermAt history (Some k) term → IsTermAt history (Some k) other
    → term_fits given other ≡ false
differs history k given term other is strange there = ap (λ o. term_fits o other) is ∙ by (is_term term other) refl
  where
    by : (one : Bool) → is_term term other ≡ one → is_term term other ≡ false
    by false e = e
    by true e = absurd (strange (subst (IsTermAt history (Some k)) (sym (same_term term other e)) there))

fits_not : (a b c : Bool) → (a ≡ false) ⊎ ((b ≡ false) ⊎ (c ≡ false)) → (a && b && c) ≡ false
fits_not false b c h = refl
fits_not true false c h = refl
fits_not true true false h = refl
fits_not true true true (inl e) = e
fits_not true true true (inr (inl e)) = e
fits_not true true true (inr (inr e)) = e

pub nothing_fits : (history : History) (k : ℕ) (wanted : Pattern) → IsWellKept history → ((q : TextTriple) → IsTripleAt history (Some k) q → fits wanted q ≡ false) → select history k wanted ≡ []
nothing_fits history k wanted kept none =
    none_pass (fits wanted) (listing history k)
    (each_among (birth_cmp history k) (birth_cmp_total history k) (λ q. fits wanted q ≡ false) (listing history k) (λ q among.
    let place = place_of (birth_cmp history k) (birth_cmp_total history k) (birth_cmp-IsAntisymmetric history k) (listing history k) q among in
    none q (content_terms history kept (Some k) q (in_set history kept k (content_at history k) place.0 q place.1))))

pub strangers : (history : History) (k : ℕ) (wanted : Pattern) (term : TextTerm) → IsWellKept history → ¬ IsTermAt history (Some k) term
    → (wanted.subject ≡ Some term) ⊎ ((wanted.predicate ≡ Some term) ⊎ (wanted.object ≡ Some term)) → select history k wanted ≡ []
strangers history k wanted term kept strange asked = nothing_fits history k wanted kept one
  where
    one : (q : TextTriple) → IsTripleAt history (Some k) q → fits wanted q ≡ false
    one q there = fits_not (term_fits wanted.subject q.subject) (term_fits wanted.predicate q.predicate) (term_fits wanted.object q.object) (by asked)
      where
        by : (wanted.subject ≡ Some term) ⊎ ((wanted.predicate ≡ Some term) ⊎ (wanted.object ≡ Some term))
            → (term_fits wanted.subject q.subject ≡ false) ⊎ ((term_fits wanted.predicate q.predicate ≡ false) ⊎ (term_fits wanted.object q.object ≡ false))
        by (inl is) = inl (differs history k wanted.subject term q.subject is strange there.subject)
        by (inr (inl is)) = inr (inl (differs history k wanted.predicate term q.predicate is strange there.predicate))
        by (inr (inr is)) = inr (inr (differs history k wanted.object term q.object is strange there.object))

-- ---- the layer

pub layer_at : (history : History) (k : ℕ) (parts : List Facts) → StandsFor parts history k → layer_of parts ≡ Some k
layer_at history k [] stands = absurd stands.steps
layer_at history k (part ∷ parts) stands = ap Some stands.steps.0.step.number
