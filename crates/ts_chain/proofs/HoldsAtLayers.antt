-- A chain holds a triple exactly where the layer that it stands for has it.
use Rattle.std.proofs.Common.{◌≡◌, ℕ, ◌==◌, ◌⊎◌, inl, inr, Bool, true, false, if◌then◌else◌, List, [], ◌∷◌, Some, IsTrue, refl, ◌∙◌, subst}
use Rattle.std.specs.Prelude.{◌↔◌}
use Rattle.ts_model.specs.declared.term.TermKind.TheVariants.{Node, Value}
use Rattle.ts_model.specs.TextTriple.{TextTriple, HasKinds}
use Rattle.ts_model.specs.History.{History, content_at}
use Rattle.ts_model.specs.Sets.{contains}
use Rattle.ts_plane.specs.declared.triple.IdTriple.{IdTriple}
use Rattle.ts_part.specs.Facts.{Facts}
use Rattle.ts_part.specs.Numbers.{id_triple}
use Rattle.ts_part.proofs.IdOrder.{from_set, id-once, to_set}
use Rattle.ts_part.proofs.TripleTerms.{IsTripleAt, content_terms, term_at}
use Rattle.ts_chain.specs.Holds.{HasIds, Holds, object_kind, spelled_triple}
use Rattle.ts_chain.specs.Stands.{StandsFor}
use Rattle.ts_chain.proofs.IdsAtLayers.{has_id_at, id_at}
use Rattle.ts_chain.proofs.StepsContent.{stands_content}

module _ (history : History) (k : ℕ) (parts : List Facts) (stands : StandsFor parts history k) (triple : TextTriple) where
  -- a triple whose terms the chain has is one of the layer's terms
  at_layer : (t : IdTriple) → HasKinds triple.subject triple.predicate triple.object → HasIds parts triple t → IsTripleAt history (Some k) triple
  at_layer t kinds has =
      let subject = (id_at history k parts triple.subject t.s stands has.subject).0 in
      let predicate = (id_at history k parts triple.predicate t.p stands has.predicate).0 in
      let object = (id_at history k parts triple.object t.o stands has.object).0 in
      record {
        is = (
          kinds,
          term_at history stands.kept (Some k) triple.subject subject,
          term_at history stands.kept (Some k) triple.predicate predicate,
          term_at history stands.kept (Some k) triple.object object,
        );
        subject = subject;
        predicate = predicate;
        object = object;
      }

  -- and its numbers are those of the layer
  ids_are : (t : IdTriple) → HasIds parts triple t → t ≡ id_triple history k triple
  unfolding id_triple
  ids_are t has = λ i. record {
    s = (id_at history k parts triple.subject t.s stands has.subject).1 i;
    p = (id_at history k parts triple.predicate t.p stands has.predicate).1 i;
    o = (id_at history k parts triple.object t.o stands has.object).1 i;
  }

  has_ids : IsTripleAt history (Some k) triple → HasIds parts triple (id_triple history k triple)
  unfolding id_triple
  has_ids there = record {
    subject = has_id_at history k parts triple.subject stands there.subject;
    predicate = has_id_at history k parts triple.predicate stands there.predicate;
    object = has_id_at history k parts triple.object stands there.object;
  }

  to_content : HasKinds triple.subject triple.predicate triple.object → Holds parts triple → IsTrue (contains (content_at history k) triple)
  to_content kinds holds =
      let among = (stands_content history k parts stands holds.ids).0 holds.stands in
      let found = from_set history stands.kept k (content_at history k) holds.ids among in
      let same : found.0 ≡ triple =
      id-once history stands.kept k found.0 triple (content_terms history stands.kept (Some k) found.0 found.1) (at_layer holds.ids kinds holds.has) (found.2 ∙ ids_are holds.ids holds.has) in
      subst (λ q. IsTrue (contains (content_at history k) q)) same found.1

  from_content : IsTrue (contains (content_at history k) triple) → Holds parts triple
  from_content there = record {
    ids = id_triple history k triple;
    has = has_ids (content_terms history stands.kept (Some k) triple there);
    stands = (stands_content history k parts stands (id_triple history k triple)).1 (to_set history stands.kept k (content_at history k) triple there);
  }

pub holds_at : (history : History) (k : ℕ) (parts : List Facts) (triple : TextTriple) → HasKinds triple.subject triple.predicate triple.object → StandsFor parts history k
    → Holds parts triple ↔ IsTrue (contains (content_at history k) triple)
holds_at history k parts triple kinds stands = (to_content history k parts stands triple kinds, from_content history k parts stands triple)

object_kinds : (o : List ℕ) → (object_kind o ≡ Node) ⊎ (object_kind o ≡ Value)
object_kinds [] = inl refl
object_kinds (byte ∷ bytes) = elim (byte == 34) as (λ (b : Bool). ((if b then Value else Node) ≡ Node) ⊎ ((if b then Value else Node) ≡ Value)) [
  | true ↦ inr refl
  | false ↦ inl refl
]

pub spelled_kinds : (s p o : List ℕ) → HasKinds (spelled_triple s p o).subject (spelled_triple s p o).predicate (spelled_triple s p o).object
spelled_kinds s p o = (refl, refl, object_kinds o)
