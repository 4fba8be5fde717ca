-- A triple is that of its spellings: the first byte of its object tells the object's kind.
use Rattle.std.proofs.Common.{◌≡◌, ℕ, ◌⊎◌, inl, inr, List, sym, ap, ◌∙◌, subst}
use Rattle.ts_model.specs.declared.term.TermKind.{TermKind}
use Rattle.ts_model.specs.declared.term.TermKind.TheVariants.{Node, Value}
use Rattle.ts_model.specs.Canonical.{IsCanonical}
use Rattle.ts_model.specs.TextTerm.{TextTerm, IsTerm}
use Rattle.ts_model.specs.TextTriple.{TextTriple, IsTriple}
use Rattle.ts_chain.specs.Holds.{object_kind, spelled_triple}

node_begins : (spelling : List ℕ) → IsCanonical Node spelling → object_kind spelling ≡ Node
node_begins spelling (inl iri) = ap object_kind iri.spelled
node_begins spelling (inr label) = ap object_kind label.spelled

value_begins : (spelling : List ℕ) → IsCanonical Value spelling → object_kind spelling ≡ Value
value_begins spelling literal = ap object_kind literal.spelled

kind_told : (term : TextTerm) → IsTerm term → (term.kind ≡ Node) ⊎ (term.kind ≡ Value) → object_kind term.spelling ≡ term.kind
kind_told term is (inl node) = node_begins term.spelling (subst (λ (kind : TermKind). IsCanonical kind term.spelling) node is.0) ∙ sym node
kind_told term is (inr value) = value_begins term.spelling (subst (λ (kind : TermKind). IsCanonical kind term.spelling) value is.0) ∙ sym value

pub spelled_is : (triple : TextTriple) → IsTriple triple → spelled_triple triple.subject.spelling triple.predicate.spelling triple.object.spelling ≡ triple
spelled_is triple is =
    let subject = sym is.0.0 in
    let predicate = sym is.0.1 in
    let object = kind_told triple.object is.3 is.0.2 in
    λ i. record {
      subject = record { kind = subject i; spelling = triple.subject.spelling };
      predicate = record { kind = predicate i; spelling = triple.predicate.spelling };
      object = record { kind = object i; spelling = triple.object.spelling };
    }
