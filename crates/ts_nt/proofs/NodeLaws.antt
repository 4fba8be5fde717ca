-- A node begins with `_` where it is a blank label, and only there.
use Rattle.std.proofs.Common.{◌≡◌, ◌≢◌, inl, inr, ℕ, List, ◌∷◌, Option, arith}
use Rattle.ts_model.specs.declared.term.TermKind.TheVariants.{Node}
use Rattle.ts_nt.specs.Reading.{Finds}
use Rattle.ts_nt.specs.Terms.{IriAt, LabelAt, TermAt}
use Rattle.ts_nt.proofs.FindsLaws.{Finds-as}
use Rattle.ts_nt.proofs.TermLaws.{begins_once, iri_begins, label_begins}

pub node_from_label : (text others old new : List ℕ) (found : Option (List ℕ)) → text ≡ 0x5F ∷ others → Finds LabelAt text old new found → Finds (TermAt Node) text old new found
node_from_label text others old new found begins = Finds-as LabelAt (TermAt Node) text text old new found (λ spelling rest at. inr at) label
  where
    label : (spelling rest : List ℕ) → TermAt Node text spelling rest → LabelAt text spelling rest
    label spelling rest (inl at) = let same = begins_once text 0x3C 0x5F (iri_begins text spelling rest at) (others, begins) in absurd (omega (arith, same))
    label spelling rest (inr at) = at

pub node_from_iri : (text old new : List ℕ) (found : Option (List ℕ)) → ((others : List ℕ) → text ≢ 0x5F ∷ others) → Finds IriAt text old new found → Finds (TermAt Node) text old new found
node_from_iri text old new found none = Finds-as IriAt (TermAt Node) text text old new found (λ spelling rest at. inl at) iri
  where
    iri : (spelling rest : List ℕ) → TermAt Node text spelling rest → IriAt text spelling rest
    iri spelling rest (inl at) = at
    iri spelling rest (inr at) = let begins = label_begins text spelling rest at in absurd (none begins.0 begins.1)
