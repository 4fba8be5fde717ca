-- The one spelling of each term: RDF 1.1 N-Triples, with every IRIREF taken, and each character written in one way.
use Rattle.std.specs.Prelude.{ℕ, List, ◌⊎◌}
use Rattle.ts_model.specs.declared.term.TermKind.{TermKind}
use Rattle.ts_model.specs.declared.term.TermKind.TheVariants.{Node, Predicate, Value}
use Rattle.ts_model.specs.Iri.{IsIri}
use Rattle.ts_model.specs.BlankLabel.{IsBlankLabel}
use Rattle.ts_model.specs.Literal.{IsLiteral}

-- a node is an IRI or a blank label, a predicate an IRI, a value a literal
abbrev pub IsCanonical : TermKind → List ℕ → Type 0
IsCanonical Node spelling = IsIri spelling ⊎ IsBlankLabel spelling
IsCanonical Predicate spelling = IsIri spelling
IsCanonical Value spelling = IsLiteral spelling
