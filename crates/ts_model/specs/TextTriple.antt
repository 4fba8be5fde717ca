-- A triple as contracts see it.
use Rattle.std.specs.Prelude.{◌≡◌, ◌⊎◌}
use Rattle.ts_model.specs.declared.term.TermKind.TheVariants.{Node, Predicate, Value}
use Rattle.ts_model.specs.TextTerm.{TextTerm, IsTerm}

pub record TextTriple : Type 0 where
  pub subject : TextTerm
  pub predicate : TextTerm
  pub object : TextTerm

-- a node, a predicate, and a node or a value
abbrev pub HasKinds : TextTerm → TextTerm → TextTerm → Type 0
HasKinds subject predicate object =
    (subject.kind ≡ Node) × (predicate.kind ≡ Predicate) × ((object.kind ≡ Node) ⊎ (object.kind ≡ Value))

-- three terms of these kinds, each with its canonical spelling within its limit
abbrev pub IsTriple : TextTriple → Type 0
IsTriple triple = HasKinds triple.subject triple.predicate triple.object × IsTerm triple.subject × IsTerm triple.predicate × IsTerm triple.object
