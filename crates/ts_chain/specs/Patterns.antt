-- A pattern of terms, by their numbers at a layer and in a chain.
use Rattle.std.specs.Prelude.{◌≡◌, ◌≢◌, ℕ, List, Option, None, Some, IfSome}
use Rattle.ts_model.specs.declared.pattern.Pattern.{Pattern}
use Rattle.ts_model.specs.declared.term.TermKind.{TermKind}
use Rattle.ts_model.specs.declared.term.TermKind.TheVariants.{Predicate}
use Rattle.ts_model.specs.TextTerm.{TextTerm}
use Rattle.ts_model.specs.History.{History}
use Rattle.ts_plane.specs.declared.pattern.IdPattern.{IdPattern}
use Rattle.ts_part.specs.Facts.{Facts}
use Rattle.ts_part.specs.Numbers.{IsTermAt, number_of}
use Rattle.ts_chain.specs.declared.numbered.Numbered.{Numbered}
use Rattle.ts_chain.specs.declared.numbered.Numbered.TheVariants.{Terms, Predicates}
use Rattle.ts_chain.specs.Ids.{HasId}

-- a term that is given is one of the layer's, and its number is given; where none is given, none is
abbrev pub IsNumbered : History → ℕ → Option TextTerm → Option ℕ → Type 0
IsNumbered history k None None = Unit {0}
IsNumbered history k None (Some id) = ⊥
IsNumbered history k (Some term) None = ⊥
IsNumbered history k (Some term) (Some id) = IsTermAt history (Some k) term × (id ≡ number_of history k term)

-- the pattern asks for terms of the kinds that it can find
pub record AsksByKind (pattern : Pattern) : Type 0 where
  pub subject : IfSome pattern.subject (λ term. term.kind ≢ Predicate)
  pub predicate : IfSome pattern.predicate (λ term. term.kind ≡ Predicate)
  pub object : IfSome pattern.object (λ term. term.kind ≢ Predicate)

pub record IsPatternBy (history : History) (k : ℕ) (pattern : Pattern) (ids : IdPattern) : Type 0 where
  pub kinds : AsksByKind pattern
  pub subject : IsNumbered history k pattern.subject ids.s
  pub predicate : IsNumbered history k pattern.predicate ids.p
  pub object : IsNumbered history k pattern.object ids.o

-- terms of the kind have such numbers
abbrev pub IsNumberedBy : Numbered → TermKind → Type 0
IsNumberedBy Terms kind = kind ≢ Predicate
IsNumberedBy Predicates kind = kind ≡ Predicate

-- a term that is given is of a kind of its place and has a number in the chain, which is given; where none is given, none is
abbrev pub IsAskedIn : Numbered → List Facts → Option TextTerm → Option ℕ → Type 0
IsAskedIn numbered parts None None = Unit {0}
IsAskedIn numbered parts None (Some id) = ⊥
IsAskedIn numbered parts (Some term) None = ⊥
IsAskedIn numbered parts (Some term) (Some id) = IsNumberedBy numbered term.kind × HasId parts term id

-- the numbers of the pattern's terms in the chain
pub record IsPatternIn (parts : List Facts) (pattern : Pattern) (ids : IdPattern) : Type 0 where
  pub subject : IsAskedIn Terms parts pattern.subject ids.s
  pub predicate : IsAskedIn Predicates parts pattern.predicate ids.p
  pub object : IsAskedIn Terms parts pattern.object ids.o
