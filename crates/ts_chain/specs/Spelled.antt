-- The terms of some numbers of a chain, in the order of their spellings.
use Rattle.std.specs.Prelude.{◌≡◌, ℕ, List, slice_get, All, Some}
use Rattle.std.specs.List.Sorted.{IsSorted}
use Rattle.ts_model.specs.declared.term.TermKind.{TermKind}
use Rattle.ts_model.specs.Order.{term_cmp}
use Rattle.ts_model.specs.TextTerm.{TextTerm, IsTerm}
use Rattle.ts_model.specs.TextTriple.{TextTriple}
use Rattle.ts_plane.specs.declared.triple.IdTriple.{IdTriple}
use Rattle.ts_part.specs.Facts.{Facts}
use Rattle.ts_chain.specs.Views.{NamesPredicate, NamesTerm}

-- entry by entry, the chain has the term under the number
abbrev pub AreNamed : (ℕ → TextTerm → Type 0) → List ℕ → List TextTerm → Type 0
AreNamed Names ids terms = (entry id : ℕ) (term : TextTerm) → slice_get ids entry ≡ Some id → slice_get terms entry ≡ Some term → Names id term

-- Terms of one kind, each canonical and within the limit, in the order of their spellings. Parts that stand for no layer may
-- have a term under several numbers: then it stands here as often.
pub record AreTerms (kind : TermKind) (terms : List TextTerm) : Type 0 where
  pub kinds : All (λ term. term.kind ≡ kind) terms
  pub canonical : All IsTerm terms
  pub sorted : IsSorted term_cmp terms

-- the chain has the triple's terms under these numbers
pub record IsSpelledBy (parts : List Facts) (t : IdTriple) (triple : TextTriple) : Type 0 where
  pub subject : NamesTerm parts t.s triple.subject
  pub predicate : NamesPredicate parts t.p triple.predicate
  pub object : NamesTerm parts t.o triple.object
