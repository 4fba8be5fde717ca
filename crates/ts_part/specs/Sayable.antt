-- Facts that a file can say: each list is of the form that its sections have.
use Rattle.std.specs.Prelude.{◌≡◌, ℕ, List, [], All}
use Rattle.std.specs.Cmp.Lexicographic.{slice_cmp}
use Rattle.std.specs.Ordering.{nat_cmp}
use Rattle.std.specs.declared.cmp.Ordering.TheVariants.{Less}
use Rattle.ts_front.specs.Dictionary.{Rising}
use Rattle.ts_idmap.specs.Permutation.{Permutes}
use Rattle.ts_model.specs.declared.term.TermKind.{TermKind}
use Rattle.ts_model.specs.declared.term.TermKind.TheVariants.{Node, Predicate, Value}
use Rattle.ts_model.specs.TextTerm.{TextTerm}
use Rattle.ts_plane.specs.Triple.{IsPlaneList}
use Rattle.ts_part.specs.declared.header.PartKind.{PartKind}
use Rattle.ts_part.specs.declared.header.PartKind.TheVariants.{Layer, Rollup}
use Rattle.ts_part.specs.Facts.{Facts, spellings}

-- a term's spelling is below another's by its bytes
abbrev pub IsBelow : TextTerm → TextTerm → Type 0
IsBelow a b = slice_cmp nat_cmp a.spelling b.spelling ≡ Less

pub record IsTermList (kind : TermKind) (terms : List TextTerm) : Type 0 where
  pub kinds : All (λ term. term.kind ≡ kind) terms
  pub rising : Rising (spellings terms)

abbrev pub AreMaps : PartKind → List ℕ → List ℕ → Type 0
AreMaps Layer terms predicates = (terms ≡ []) × (predicates ≡ [])
AreMaps Rollup terms predicates = Permutes terms × Permutes predicates

pub record IsSayable (facts : Facts) : Type 0 where
  pub nodes : IsTermList Node facts.nodes
  pub predicates : IsTermList Predicate facts.predicates
  pub values : IsTermList Value facts.values
  pub additions : IsPlaneList facts.additions
  pub removals : IsPlaneList facts.removals
  pub maps : AreMaps facts.kind facts.term_map facts.predicate_map
