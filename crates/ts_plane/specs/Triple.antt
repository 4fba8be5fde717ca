-- Number triples, their order, and rising lists of them.
use Rattle.std.specs.Prelude.{ℕ, ◌≤◌, List, All}
use Rattle.std.specs.List.Sorted.{IsStrictlySortedBy}
use Rattle.std.specs.Ordering.{nat_cmp, ordering_then}
use Rattle.std.specs.declared.cmp.Ordering.{Ordering}
use Rattle.ts_plane.specs.declared.triple.IdTriple.{IdTriple}

-- by subject, then predicate, then object
abbrev pub triple_cmp : IdTriple → IdTriple → Ordering
triple_cmp a b = ordering_then (nat_cmp a.s b.s) (ordering_then (nat_cmp a.p b.p) (nat_cmp a.o b.o))

-- each triple is below those after it
abbrev pub IsRising : List IdTriple → Type 0
IsRising triples = IsStrictlySortedBy triple_cmp triples

-- its numbers are at least 1
pub record IsPositive (t : IdTriple) : Type 0 where
  pub subject : 1 ≤ t.s
  pub predicate : 1 ≤ t.p
  pub object : 1 ≤ t.o

-- its subject and object are among so many terms, and its predicate among so many predicates
pub record IsWithin (terms predicates : ℕ) (t : IdTriple) : Type 0 where
  pub subject : t.s ≤ terms
  pub predicate : t.p ≤ predicates
  pub object : t.o ≤ terms

-- the lists that a plane can say: rising, each number at least 1
pub record IsPlaneList (triples : List IdTriple) : Type 0 where
  pub rising : IsRising triples
  pub positive : All IsPositive triples
