-- Birth order by a function that gives births.
use Rattle.std.specs.Prelude.{◌≡◌, ℕ}
use Rattle.std.specs.declared.cmp.Ordering.{Ordering}
use Rattle.std.specs.Ordering.{nat_cmp, ordering_then}
use Rattle.std.specs.Cmp.Lexicographic.{slice_cmp}
use Rattle.ts_model.specs.TextTerm.{TextTerm}
use Rattle.ts_model.specs.Order.{kind_place}
use Rattle.ts_plain.specs.declared.listing.Keyed.{Keyed}

-- two terms with their births: by birth, then node before value, then spelling
abbrev pub born_cmp : ℕ → TextTerm → ℕ → TextTerm → Ordering
born_cmp birth term other_birth other =
    ordering_then (nat_cmp birth other_birth) (ordering_then (nat_cmp (kind_place term.kind) (kind_place other.kind)) (slice_cmp nat_cmp term.spelling other.spelling))

-- by the births that stand beside the triples: predicates, then objects
abbrev pub tail_cmp : Keyed → Keyed → Ordering
tail_cmp one other =
    ordering_then (born_cmp one.predicate one.triple.now.predicate other.predicate other.triple.now.predicate)
    (born_cmp one.object one.triple.now.object other.object other.triple.now.object)

-- subjects, then predicates, then objects
abbrev pub keyed_cmp : Keyed → Keyed → Ordering
keyed_cmp one other = ordering_then (born_cmp one.subject one.triple.now.subject other.subject other.triple.now.subject) (tail_cmp one other)

-- the births that stand there are those that the function gives
pub record IsKeyed (birth : TextTerm → ℕ) (keyed : Keyed) : Type 0 where
  pub subject : keyed.subject ≡ birth keyed.triple.now.subject
  pub predicate : keyed.predicate ≡ birth keyed.triple.now.predicate
  pub object : keyed.object ≡ birth keyed.triple.now.object
