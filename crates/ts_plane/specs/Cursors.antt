-- Where the cursors of a walk stand.
use Rattle.std.specs.Prelude.{◌≡◌, ◌≢◌, ℕ, ◌-◌, ◌<◌, ◌≤◌, true, false, nat_eq, Option, List, length, map, slice_index}
use Rattle.std.specs.List.{filter, range_with_len}
use Rattle.ts_log.specs.Rising.{RisesBetween}
use Rattle.ts_adjacency.specs.Rows.{BeginsAt}
use Rattle.ts_wavelet.specs.Sequence.{places_from}
use Rattle.ts_plane.specs.declared.triple.IdTriple.{IdTriple}
use Rattle.ts_plane.specs.Parts.{PlaneParts}
use Rattle.ts_plane.specs.Decoded.{triple_at}
use Rattle.ts_plane.specs.Kept.{KeepsRules}
use Rattle.ts_plane.specs.Lookups.{pair_at, triples_between}
use Rattle.ts_plane.specs.Pattern.{part_fits}

-- at a place of a run, with its pair read
pub record StandsInRange (parts : PlaneParts) (place end s p : ℕ) : Type 0 where
  pub kept : KeepsRules parts
  pub ordered : place ≤ end
  pub within : end ≤ length parts.object_ends
  pub subject : place < end → s ≡ (triple_at parts place).s
  pub predicate : place < end → p ≡ (triple_at parts place).p

-- the triples from a place on that have a predicate
unfoldable pub with_predicate : PlaneParts → ℕ → ℕ → List IdTriple
with_predicate parts p place = filter (λ t. nat_eq p t.p) (triples_between parts place (length parts.object_ends))

-- at a place of a pair that has the predicate, or at its end; the later such pairs are at hand
pub record StandsInPair (parts : PlaneParts) (places : List ℕ) (p place end s : ℕ) : Type 0 where
  pub kept : KeepsRules parts
  pub pair : ℕ
  pub pairs : pair ≤ length parts.pair_predicates
  pub later : places ≡ places_from parts.pair_predicates p pair
  pub ordered : place ≤ end
  pub begins : BeginsAt parts.object_ends pair end
  pub subject : (j : ℕ) → place ≤ j → j < end → s ≡ (triple_at parts j).s
  pub predicate : (j : ℕ) → place ≤ j → j < end → p ≡ (triple_at parts j).p

-- the triple of pair k and an object
abbrev pub pair_with : PlaneParts → ℕ → ℕ → IdTriple
pair_with parts o k = record { s = (pair_at parts k).0; p = (pair_at parts k).1; o = o }

-- the triples of an object and the pairs at these places of the list by objects, where their predicates fit
unfoldable pub with_object : PlaneParts → ℕ → Option ℕ → ℕ → ℕ → List IdTriple
with_object parts o p from to =
    filter (λ t. part_fits p t.p) (map (λ q. pair_with parts o (slice_index parts.object_pairs q)) (range_with_len from (to - from)))

-- at a place of the list by objects, where the pairs of one object rise
pub record StandsInObject (parts : PlaneParts) (place end : ℕ) : Type 0 where
  pub kept : KeepsRules parts
  pub ordered : place ≤ end
  pub within : end ≤ length parts.object_pair_ends
  pub rising : RisesBetween parts.object_pairs place end

-- no pair at these places of the list by objects has a predicate that fits
abbrev pub NoneHas : PlaneParts → Option ℕ → ℕ → ℕ → Type 0
NoneHas parts p from to = (q : ℕ) → from ≤ q → q < to → part_fits p (pair_at parts (slice_index parts.object_pairs q)).1 ≡ false

-- the first pair at these places whose predicate fits
pub record IsNextWith (parts : PlaneParts) (p : Option ℕ) (from to place pair : ℕ) : Type 0 where
  pub low : from ≤ place
  pub high : place < to
  pub there : pair ≡ slice_index parts.object_pairs place
  pub fits : part_fits p (pair_at parts pair).1 ≡ true
  pub before : NoneHas parts p from place

-- no pair from `from` on to before `to` has the predicate
abbrev pub NoPairHas : List ℕ → ℕ → ℕ → ℕ → Type 0
NoPairHas predicates p from to = (k : ℕ) → from ≤ k → k < to → slice_index predicates k ≢ p

-- the first pair from `from` on that has the predicate
pub record IsNextPair (predicates : List ℕ) (p from pair : ℕ) : Type 0 where
  pub low : from ≤ pair
  pub within : pair < length predicates
  pub has : slice_index predicates pair ≡ p
  pub before : NoPairHas predicates p from pair
