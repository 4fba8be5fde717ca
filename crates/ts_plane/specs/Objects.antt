-- The last three sections: the objects, and the places of each object's pairs.
use Rattle.std.specs.Prelude.{◌≡◌, ℕ, ◌+◌, ◌<◌, ◌≤◌, ◌⊎◌, Bool, false, nat_eq, List, [], length, map, slice_index}
use Rattle.std.specs.List.Sorted.{IsStrictlyIncreasing}
use Rattle.ts_bits.specs.BitArray.{BitsSay}
use Rattle.ts_bits.specs.Rank.{ones}
use Rattle.ts_log.specs.LogArray.{LogSays}
use Rattle.ts_adjacency.specs.Rows.{IsClosed, row_of}
use Rattle.ts_adjacency.specs.Adjacency.{Adjacency, edges}
use Rattle.ts_plane.specs.declared.error.OpenError.{OpenError}
use Rattle.ts_plane.specs.declared.error.OpenError.TheVariants.{Fault, Unmarked}
use Rattle.ts_plane.specs.Groups.{last_marks}
use Rattle.ts_plane.specs.Turned.{rising_of, turned}
use Rattle.ts_plane.specs.Parts.{PlaneParts}
use Rattle.ts_plane.specs.Rules.{ObjectsRule, ObjectPairEndsRule, ObjectPairsRule}

-- x is one of the numbers
abbrev pub Stands : List ℕ → ℕ → Type 0
Stands numbers x = (k : ℕ) × (k < length numbers) × (slice_index numbers k ≡ x)

-- each of the numbers is one of the others
abbrev pub EachStands : List ℕ → List ℕ → Type 0
EachStands others numbers = (j : ℕ) → j < length numbers → Stands others (slice_index numbers j)

-- an edge of row q has x on its right
pub record HasEdge (triples : Adjacency) (q x : ℕ) : Type 0 where
  pub place : ℕ
  pub within : place < length triples.ends
  pub row : row_of triples.ends place ≡ q
  pub right : slice_index triples.rights place ≡ x

-- each place's pair has the object of the place's row
abbrev pub EachHasEdge : Adjacency → List ℕ → Adjacency → Type 0
EachHasEdge triples objects by_object =
    (j : ℕ) → j < length by_object.ends → HasEdge triples (slice_index by_object.rights j) (slice_index objects (row_of by_object.ends j))

-- the objects, and the rows of their pairs, are those of the triples
pub record AreTurned (objects : List ℕ) (by triples : Adjacency) : Type 0 where
  pub objects_are : objects ≡ rising_of triples.rights
  pub ends_are : by.ends ≡ last_marks nat_eq (map (λ edge. edge.0) (turned (edges triples)))
  pub rights_are : by.rights ≡ map (λ edge. edge.1) (turned (edges triples))

-- the number at place j is above the one before it, where that stands in its row
abbrev pub RisesThere : Adjacency → ℕ → Type 0
RisesThere rows j =
    (k : ℕ) → k + 1 ≡ j → row_of rows.ends k ≡ row_of rows.ends (k + 1) → slice_index rows.rights k < slice_index rows.rights (k + 1)

-- lists of which the last five are these
abbrev pub with_objects : Adjacency → List ℕ → Adjacency → PlaneParts
with_objects triples objects by_object = record {
  subjects = [];
  pair_ends = [];
  pair_predicates = [];
  object_ends = triples.ends;
  pair_objects = triples.rights;
  objects = objects;
  object_pair_ends = by_object.ends;
  object_pairs = by_object.rights;
}

-- of the last three sections those before section i keep their rules
pub record KeepsObjects (objects ends pairs : List ℕ) (parts : PlaneParts) (i : ℕ) : Type 0 where
  pub objects_keep : 5 < i → ObjectsRule objects parts
  pub ends_keep : 6 < i → ObjectPairEndsRule ends parts
  pub pairs_keep : 7 < i → ObjectPairsRule pairs parts

-- of the last three sections, section i is the first that doesn't keep its rule
pub record IsObjectsFault (objects ends pairs : List ℕ) (triples : Adjacency) (i : ℕ) : Type 0 where
  pub from : 5 ≤ i
  pub to : i < 8
  pub found_objects : List ℕ
  pub found_rows : Adjacency
  pub before : KeepsObjects objects ends pairs (with_objects triples found_objects found_rows) i
  pub fault : (others : PlaneParts) → others.object_ends ≡ triples.ends → others.pair_objects ≡ triples.rights → ¬ KeepsObjects objects ends pairs others (i + 1)

-- row i shows object i: one of its places has a pair with the object
abbrev pub IsShown : List ℕ → Adjacency → Adjacency → ℕ → Type 0
IsShown objects by triples i =
    (j : ℕ) × (j < length by.ends) × (row_of by.ends j ≡ i) × HasEdge triples (slice_index by.rights j) (slice_index objects i)

abbrev pub EachShown : List ℕ → Adjacency → Adjacency → Type 0
EachShown objects by triples = (i : ℕ) → i < length objects → IsShown objects by triples i

-- the last two sections are rows, one for each object, and show each
pub record ShowEach (ends pairs objects : List ℕ) (triples : Adjacency) : Type 0 where
  pub by : Adjacency
  pub ends_say : BitsSay ends by.ends
  pub pairs_say : LogSays pairs by.rights
  pub counted : ones by.ends ≡ length objects
  pub long : length by.ends ≡ length triples.ends
  pub closed : IsClosed by.ends
  pub paired : length by.ends ≡ length by.rights
  pub shown : EachShown objects by triples

-- Only marks tell whether section 5 or section i is at fault: the objects rise, and each object of a triple is one of them, but whether each of
-- them is one of a triple isn't shown by the last two sections
pub record NeedsMarks (objects ends pairs : List ℕ) (triples : Adjacency) (i : ℕ) : Type 0 where
  pub list : List ℕ
  pub says : LogSays objects list
  pub rising : IsStrictlyIncreasing list
  pub found : EachStands list triples.rights
  pub hidden : ¬ ShowEach ends pairs list triples
  pub exact : list ≡ rising_of triples.rights → IsObjectsFault objects ends pairs triples i
  pub other : ¬ (list ≡ rising_of triples.rights) → IsObjectsFault objects ends pairs triples 5

abbrev pub IsObjectsError : List ℕ → List ℕ → List ℕ → Adjacency → OpenError → Type 0
IsObjectsError objects ends pairs triples (Fault i) = IsObjectsFault objects ends pairs triples i
IsObjectsError objects ends pairs triples (Unmarked i) = NeedsMarks objects ends pairs triples i

-- which section is at fault, where it is section 5 exactly if the objects aren't those of the triples, and else section i
abbrev pub IsObjectsOr : List ℕ → List ℕ → Bool → ℕ → OpenError → Type 0
IsObjectsOr objects rights shown i (Fault j) = ((objects ≡ rising_of rights) × (j ≡ i)) ⊎ ((¬ (objects ≡ rising_of rights)) × (j ≡ 5))
IsObjectsOr objects rights shown i (Unmarked j) = (j ≡ i) × EachStands objects rights × (shown ≡ false)
