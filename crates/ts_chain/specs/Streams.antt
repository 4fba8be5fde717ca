-- What streams of triples that parts name have left, and what a merge of them has.
use Rattle.std.specs.Prelude.{Bool, List, [], ◌∷◌, ◌++◌, map, filter, flat_map, Option, None, Some}
use Rattle.std.specs.Option.{option_to_list}
use Rattle.std.specs.FinMap.{entries, from_entries}
use Rattle.std.specs.declared.cmp.Ordering.{Ordering}
use Rattle.std.specs.declared.cmp.Ordering.TheVariants.{Less, Equal, Greater}
use Rattle.ts_plane.specs.declared.triple.IdTriple.{IdTriple}
use Rattle.ts_plane.specs.Triple.{triple_cmp}
use Rattle.ts_chain.specs.declared.stream.Named.{Named}
use Rattle.ts_chain.specs.declared.stream.PlaneStream.{PlaneStream}
use Rattle.ts_chain.specs.declared.stream.Stream.{Stream, Plane, Both'}
use Rattle.ts_chain.specs.declared.stream.Turn.{Turn}
use Rattle.ts_chain.specs.declared.stream.Turn.TheVariants.{Newer, Older, Both}

-- triples of one part, each with whether it comes or goes there
abbrev pub all_named : Bool → List IdTriple → List (IdTriple × Bool)
all_named comes triples = map (λ t. (t, comes)) triples

-- each triple that a list names, rising, with what the first entry of it says
unfoldable pub decided : List (IdTriple × Bool) → List (IdTriple × Bool)
decided named = entries (from_entries {R = triple_cmp} named)

-- of two lists: the newer one decides
abbrev pub merged : List (IdTriple × Bool) → List (IdTriple × Bool) → List (IdTriple × Bool)
merged newer older = decided (newer ++ older)

abbrev pub as_pair : Named → IdTriple × Bool
as_pair named = (named.triple, named.comes)

-- what waits at a head
abbrev pub listed : Option Named → List (IdTriple × Bool)
listed named = map as_pair (option_to_list named)

abbrev pub head_of : List (IdTriple × Bool) → Option (IdTriple × Bool)
head_of [] = None
head_of (entry ∷ named) = Some entry

-- what a stream has left: what waits at its head, and what comes behind it
abbrev pub left_in_plane : PlaneStream → List (IdTriple × Bool)
left_in_plane plane = listed plane.head ++ all_named plane.comes plane.walk

abbrev pub left_in : Stream → List (IdTriple × Bool)
left_in (Plane plane) = left_in_plane plane
left_in (Both' p head newer older) = listed head ++ merged (left_in newer) (left_in older)

-- what many streams, newest first, have left together
abbrev pub left_in_all : List Stream → List (IdTriple × Bool)
left_in_all streams = decided (flat_map left_in streams)

-- the triples that come
abbrev pub coming : List (IdTriple × Bool) → List IdTriple
coming named = map (λ entry. entry.0) (filter (λ entry. entry.1) named)

-- the lesser of two triples is next, and both where they are one
abbrev pub turn_by : Ordering → Turn
turn_by Less = Newer
turn_by Equal = Both
turn_by Greater = Older

abbrev pub turn_of : Option Named → Option Named → Turn
turn_of None older = Older
turn_of (Some newer) None = Newer
turn_of (Some newer) (Some older) = turn_by (triple_cmp newer.triple older.triple)
