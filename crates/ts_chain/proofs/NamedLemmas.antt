-- What the streams of some parts have left, part by part, and what a walk over the stream of all has left.
use Rattle.std.proofs.Common.{◌≡◌, ℕ, ◌+◌, ◌<◌, ◌≤◌, List, [], ◌∷◌, ◌++◌, length, get_or, map, flat_map, take, Option, Some, None, IfSome, IfNone, sym, ap, ◌∙◌}
use Rattle.std.proofs.lemmas.Grind.{flat_map-append}
use Rattle.std.proofs.lemmas.List.{append-nil, take_all, take_more}
use Rattle.std.proofs.lemmas.List.Folds.{flat_map-map}
use Rattle.ts_plane.specs.declared.pattern.IdPattern.{IdPattern}
use Rattle.ts_plane.specs.declared.triple.IdTriple.{IdTriple}
use Rattle.ts_part.specs.Facts.{Facts}
use Rattle.ts_chain.specs.declared.stream.Stream.{Stream}
use Rattle.ts_chain.specs.Streams.{coming, decided, left_in, left_in_all}
use Rattle.ts_chain.specs.Walks.{all_walked, part_walked, walk_left}
use Rattle.ts_chain.proofs.Decided.{decided-rising}

module _ {X : Type 0} (xs : List X) (facts_of : X → Facts) (pattern : IdPattern) (after : Option IdTriple) where
  -- one part more
  pub named-more : (i : ℕ) (d : X) → i < length xs
      → flat_map (λ x. part_walked pattern after (facts_of x)) (take (i + 1) xs)
      ≡ flat_map (λ x. part_walked pattern after (facts_of x)) (take i xs) ++ part_walked pattern after (facts_of (get_or xs i d))
  named-more i d below =
      ap (flat_map (λ x. part_walked pattern after (facts_of x))) (take_more xs i d below)
      ∙ flat_map-append (λ x. part_walked pattern after (facts_of x)) (take i xs) (get_or xs i d ∷ [])
      ∙ ap (λ l. flat_map (λ x. part_walked pattern after (facts_of x)) (take i xs) ++ l) (append-nil (part_walked pattern after (facts_of (get_or xs i d))))

  -- all parts
  pub named-all : (i : ℕ) → length xs ≤ i → decided (flat_map (λ x. part_walked pattern after (facts_of x)) (take i xs)) ≡ all_walked (map facts_of xs) pattern after
  named-all i over = ap decided (ap (flat_map (λ x. part_walked pattern after (facts_of x))) (take_all i xs over) ∙ sym (flat_map-map (part_walked pattern after) facts_of xs))

pub walk-left : (stream : Option Stream) (streams : List Stream) → IfSome stream (λ one. left_in one ≡ left_in_all streams) → IfNone stream (streams ≡ []) → walk_left stream ≡ coming (left_in_all streams)
walk-left None streams some none = sym (ap (λ l. coming (left_in_all l)) none ∙ ap coming (decided-rising [] tt))
walk-left (Some stream) streams some none = ap coming some
