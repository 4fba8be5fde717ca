-- Streams that rise.
use Rattle.std.proofs.Common.{◌≡◌, Bool, T, List, [], ◌∷◌, ◌++◌, Option, Some, None, option_map, IfNone, sym, ◌∙◌, subst}
use Rattle.std.specs.declared.cmp.Ordering.TheVariants.{Less}
use Rattle.std.specs.List.{AllByRecursion}
use Rattle.std.specs.List.Sorted.{IsStrictlySortedBy}
use Rattle.std.specs.Iterator.{YieldsFirst}
use Rattle.std.specs.FinMap.{is_sorted}
use Rattle.std.specs.FinMap.Entries.{below_all}
use Rattle.ts_plane.specs.declared.triple.IdTriple.{IdTriple}
use Rattle.ts_plane.specs.Triple.{IsRising, triple_cmp}
use Rattle.ts_chain.specs.declared.stream.Merge.{Merge}
use Rattle.ts_chain.specs.declared.stream.Named.{Named}
use Rattle.ts_chain.specs.declared.stream.Stream.{Stream, Plane, Both'}
use Rattle.ts_chain.specs.Streams.{all_named, as_pair, decided, left_in, listed, merged}
use Rattle.ts_chain.specs.Rising.{AreRising, IsRisingStream}
use Rattle.ts_chain.proofs.Decided.{Said, both, decided-rises, is_less, passed, passes, second}

pub rises : (stream : Stream) → IsRisingStream stream → AreRising (left_in stream)
rises (Plane plane) h = h.0
rises (Both' p head newer older) h = h.0

pub rising-decided : (named : List Said) → AreRising (decided named)
unfolding AreRising
rising-decided named = passed _ (decided-rises named)

rising-tail : (x : Said) (xs : List Said) → AreRising (x ∷ xs) → AreRising xs
unfolding AreRising
rising-tail x xs h = passed _ (second (below_all triple_cmp x.0 xs) _ (passes _ h))

above-named : (comes : Bool) (t : IdTriple) (others : List IdTriple) → AllByRecursion (λ other. triple_cmp t other ≡ Less) others → T (below_all triple_cmp t (all_named comes others))
above-named comes t [] h = tt
above-named comes t (other ∷ others) h = both _ _ (is_less _ h.0) (above-named comes t others h.1)

sorted-named : (comes : Bool) (triples : List IdTriple) → IsRising triples → T (is_sorted triple_cmp (all_named comes triples))
unfolding IsStrictlySortedBy
sorted-named comes [] h = tt
sorted-named comes (t ∷ others) h = both _ _ (above-named comes t others h.0) (sorted-named comes others h.1)

-- the triples of a part that rise, with what the part says of them
pub rising-named : (comes : Bool) (triples : List IdTriple) → IsRising triples → AreRising (all_named comes triples)
unfolding AreRising
rising-named comes triples h = passed _ (sorted-named comes triples h)

behind-head : (head : Option Named) (named : List Said) → AreRising (listed head ++ named) → AreRising named
behind-head None named h = h
behind-head (Some a) named h = rising-tail (as_pair a) named h

-- a plane's stream after a step of its walk
pub moved-plane : (head given : Option Named) (comes : Bool) (walk after : List IdTriple) (next : Option IdTriple) → AreRising (listed head ++ all_named comes walk)
    → option_map as_pair given ≡ option_map (λ t. (t, comes)) next → YieldsFirst (λ (items : List IdTriple). items) walk next after
    → AreRising (listed given ++ all_named comes after) × IfNone given (after ≡ [])
moved-plane head None comes walk after None rise is step = (subst (λ l. AreRising (all_named comes l)) (step.0 ∙ sym step.1) (behind-head head _ rise), step.1)
moved-plane head None comes walk after (Some t) rise is step = let no : ⊥ = cc in absurd no
moved-plane head (Some a) comes walk after None rise is step = let no : ⊥ = cc in absurd no
moved-plane head (Some a) comes walk after (Some t) rise is step =
    let same : as_pair a ≡ (t, comes) = cc in
    (subst (λ (p : Said). AreRising (p ∷ all_named comes after)) (sym same) (subst (λ l. AreRising (all_named comes l)) step (behind-head head _ rise)), tt)

-- the same of a merge
abbrev pub IsRisingMerge : Merge → Type 0
IsRisingMerge merge =
    AreRising (listed merge.head ++ merged (left_in merge.newer) (left_in merge.older)) × IfNone merge.head (merged (left_in merge.newer) (left_in merge.older) ≡ [])
    × IsRisingStream merge.newer × IsRisingStream merge.older

-- a merge after a step
pub moved-merge : (newer older : Stream) (after : Merge) → merged (left_in newer) (left_in older) ≡ listed after.head ++ merged (left_in after.newer) (left_in after.older)
    → IfNone after.head (merged (left_in newer) (left_in older) ≡ []) → IsRisingStream after.newer → IsRisingStream after.older → IsRisingMerge after
moved-merge newer older after left none rise_newer rise_older =
    let moved = by-head after.head (merged (left_in newer) (left_in older)) (merged (left_in after.newer) (left_in after.older)) (rising-decided (left_in newer ++ left_in older))
    (rising-decided (left_in after.newer ++ left_in after.older)) left none in
    (moved.0, moved.1, rise_newer, rise_older)
  where
    by-head : (head : Option Named) (before after : List Said) → AreRising before → AreRising after → before ≡ listed head ++ after → IfNone head (before ≡ [])
        → AreRising (listed head ++ after) × IfNone head (after ≡ [])
    by-head None before after rise also left none = (also, sym left ∙ none)
    by-head (Some a) before after rise also left none = (subst AreRising left rise, tt)
