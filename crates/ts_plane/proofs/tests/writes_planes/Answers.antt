use Rattle.std.proofs.Common.{◌≡◌, ℕ, zero, suc, ◌≤◌, List, [], ◌∷◌, refl, arith, All}
use Rattle.std.specs.List.{AllByRecursion}
use Rattle.std.specs.List.Sorted.{IsStrictlySortedBy}
use Rattle.ts_plane.specs.declared.triple.IdTriple.{IdTriple}
use Rattle.ts_plane.specs.Triple.{IsPositive, IsRising, IsPlaneList}
use Rattle.ts_plane.proofs.tests.writes_planes.Goals as goal

each : {X : Type 0} (P : X → Type 0) (xs : List X) → AllByRecursion P xs → All P xs
each P [] h k d lt = absurd (omega arith)
each P (x ∷ xs) h zero d lt = h.0
each P (x ∷ xs) h (suc k) d lt = each P xs h.1 k d (omega arith)

positive : (s p o : ℕ) → 1 ≤ s → 1 ≤ p → 1 ≤ o → IsPositive (record { s = s; p = p; o = o })
positive s p o subject predicate object = record { subject = subject; predicate = predicate; object = object }

list : (triples : List IdTriple) → IsRising triples → AllByRecursion IsPositive triples → IsPlaneList triples
list triples rising positive = record { rising = rising; positive = each IsPositive triples positive }

pub written-requires : goal.written-requires
unfolding IsStrictlySortedBy
written-requires g c = list [] tt tt

pub written-requires-2 : goal.written-requires-2
unfolding IsStrictlySortedBy
written-requires-2 g c = list (record { s = 1; p = 1; o = 2 } ∷ []) (tt, tt) (positive 1 1 2 (omega arith) (omega arith) (omega arith), tt)

pub written-requires-3 : goal.written-requires-3
unfolding IsStrictlySortedBy
written-requires-3 g c =
    list (record { s = 4; p = 1; o = 2 } ∷ record { s = 5; p = 1; o = 2 } ∷ []) ((refl, tt), (tt, tt))
    (positive 4 1 2 (omega arith) (omega arith) (omega arith), (positive 5 1 2 (omega arith) (omega arith) (omega arith), tt))

pub written-requires-4 : goal.written-requires-4
unfolding IsStrictlySortedBy
written-requires-4 g c =
    list (record { s = 1; p = 1; o = 2 } ∷ record { s = 1; p = 1; o = 5 } ∷ record { s = 1; p = 2; o = 2 } ∷ record { s = 2; p = 1; o = 5 } ∷ record { s = 4; p = 2; o = 2 } ∷ record { s = 4; p = 2; o = 5 } ∷ record { s = 4; p = 3; o = 1 } ∷ [])
    ((refl, (refl, (refl, (refl, (refl, (refl, tt)))))), ((refl, (refl, (refl, (refl, (refl, tt))))), ((refl, (refl, (refl, (refl, tt)))), ((refl, (refl, (refl, tt))), ((refl, (refl, tt)), ((refl, tt), (tt, tt)))))))
    (positive 1 1 2 (omega arith) (omega arith) (omega arith), (positive 1 1 5 (omega arith) (omega arith) (omega arith), (positive 1 2 2 (omega arith) (omega arith) (omega arith), (positive 2 1 5 (omega arith) (omega arith) (omega arith), (positive 4 2 2 (omega arith) (omega arith) (omega arith), (positive 4 2 5 (omega arith) (omega arith) (omega arith), (positive 4 3 1 (omega arith) (omega arith) (omega arith), tt)))))))
