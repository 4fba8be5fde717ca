-- Why eight sections are no plane, as far as it is told without memory.
use Rattle.std.specs.Prelude.{◌≡◌, ℕ, List}
use Rattle.std.specs.List.Sorted.{IsStrictlyIncreasing}
use Rattle.ts_log.specs.LogArray.{LogSays}
use Rattle.ts_plane.specs.declared.error.OpenError.{OpenError}
use Rattle.ts_plane.specs.declared.error.OpenError.TheVariants.{Fault, Unmarked}
use Rattle.ts_plane.specs.Objects.{EachStands, ShowEach}
use Rattle.ts_plane.specs.Parts.{PlaneParts}
use Rattle.ts_plane.specs.Rules.{section, IsFirstFault, KeepsBefore}
use Rattle.ts_plane.specs.Turned.{rising_of}

-- Only marks tell whether section 5 or section i is the first at fault: those before keep their rules, the objects rise, and each object of a triple is one of them, but
-- whether each of them is one of a triple isn't shown by the last two sections
pub record IsUnmarked (sections : List (List ℕ)) (terms predicates i : ℕ) : Type 0 where
  pub parts : PlaneParts
  pub before : KeepsBefore sections terms predicates parts 5
  pub objects : List ℕ
  pub say : LogSays (section sections 5) objects
  pub rising : IsStrictlyIncreasing objects
  pub found : EachStands objects parts.pair_objects
  pub hidden : ¬ ShowEach (section sections 6) (section sections 7) objects (record { ends = parts.object_ends; rights = parts.pair_objects })
  pub exact : objects ≡ rising_of parts.pair_objects → IsFirstFault sections terms predicates i
  pub other : ¬ (objects ≡ rising_of parts.pair_objects) → IsFirstFault sections terms predicates 5

abbrev pub IsOpenError : List (List ℕ) → ℕ → ℕ → OpenError → Type 0
IsOpenError sections terms predicates (Fault i) = IsFirstFault sections terms predicates i
IsOpenError sections terms predicates (Unmarked i) = IsUnmarked sections terms predicates i
