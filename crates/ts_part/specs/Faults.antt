-- The faults of the sections that are checked together: a dictionary's two, a plane's eight, a map.
use Rattle.std.specs.Prelude.{◌≡◌, ℕ, ◌+◌, ◌-◌, ◌<◌, ◌⊎◌, List, length}
use Rattle.ts_front.specs.Dictionary.{DictionarySays}
use Rattle.ts_model.specs.declared.term.TermKind.{TermKind}
use Rattle.ts_plane.specs.declared.error.OpenError.{OpenError}
use Rattle.ts_plane.specs.declared.error.OpenError.TheVariants as planes
use Rattle.ts_plane.specs.Parts.{PlaneParts}
use Rattle.ts_plane.specs.Unmarked.{IsUnmarked}
use Rattle.ts_part.specs.declared.damage.Damage.TheVariants as faults
use Rattle.ts_part.specs.declared.damage.LoadError.{LoadError}
use Rattle.ts_part.specs.declared.damage.LoadError.TheVariants as errors
use Rattle.ts_part.specs.declared.header.Header.{Header}
use Rattle.ts_part.specs.Damage.{IsDamagedBy}
use Rattle.ts_part.specs.Header.{HasHeader, section_count}
use Rattle.ts_part.specs.Layout.{AreSections, of_kind, plane_from}
use Rattle.ts_part.specs.Sections.{StartsRule, BytesRule, PlaneRule, IsFirstFault, KeepUpTo, Reading}

-- fault 0: the starts are none. Fault 1: with them there is no dictionary of so many terms of the kind
pub record IsTermsFault (kind : TermKind) (count : ℕ) (starts bytes : List ℕ) (fault : ℕ) : Type 0 where
  pub one_of_two : fault < 2
  pub first : fault ≡ 0 → ¬ StartsRule starts
  pub second : fault ≡ 1 → StartsRule starts × ((texts : List (List ℕ)) → ¬ BytesRule kind count starts bytes texts)

-- the first of the eight that doesn't keep its rule
pub record IsPlaneFault (terms predicates count : ℕ) (sections : List (List ℕ)) (fault : ℕ) : Type 0 where
  pub one_of_eight : fault < 8
  pub parts : PlaneParts
  pub before : PlaneRule terms predicates count sections parts fault
  pub none : (others : PlaneParts) → ¬ PlaneRule terms predicates count sections others (fault + 1)

-- it is a dictionary of so many entries, and has one: its longest is to be held whole
pub record HasEntries (count : ℕ) (starts bytes : List ℕ) : Type 0 where
  pub texts : List (List ℕ)
  pub says : DictionarySays starts bytes texts
  pub counted : length texts ≡ count
  pub some : 0 < count

-- only a mark for each object tells which of two sections of a plane of so many triples is at fault
pub record NeedsMarks (terms predicates count : ℕ) (sections : List (List ℕ)) (later : ℕ) : Type 0 where
  pub unmarked : IsUnmarked sections terms predicates later
  pub counted : length unmarked.parts.object_ends ≡ count

abbrev pub IsPlaneError : ℕ → ℕ → ℕ → List (List ℕ) → OpenError → Type 0
IsPlaneError terms predicates count sections (planes.Fault fault) = IsPlaneFault terms predicates count sections fault
IsPlaneError terms predicates count sections (planes.Unmarked later) = NeedsMarks terms predicates count sections later

-- what is checked from this kind on can't be without memory: a dictionary with entries, or a plane of which marks alone tell the fault
abbrev pub NeedsMemoryAt : Header → List (List ℕ) → ℕ → Type 0
NeedsMemoryAt h sections first =
    ((first ≡ 1) × HasEntries h.nodes (of_kind sections 1) (of_kind sections 2))
    ⊎ ((first ≡ 3) × HasEntries h.predicates (of_kind sections 3) (of_kind sections 4))
    ⊎ ((first ≡ 5) × HasEntries h.values (of_kind sections 5) (of_kind sections 6))
    ⊎ ((first ≡ 7) × (later : ℕ) × NeedsMarks (h.terms_before + h.nodes + h.values) (h.predicates_before + h.predicates) h.additions (plane_from sections 7) later)
    ⊎ ((first ≡ 15) × (later : ℕ) × NeedsMarks h.terms_before h.predicates_before h.removals (plane_from sections 15) later)

-- and what comes before it keeps its rules
pub record NeedsMemory (h : Header) (sections : List (List ℕ)) : Type 0 where
  pub first : ℕ
  pub read : Reading
  pub before : KeepUpTo h sections read (first - 1)
  pub needs : NeedsMemoryAt h sections first

-- a fault of the sections, or want of memory where it is needed
abbrev pub IsSectionsError : Header → List (List ℕ) → LoadError → Type 0
IsSectionsError h sections errors.Memory = NeedsMemory h sections
IsSectionsError h sections (errors.Damage faults.Header) = ⊥
IsSectionsError h sections (errors.Damage faults.Table) = ⊥
IsSectionsError h sections (errors.Damage (faults.Section kind)) = IsFirstFault h sections kind
IsSectionsError h sections (errors.Damage faults.Facts) = ⊥

-- the file has the header, and sections as its table says, of which one can't be checked without memory
pub record WantsMemory (file : List ℕ) (h : Header) : Type 0 where
  pub headed : HasHeader file h
  pub sections : List (List ℕ)
  pub lie : AreSections file (section_count h.kind) sections
  pub needs : NeedsMemory h sections

-- A fault of the file, or want of memory. None is wanted by the numbers of a header alone: first its table is held against the file.
abbrev pub IsLoadError : List ℕ → Header → LoadError → Type 0
IsLoadError file h errors.Memory = WantsMemory file h
IsLoadError file h (errors.Damage damage) = IsDamagedBy file h damage
