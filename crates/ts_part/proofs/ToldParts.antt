-- The subjects, predicates and objects of the triples that come, in the sections of a file that is known to tell facts.
use Rattle.std.proofs.Common.{◌≡◌, ℕ, ◌+◌, ◌-◌, ◌<◌, ◌≤◌, List, [], length, get_or, drop, ◌∙◌, ap, subst, arith}
use Rattle.std.specs.List.Sorted.{IsStrictlyIncreasing}
use Rattle.std.proofs.lemmas.List.{get_or-take, get_or-drop}
use Rattle.ts_bits.specs.BitArray.{BitsSay}
use Rattle.ts_log.specs.LogArray.{LogSays}
use Rattle.ts_plane.specs.Parts.{parts_of}
use Rattle.ts_plane.specs.Rules.{section}
use Rattle.ts_plane.proofs.ObjectSets.{exact_rising}
use Rattle.ts_plane.proofs.RulesOf.{rules_of}
use Rattle.ts_wavelet.specs.WaveletTree.{WaveletSays}
use Rattle.ts_part.specs.declared.sections.Sections.{Sections}
use Rattle.ts_part.specs.Facts.{Facts}
use Rattle.ts_part.specs.Layout.{of_kind, plane_from}
use Rattle.ts_part.specs.Sectioned.{sections_at}
use Rattle.ts_part.specs.Tells.{Tells}
use Rattle.ts_part.proofs.Told.{told_sections}

-- section i of a plane
plane_section : (sections : List (List ℕ)) (from i : ℕ) → 1 ≤ from → i < 8 → section (plane_from sections from) i ≡ of_kind sections (from + i)
plane_section sections from i some few =
    let place : from - 1 + i ≡ from + i - 1 = omega arith in
    get_or-take 8 (drop (from - 1) sections) i [] few ∙ get_or-drop (from - 1) sections i [] ∙ ap (λ n. get_or sections n []) place

pub told_subjects : (s : Sections) (facts : Facts) → Tells s facts → LogSays (of_kind (sections_at s) 7) (parts_of facts.additions).subjects
told_subjects s facts tells =
    subst (λ (bytes : List ℕ). LogSays bytes (parts_of facts.additions).subjects) (plane_section (sections_at s) 7 0 (omega arith) (omega arith))
    (told_sections s facts tells).additions.say.subjects

pub told_pair_ends : (s : Sections) (facts : Facts) → Tells s facts → BitsSay (of_kind (sections_at s) 8) (parts_of facts.additions).pair_ends
told_pair_ends s facts tells =
    subst (λ (bytes : List ℕ). BitsSay bytes (parts_of facts.additions).pair_ends) (plane_section (sections_at s) 7 1 (omega arith) (omega arith))
    (told_sections s facts tells).additions.say.pair_ends

pub told_pair_predicates : (s : Sections) (facts : Facts) → Tells s facts → WaveletSays (of_kind (sections_at s) 9) (parts_of facts.additions).pair_predicates
told_pair_predicates s facts tells =
    subst (λ (bytes : List ℕ). WaveletSays bytes (parts_of facts.additions).pair_predicates) (plane_section (sections_at s) 7 2 (omega arith) (omega arith))
    (told_sections s facts tells).additions.say.pair_predicates

pub told_objects : (s : Sections) (facts : Facts) → Tells s facts → LogSays (of_kind (sections_at s) 12) (parts_of facts.additions).objects
told_objects s facts tells =
    subst (λ (bytes : List ℕ). LogSays bytes (parts_of facts.additions).objects) (plane_section (sections_at s) 7 5 (omega arith) (omega arith))
    (told_sections s facts tells).additions.say.objects

-- as many predicates as pairs
pub predicates_counted : (facts : Facts) (s : Sections) → Tells s facts → length (parts_of facts.additions).pair_predicates ≡ length (parts_of facts.additions).pair_ends
predicates_counted facts s tells = (rules_of facts.additions (told_sections s facts tells).additions.list).predicates_counted

pub subjects_rise : (facts : Facts) (s : Sections) → Tells s facts → IsStrictlyIncreasing (parts_of facts.additions).subjects
subjects_rise facts s tells = (rules_of facts.additions (told_sections s facts tells).additions.list).subjects_rise

pub objects_rise : (facts : Facts) (s : Sections) → Tells s facts → IsStrictlyIncreasing (parts_of facts.additions).objects
objects_rise facts s tells =
    exact_rising (parts_of facts.additions).objects (parts_of facts.additions).pair_objects
    (rules_of facts.additions (told_sections s facts tells).additions.list).objects
