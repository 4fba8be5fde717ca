-- What the real site and the real source tell: the counts of faults, whether the last call failed, and what was said.
use Rattle.ts_site.specs.Crash.{settled}
use Rattle.ts_site.specs.Folder.{no_files}
use Rattle.std.proofs.lemmas.Bool.{false≢true}
use Rattle.ts_site.specs.Moments.{Moment}
use Rattle.ts_site.specs.Outside.{Outside, IsHonest}
use Rattle.std.specs.Prelude.{ℕ, Bool, false, List, [], ◌∷◌, ◌++◌}
use Rattle.ts_real.specs.declared.site.RealSite.{RealSite}
use Rattle.ts_real.specs.declared.source.RealSource.{RealSource}

abbrev pub real_disk_faults : {R : Type 0} → RealSite R → ℕ
real_disk_faults site = site.disk_faults

abbrev pub real_say_faults : {R : Type 0} → RealSite R → ℕ
real_say_faults site = site.say_faults

-- the bytes of pieces, the latest of which stands first
abbrev pub said_by : List (List ℕ) → List ℕ
said_by [] = []
said_by (piece ∷ earlier) = said_by earlier ++ piece

-- the moments before: one before each piece
abbrev pub moments_by : List (List ℕ) → List Moment
moments_by [] = []
moments_by (piece ∷ earlier) = record { crash = settled no_files; told = said_by earlier } ∷ moments_by earlier

-- it tells what was said, and neither the folder nor what a crash leaves
abbrev pub outside_by : ℕ → ℕ → Bool → List (List ℕ) → Outside
outside_by disk_faults say_faults failed_last pieces = record {
  is_honest = false;
  folder = no_files;
  disk_faults = disk_faults;
  told = said_by pieces;
  say_faults = say_faults;
  failed_last = failed_last;
  crash = settled no_files;
  past = moments_by pieces;
}

abbrev pub real_outside : {R : Type 0} → RealSite R → Outside
real_outside site = outside_by site.disk_faults site.say_faults site.failed_last site.record.pieces

-- so it is no honest site, and owes no image
pub owes_none : {R P : Type 0} (site : RealSite R) → IsHonest (real_outside site) → P
owes_none site honest = absurd (false≢true honest)

abbrev pub real_faults : {R : Type 0} → RealSource R → ℕ
real_faults source = source.faults

abbrev pub real_failed_last : {R : Type 0} → RealSource R → Bool
real_failed_last source = source.failed_last
