-- The outside before and after a run, or a part of it.
use Rattle.std.specs.Prelude.{◌≡◌}
use Rattle.ts_site.specs.Outside.{AddsNoImage, Outside}

pub record Change : Type 0 where
  pub before : Outside
  pub after : Outside

abbrev pub change_of : Outside → Outside → Change
change_of before after = record { before = before; after = after }

-- Nothing was changed, nothing was said, and a crash leaves only what one before might have left. This stands where the outside is honest
-- still.
pub record LeavesAll (s : Change) : Type 0 where
  pub folder : s.after.folder ≡ s.before.folder
  pub told : s.after.told ≡ s.before.told
  pub images : AddsNoImage s.before s.after
