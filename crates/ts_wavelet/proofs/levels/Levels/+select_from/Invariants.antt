use Rattle.std.proofs.Common.{◌-◌}
use Rattle.ts_wavelet.proofs.levels.Levels.+select_from.Given as goal

abbrev pub decreases-select_from : goal.decreases-select_from
decreases-select_from l = l.self.now.width - l.l
