use Rattle.std.proofs.Common.{refl}
use Rattle.ts_rows.proofs.in_memory.run_in_memory.Goals as goal

pub returns-clause-complete : goal.returns-clause-complete
returns-clause-complete c = λ command short sound disk output input. c.run.ensures.complete command (λ reading. (refl, short reading)) refl sound disk output input
