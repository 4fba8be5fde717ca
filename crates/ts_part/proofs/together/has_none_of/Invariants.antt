use Rattle.std.proofs.Common.{All, Contains}
use Rattle.ts_part.proofs.together.has_none_of.Given as goal

abbrev pub invariant-loop-triple : goal.invariant-loop-triple
invariant-loop-triple l = All (λ t. Contains l.many t → ⊥) l.yielded
