use Rattle.std.proofs.Common.{◌+◌, ◌≤◌, length, All}
use Rattle.ts_plane.proofs.large_tests.joined.Given as goal

abbrev pub invariant-loop-i : goal.invariant-loop-i
invariant-loop-i l = All (λ place. place.0 + place.1 ≤ length l.bytes.items) l.places
