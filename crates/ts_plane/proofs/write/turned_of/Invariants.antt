use Rattle.std.proofs.Common.{◌≡◌, map, take}
use Rattle.ts_plane.proofs.write.turned_of.Given as goal

abbrev pub invariant-loop-edge : goal.invariant-loop-edge
invariant-loop-edge l = l.rows.items ≡ map (λ edge. (edge.1, edge.0)) (take l.edge-index l.edges)
