use Rattle.std.proofs.Common.{length}
use Rattle.ts_plane.specs.Marks.{HoldsMarks}
use Rattle.ts_plane.proofs.MarkLemmas.{EachSeen, MarkedStand}
use Rattle.ts_plane.proofs.marks.all_marked.Given as goal

abbrev pub invariant-loop-j : goal.invariant-loop-j
invariant-loop-j l = record {
  holds : HoldsMarks l.marks.items (length l.objects);
  stand : MarkedStand l.marks.items l.objects l.rights;
  seen : EachSeen l.marks.items l.objects l.rights l.j;
}
