use Rattle.std.proofs.Common.{◌-◌, ◌≤◌, Some}
use Rattle.ts_plane.specs.Read.{parts_in}
use Rattle.ts_plane.specs.Cursors.{NoneHas}
use Rattle.ts_plane.proofs.sections.Sections.next_of.Given as goal

abbrev pub invariant-loop-next : goal.invariant-loop-next
invariant-loop-next l = record {
  low : l.place ≤ l.next;
  high : l.next ≤ l.end;
  none : NoneHas (parts_in l.self) (Some l.p) l.place l.next;
}

abbrev pub decreases-loop-next : goal.decreases-loop-next
decreases-loop-next l = l.end - l.next
