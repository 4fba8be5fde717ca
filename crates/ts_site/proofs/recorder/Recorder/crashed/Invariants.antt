use Rattle.std.proofs.Common.{◌≡◌, [], take}
use Rattle.ts_site.specs.Recorder.{memory_state, memory_calls, fresh}
use Rattle.ts_site.specs.Unsettled.{AreUnsettled}
use Rattle.ts_site.proofs.LeftLemmas.{AreLeftOf, is_known}
use Rattle.ts_site.proofs.recorder.Recorder.crashed.Given as goal

-- the settled folder has what a crash leaves under the names so far
abbrev pub invariant-loop-stored : goal.invariant-loop-stored
invariant-loop-stored l = record {
  no_calls : memory_calls l.left ≡ [];
  fresh : memory_state l.left ≡ fresh (memory_state l.left).folder l.self.all_calls l.self.all_bytes;
  unsettled : AreUnsettled (memory_state l.self).crash l.unsettled;
  left : AreLeftOf (is_known (take l.stored-index l.self.settled.items) []) l.choice (memory_state l.self) (memory_state l.left).folder;
}

abbrev pub invariant-loop-call : goal.invariant-loop-call
invariant-loop-call l = record {
  no_calls : memory_calls l.left ≡ [];
  fresh : memory_state l.left ≡ fresh (memory_state l.left).folder l.self.all_calls l.self.all_bytes;
  unsettled : AreUnsettled (memory_state l.self).crash l.unsettled;
  left : AreLeftOf (is_known l.self.settled.items (take l.call-index l.self.calls.items)) l.choice (memory_state l.self) (memory_state l.left).folder;
}
