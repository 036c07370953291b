use Rattle.std.proofs.Common.{◌≡◌, ◌+◌, ◌≤◌, length}
use Rattle.vital_instances.specs.Frames.{resumed_all, work}
use Rattle.vital_instances.specs.Instances.{most_labels}
use Rattle.vital_instances.specs.Judges.{IsJudge, Judge}
use Rattle.vital_instances.proofs.entering.Entering.finish.Given as goal

abbrev pub invariant-loop-frame : goal.invariant-loop-frame
invariant-loop-frame l = record {
  few : length l.self.frames.items ≤ most_labels + 1;
  same : l.units ≡ l.initial.units;
  left : (judge : Judge) → IsJudge judge → resumed_all judge l.initial.units l.initial.self.frames.items l.initial.self.found.items ≡ resumed_all judge l.initial.units l.self.frames.items l.self.found.items;
}

abbrev pub decreases-loop-frame : goal.decreases-loop-frame
decreases-loop-frame l = work l.self.frames.items l.self.found.items
