use Rattle.std.proofs.Common.{◌≡◌, false}
use Rattle.vital_kernel.specs.Runs.{IsRunFrom, Run}
use Rattle.vital_kernel.proofs.RunLemmas.{RunLeft, steps_left}
use Rattle.vital_kernel.proofs.kernel.Kernel.run_cycles.Given as goal

abbrev pub invariant-loop-time : goal.invariant-loop-time
invariant-loop-time g l =
    record {
      same : l.self ≡ record l.fn.self { state = l.self.state };
      goes_on : l.printer.stopped ≡ false;
      left : (r : Run) → IsRunFrom l.fn.self.network l.until l.limit l.fn.self.state r → RunLeft l.fn.self.network l.until l.limit r l.fn.printer l.self.state l.printer;
    }

abbrev pub decreases-loop-time : goal.decreases-loop-time
decreases-loop-time g l = steps_left l.until l.limit l.self.state.now l.self.state.delta
