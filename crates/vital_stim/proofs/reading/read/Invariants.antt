use Rattle.std.proofs.Common.{length}
use Rattle.vital_stim.specs.Stimuli.{lent}
use Rattle.vital_stim.proofs.Progress.{Progress}
use Rattle.vital_stim.proofs.reading.read.Given as goal

abbrev pub invariant-loop-line : goal.invariant-loop-line
invariant-loop-line l = Progress (lent l.ports) l.text l.builder l.number l.latest (length l.yielded)
