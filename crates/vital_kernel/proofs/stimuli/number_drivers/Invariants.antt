use Rattle.std.proofs.Common.{drop}
use Rattle.vital_kernel.proofs.StimulusLemmas.{AreNumbered}
use Rattle.vital_kernel.proofs.stimuli.number_drivers.Given as goal

abbrev pub invariant-loop-number : goal.invariant-loop-number
invariant-loop-number l = AreNumbered l.number l.numbers (drop l.number l.drivers)
