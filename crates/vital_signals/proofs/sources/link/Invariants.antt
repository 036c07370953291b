use Rattle.vital_signals.specs.Sources.{AreLinkedFrom}
use Rattle.vital_signals.proofs.sources.link.Given as goal

abbrev pub invariant-loop-driver : goal.invariant-loop-driver
invariant-loop-driver l = AreLinkedFrom l.driver l.signals_of l.first l.next
