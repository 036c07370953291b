use Rattle.vital_instances.proofs.ContentLemmas.{IsKept}
use Rattle.vital_instances.proofs.net_units.NetUnits.new.Given as goal

abbrev pub invariant-loop-number : goal.invariant-loop-number
invariant-loop-number l = IsKept l.library l.number l.contents.items
