use Rattle.std.proofs.Common.{subst, sym}
use Rattle.vital_machine.specs.Fits.{HaveTimes}
use Rattle.vital_machine.proofs.TimeLemmas.{level-times}
use Rattle.vital_machine.proofs.checks.check.Goals as goal

pub returns-clause-times : goal.returns-clause-times
returns-clause-times c later le =
    subst (HaveTimes later) (sym c.put_level.ensures)
    (level-times later c.args.step.now.violation c.violation_level.result c.find_violation-found.new.slots (c.find_violation-found.ensures.times later le))
