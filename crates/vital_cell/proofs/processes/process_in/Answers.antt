use Rattle.std.proofs.Common.{refl}
use Rattle.vital_cell.proofs.StepLemmas.{process-is}
use Rattle.vital_cell.specs.Scopes.{lent}
use Rattle.vital_cell.proofs.processes.process_in.Goals as goal

pub returns-clause-is : goal.returns-clause-is
returns-clause-is c =
    process-is c.slots_begin.ensures (lent c.args.values.now) c.args.driver c.args.process.now c.in_ok-made.made c.requires.sound
    (c.if-not-has_few_effects.ensures.0 refl) c.in_ok-made.ensures
