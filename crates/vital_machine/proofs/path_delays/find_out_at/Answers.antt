use Rattle.vital_machine.specs.Machine.{delay_of}
use Rattle.vital_machine.proofs.ChangeLemmas.{given-past}
use Rattle.vital_machine.proofs.TimeLemmas.{times-set}
use Rattle.vital_machine.proofs.path_delays.find_out_at.Goals as goal

pub returns-then-number-slots-clause-times : goal.returns-then-number-slots-clause-times
returns-then-number-slots-clause-times c later le =
    times-set c.args.now later c.args.slots.now c.args.step.now.glitch_data c.find_out.new.slot le c.requires.times (c.find_out.ensures.times later le)

pub returns-else-number-slots-clause-out : goal.returns-else-number-slots-clause-out
returns-else-number-slots-clause-out c =
    given-past c.args.step.now.glitch_data (delay_of c.args.step.now c.args.paths.now c.args.x_on c.args.now c.args.value) c.args.slots.now c.if-number-slots.false
