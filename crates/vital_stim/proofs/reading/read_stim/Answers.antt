use Rattle.vital_stim.specs.Stimuli.{lent}
use Rattle.vital_stim.proofs.Sound.{answers-if, all-few, all-fit, all-given, all-in_order, all-named}
use Rattle.vital_stim.proofs.reading.read_stim.Goals as goal

pub returns-clause-given : goal.returns-clause-given
returns-clause-given c = answers-if _ c.read.result _ c.read.ensures (all-given c.args.text.now c.args.ports)

pub returns-clause-fit : goal.returns-clause-fit
returns-clause-fit c = answers-if _ c.read.result _ c.read.ensures (all-fit c.args.text.now (lent c.args.ports))

pub returns-clause-in_order : goal.returns-clause-in_order
returns-clause-in_order c = answers-if _ c.read.result _ c.read.ensures (all-in_order c.args.text.now (lent c.args.ports))

pub returns-clause-few : goal.returns-clause-few
returns-clause-few c = answers-if _ c.read.result _ c.read.ensures (all-few c.args.text.now c.args.ports c.requires.short c.requires.few)

pub returns-clause-inputs : goal.returns-clause-inputs
returns-clause-inputs c = answers-if _ c.read.result _ c.read.ensures (all-named c.args.text.now c.args.ports)
