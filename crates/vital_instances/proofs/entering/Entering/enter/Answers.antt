use Rattle.std.proofs.Common.{sym, ap, ◌∙◌}
use Rattle.vital_instances.specs.Instances.{lent}
use Rattle.vital_instances.specs.Units.{unit_at}
use Rattle.vital_instances.proofs.EnterLemmas.{misplaced-is, placed, unknown-is}
use Rattle.vital_instances.proofs.entering.Entering.enter.Goals as goal

pub returns-in-Some-clause-fault : goal.returns-in-Some-clause-fault
returns-in-Some-clause-fault c = λ judge judges.
    let fs = c.args.self.now.frames.items in
    let found = c.args.self.now.found.items in
    misplaced-is judge c.args.units.now fs (lent c.args.entry) found _ c.requires (sym c.in-Some.ensures)

pub enter_unit-requires-clause-placed : goal.enter_unit-requires-clause-placed
enter_unit-requires-clause-placed c = sym c.in_default.ensures

pub returns-in-None-clause-fault : goal.returns-in-None-clause-fault
returns-in-None-clause-fault c = λ judge judges.
    let fs = c.args.self.now.frames.items in
    let found = c.args.self.now.found.items in
    let e = lent c.args.entry in
    let same = ap (λ files. unit_at files e.entity) (sym c.library.ensures) in
    unknown-is judge c.args.units.now fs e found (placed fs found e (sym c.in_default.ensures)) (same ∙ sym c.in-None.ensures.unit)
