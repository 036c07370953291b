use Rattle.std.proofs.Common.{List, map, subst}
use Rattle.std.specs.Prelude.{Result}
use Rattle.vital_structure.specs.Structures.{NetUnit}
use Rattle.vital_instances.specs.Children.{Child, lent}
use Rattle.vital_instances.specs.Faults.{Fault, IsAnswer}
use Rattle.vital_instances.proofs.ChildLemmas.{children-are}
use Rattle.vital_instances.proofs.children.children.Goals as goal

pub returns-in-Ok : goal.returns-in-Ok
returns-in-Ok c =
    let unit : NetUnit = record { entity = c.args.entity.now; arch = c.args.arch.now } in
    subst (λ (r : Result (List Child) Fault). IsAnswer (map lent) r c.children_in.result)
    (children-are c.args.library.now unit c.in-Ok.structure _ c.in-Ok.ensures.0 c.in-Ok.ensures.1 c.statements.ensures)
    c.children_in.ensures
