use Rattle.std.proofs.Common.{map, reverse, ◌∙◌, ap}
use Rattle.vital_objects.proofs.Turns.{in_order}
use Rattle.vital_objects.specs.Ports.{port}
use Rattle.vital_objects.specs.Together.{beside_lasts, is_last_interface}
use Rattle.vital_typed_declarations.specs.Declarations.{lent_sited}
use Rattle.vital_uses.specs.Nodes.{sited_interface}
use Rattle.vital_objects.proofs.port.read_ports.Goals as goal

pub returns : goal.returns
returns c =
    c.from_vec.ensures
    ∙ in_order _ _ _ (
    c.in_ok-found.ensures
    ∙ ap (λ ds. reverse (map (port c.args.reader.now.names.now c.args.reader.now.faults.now) (beside_lasts is_last_interface ds)))
    (ap (map lent_sited) c.deref.ensures.value ∙ c.in_ok-sited.ensures ∙ ap sited_interface (c.as_slice-ports.ensures ∙ ap (λ e. e.ports) c.entity.ensures))) c.reverse.ensures.items
