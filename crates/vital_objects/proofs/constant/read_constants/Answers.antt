use Rattle.std.proofs.Common.{map, reverse, ◌∙◌, ap}
use Rattle.std.specs.List.{filter_map}
use Rattle.vital_objects.proofs.Turns.{in_order}
use Rattle.vital_objects.specs.Constants.{constant}
use Rattle.vital_objects.specs.Together.{beside_lasts, is_last_declaration}
use Rattle.vital_typed_declarations.specs.Declarations.{lent_sited}
use Rattle.vital_objects.proofs.constant.read_constants.Goals as goal

pub returns : goal.returns
returns c =
    c.from_vec.ensures
    ∙ in_order _ _ _ (
    c.in_ok-constants.ensures
    ∙ ap (λ ds. reverse (filter_map (constant c.args.reader.now.names.now c.args.reader.now.faults.now) (beside_lasts is_last_declaration ds)))
    (ap (map lent_sited) c.deref.ensures.value ∙ c.in_ok-sited.ensures)) c.reverse.ensures.items
