use Rattle.std.proofs.Common.{map, reverse, Some, ◌∙◌, ap}
use Rattle.std.specs.List.{filter_map}
use Rattle.vital_objects.proofs.Turns.{in_order}
use Rattle.vital_objects.specs.Variables.{variable}
use Rattle.vital_objects.specs.Together.{beside_lasts, is_last_declaration}
use Rattle.vital_typed_declarations.specs.Declarations.{lent_sited}
use Rattle.vital_uses.specs.Nodes.{sited_declarations}
use Rattle.vital_objects.proofs.variable.read_variables.Goals as goal

pub returns : goal.returns
returns c =
    c.from_vec.ensures
    ∙ in_order _ _ _ (
    c.in_ok-variables.ensures
    ∙ ap (λ ds. reverse (filter_map (variable c.args.reader.now.names.now c.args.reader.now.faults.now) (beside_lasts is_last_declaration ds)))
    (ap (map lent_sited) c.deref.ensures.value ∙ c.in_ok-sited.ensures ∙ ap (sited_declarations (Some c.args.process.now)) (c.as_slice-declarations.ensures ∙ ap (λ p. p.declarations) c.process.ensures))) c.reverse.ensures.items
