use Rattle.std.proofs.Common.{◌<◌, ◌++◌, [], length, sym, ap, ◌∙◌}
use Rattle.std.specs.List.{slice_get}
use Rattle.std.specs.Option.{option_map_or}
use Rattle.vital_library.specs.Units.{entities}
use Rattle.vital_answers.specs.Cells.{cells_of}
use Rattle.vital_answers.proofs.ListedCells.{one_entity}
use Rattle.vital_answers.proofs.judging.cells_of_library.Goals as goal

pub loop-entity-preserved : goal.loop-entity-preserved
loop-entity-preserved c =
    let library = c.args.library.now in
    let i = c.loop-entity.entity in
    let there : i < length (entities library) = rw c.entity_count-entity-end.ensures at c.loop-entity-test.true in
    c.in_ok-put_cells.ensures
    ∙ ap (λ front. front ++ option_map_or (cells_of library) (slice_get (entities library) i) []) c.loop-entity.invariant
    ∙ sym (one_entity library (entities library) i there)
