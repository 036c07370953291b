use Rattle.std.proofs.Common.{◌≡◌, map, take}
use Rattle.std.specs.List.{AllZip}
use Rattle.vital_typed_cells.specs.Answers.{default_values}
use Rattle.vital_typed_cells.specs.Fits.{FitsCell}
use Rattle.vital_annotate.proofs.instances.defaults_of.Given as goal

abbrev pub invariant-loop-target : goal.invariant-loop-target
invariant-loop-target l = record {
  values : map (λ delays. delays.items) l.values.items ≡ map (λ t. default_values t.cell.now) (take l.target-index l.targets);
  fit : AllZip (λ t delays. FitsCell t.cell.now delays.items) (take l.target-index l.targets) l.values.items;
}
