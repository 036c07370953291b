use Rattle.std.proofs.Common.{◌≡◌, [], map, take}
use Rattle.std.specs.Prelude.{All}
use Rattle.std.specs.List.{AllZip}
use Rattle.vital_kernel.specs.Networks.{lent_cell}
use Rattle.vital_kernel.specs.Instances.{Begins}
use Rattle.vital_kernel.specs.Programs.{ProgramState}
use Rattle.vital_kernel.proofs.instances.Instances.new.Given as goal

abbrev pub invariant-loop-cell : goal.invariant-loop-cell
invariant-loop-cell l = record {
  begin : AllZip (Begins l.programs.items) (map lent_cell (take l.cell-index l.cells)) l.instances.items;
  none : All (λ (p : ProgramState). p.effects ≡ []) l.programs.items;
}
