use Rattle.std.proofs.Common.{◌≡◌, ◌++◌, drop, map}
use Rattle.std.specs.List.{enumerate_from, filter_map}
use Rattle.std.specs.Option.{option_map}
use Rattle.vital_kernel.specs.DesignNetworks.{placed_cell, placed_cells}
use Rattle.vital_kernel.specs.Placed.{HaveKinds, lent_placed, with_count}
use Rattle.vital_kernel.proofs.placed.placed_cells.Given as goal

abbrev pub invariant-loop-number : goal.invariant-loop-number
invariant-loop-number l = record {
  counted : map lent_placed l.all.items ++ filter_map (λ i. option_map with_count (placed_cell l.design i)) (enumerate_from l.number (drop l.number l.design.instances))
      ≡ map with_count (placed_cells l.design);
  kinds : HaveKinds l.design.cells l.all.items;
}
