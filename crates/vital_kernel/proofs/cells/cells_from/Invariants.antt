use Rattle.std.proofs.Common.{◌≡◌, ◌++◌, drop, map, take}
use Rattle.vital_kernel.specs.DesignNetworks.{cells_from, placed_cells}
use Rattle.vital_kernel.specs.Networks.{lent_cell}
use Rattle.vital_kernel.proofs.cells.cells_from.Given as goal

abbrev pub invariant-loop-k : goal.invariant-loop-k
invariant-loop-k l = record {
  made : map lent_cell l.cells.items ++ cells_from l.design l.next (drop l.k (placed_cells l.design)) (drop l.k (map (λ v. v.now) l.values)) (drop l.k l.wiring)
      ≡ cells_from l.design l.first (placed_cells l.design) (map (λ v. v.now) l.values) l.wiring;
  trees : map (λ c. c.cell.now) l.cells.items ≡ map (λ p. p.cell.now) (take l.k l.placed);
  delays : map (λ c. c.values.now) l.cells.items ≡ map (λ v. v.now) (take l.k l.values);
  alike : map (λ c. c.alike) l.cells.items ≡ take l.k l.alike;
}
