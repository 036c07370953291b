-- Instances of cells, each with how many drivers it has.
use Rattle.std.specs.Prelude.{◌≡◌, ℕ, List, map, slice_get, Some}
use Rattle.vital_kernel.specs.DesignNetworks.{driver_count}
use Rattle.vital_kernel.specs.declared.placed.Placed.{Placed}
use Rattle.vital_typed_cells.specs.declared.typed_cell.TypedCell.{TypedCell}

abbrev pub CountedCell : Type 0
CountedCell = (ℕ × TypedCell) × ℕ

abbrev pub lent_placed : Placed → CountedCell
lent_placed p = ((p.number, p.cell.now), p.drivers)

-- The number of its cell is that of its tree.
abbrev pub HaveKinds : List TypedCell → List Placed → Type 0
HaveKinds cells placed = map (λ p. slice_get cells p.kind) placed ≡ map (λ p. Some p.cell.now) placed

abbrev pub with_count : (ℕ × TypedCell) → CountedCell
with_count placed = (placed, driver_count placed.1)
