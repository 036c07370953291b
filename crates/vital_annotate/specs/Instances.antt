-- The instances of cells that an entry is for.
use Rattle.std.specs.Prelude.{ℕ, List, [], ◌∷◌, ◌++◌, take, slice_get, Option, Some, None}
use Rattle.std.specs.List.{enumerate_from, filter_map}
use Rattle.std.specs.Option.{option_and_then, option_map}
use Rattle.vital_annotate.specs.Numbers.{numbers_where}
use Rattle.vital_annotate.specs.Parts.{part_is, parts_are}
use Rattle.vital_netlist.specs.Designs.{Design, DesignInstance, labels}
use Rattle.vital_sdf.specs.declared.group.Instance.{Instance}
use Rattle.vital_sdf.specs.declared.group.Instance.TheVariants as instance
use Rattle.vital_typed_cells.specs.declared.typed_cell.TypedCell.{TypedCell}

-- An instance of a cell: the labels on its path from the top on, the name of its entity, and its typed tree.
pub record CellInstance : Type 0 where
  pub labels : List (List ℕ)
  pub entity : List ℕ
  pub cell : TypedCell

abbrev pub cell_instance : Design → (ℕ × DesignInstance) → Option CellInstance
cell_instance d (number, i) =
    option_map (λ cell. record { labels = labels d number; entity = i.unit; cell = cell }) (option_and_then (slice_get d.cells) i.cell)

-- Those of a design, in the order of its instances.
abbrev pub cell_instances : Design → List CellInstance
cell_instances d = filter_map (cell_instance d) (enumerate_from 0 d.instances)

-- ---- the instances that an entry is for, by their numbers among those of cells

-- of a path: the first one that it fits, if there is one
abbrev pub at_path : List CellInstance → List (List ℕ) → List ℕ
at_path is path = take 1 (numbers_where (λ i. parts_are i.labels path) is)

-- all of the entity of a CELLTYPE
abbrev pub of_type : List CellInstance → Option (List ℕ) → List ℕ
of_type is None = []
of_type is (Some type) = numbers_where (λ i. part_is i.entity type) is

-- Labels before an interconnection's port go on from the instance of the group; none goes on from `*`.
abbrev pub each_of_type : List CellInstance → Option (List ℕ) → List (List ℕ) → List ℕ
each_of_type is type [] = of_type is type
each_of_type is type (l ∷ more) = []

abbrev pub meant : List CellInstance → Option (List ℕ) → Instance → List (List ℕ) → List ℕ
meant is type instance.Top more = at_path is more
meant is type instance.Each more = each_of_type is type more
meant is type (instance.Path path) more = at_path is (path ++ more)
