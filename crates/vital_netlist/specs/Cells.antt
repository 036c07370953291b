-- The cells of a design. A cell stands in it once, however many instances it has.
use Rattle.std.specs.Prelude.{◌≡◌, ℕ, nat_eq, Bool, true, false, not, List, [], ◌∷◌, filter, length, map, position, slice_get, unwrap_or, Option, Some, None, if◌then◌else◌}
use Rattle.std.specs.List.{filter_map}
use Rattle.std.specs.Option.{option_and_then, option_map, option_map_or}
use Rattle.vital_library.specs.Units.{entities}
use Rattle.vital_nodes.specs.declared.unit.Role.{Role}
use Rattle.vital_nodes.specs.declared.unit.Role.TheVariants as role
use Rattle.vital_nodes.specs.declared.unit.Units.{Units}
use Rattle.vital_typed_cells.specs.declared.typed_cell.TypedCell.{TypedCell}
use Rattle.vital_typed_cells.specs.Typed.{typed}
use Rattle.vital_instances.specs.declared.instance.Instance.{Instance}
use Rattle.vital_instances.specs.Units.{Unit, cell_of, unit_at}

-- A library with instances of its units.
pub record Netlist : Type 0 where
  pub files : List Units
  pub instances : List Instance

-- The typed tree of a cell.
abbrev pub tree_of : List Units → Unit → TypedCell
tree_of files u = typed (cell_of files u)

-- Entities of `lib` files are cells.
abbrev pub is_lib : Role → Bool
is_lib role.Lib = true
is_lib role.Net = false

-- It is an instance of a cell.
abbrev pub is_cell : List Units → Instance → Bool
is_cell files i = option_map_or (λ u. is_lib u.role) (unit_at files i.entity) false

-- Numbers, each where it stands first.
abbrev pub firsts : List ℕ → List ℕ
firsts [] = []
firsts (n ∷ others) = n ∷ filter (λ m. not (nat_eq m n)) (firsts others)

-- The entities that are cells, by their first instances.
unfoldable pub cell_entities : List Units → List Instance → List ℕ
cell_entities files is = firsts (map (λ i. i.entity) (filter (is_cell files) is))

-- The typed tree of each.
unfoldable pub cells : List Units → List Instance → List TypedCell
cells files is = filter_map (λ n. option_map (tree_of files) (unit_at files n)) (cell_entities files is)

-- The number of the cell that an entity is, from 0, if it is one of these.
abbrev pub number_of_entity : List Units → List Instance → ℕ → Option ℕ
number_of_entity files is n = position (nat_eq n) (cell_entities files is)

-- The cell that an entity is, if it is one of these.
abbrev pub cell_of_entity : List Units → List Instance → ℕ → Option TypedCell
cell_of_entity files is n = option_and_then (slice_get (cells files is)) (number_of_entity files is n)

-- What a unit is as a cell. A netlist unit is none.
abbrev pub cell_as : List Units → Unit → Role → Option TypedCell
cell_as files u role.Lib = Some (tree_of files u)
cell_as files u role.Net = None

-- The number of the cell that an instance is of. A netlist unit is none.
abbrev pub cell_number : List Units → List Instance → Instance → Option ℕ
cell_number files is i = if is_cell files i then number_of_entity files is i.entity else None

-- These are the cells, and for each entity the number of its cell.
pub record HasCells (files : List Units) (is : List Instance) (kept : List TypedCell) (numbers : List (Option ℕ)) : Type 0 where
  pub all : kept ≡ cells files is
  pub each : length kept ≡ length (cell_entities files is)
  pub room : length numbers ≡ length (entities files)
  pub numbered : (n : ℕ) → unwrap_or (slice_get numbers n) None ≡ number_of_entity files is n
