-- The units of a library that are elaborated: entities with their architectures (IEEE 1076-1993, 12.1).
use Rattle.std.specs.Prelude.{ℕ, ◌-◌, List, length, Option, Some, None}
use Rattle.std.specs.List.{slice_get}
use Rattle.vital_library.specs.Units.{archs_of_entity, entities, roles}
use Rattle.vital_names.specs.Sites.{Cell}
use Rattle.vital_nodes.specs.declared.unit.Arch.{Arch}
use Rattle.vital_nodes.specs.declared.unit.Entity.{Entity}
use Rattle.vital_nodes.specs.declared.unit.Role.{Role}
use Rattle.vital_nodes.specs.declared.unit.Units.{Units}
use Rattle.vital_structure.specs.Structures.{NetUnit}
use Rattle.vital_instances.specs.declared.library_unit.LibraryUnit.{LibraryUnit}

-- An entity with its architecture, as a cell or as a netlist unit.
pub record Unit : Type 0 where
  pub entity : Entity
  pub role : Role
  pub arch : Arch

abbrev pub lent : LibraryUnit → Unit
lent u = record { entity = u.entity.now; role = u.role; arch = u.arch.now }

-- The architecture of an entity is its last one.
abbrev pub last_arch : List Arch → Option Arch
last_arch archs = slice_get archs (length archs - 1)

abbrev pub unit_with : Option Entity → Option Role → Option Arch → Option Unit
unit_with (Some e) (Some r) (Some a) = Some (record { entity = e; role = r; arch = a })
unit_with _ _ _ = None

-- The entity of a number with its architecture, if it has one.
abbrev pub unit_at : List Units → ℕ → Option Unit
unit_at files n = unit_with (slice_get (entities files) n) (slice_get (roles files) n) (last_arch (archs_of_entity n files))

abbrev pub cell_of : List Units → Unit → Cell
cell_of files u = record { files = files; entity = u.entity; arch = Some u.arch }

abbrev pub net_unit_of : Unit → NetUnit
net_unit_of u = record { entity = u.entity; arch = u.arch }
