-- The units of a library, which is a list of files.
use Rattle.std.specs.Prelude.{ℕ, List, [], Option, Some, None, filter, map}
use Rattle.std.specs.List.{flat_map, filter_map, slice_get}
use Rattle.std.specs.Option.{option_map_or}
use Rattle.std.specs.Str.{bytes_eq}
use Rattle.vital_nodes.specs.declared.unit.Arch.{Arch}
use Rattle.vital_nodes.specs.declared.unit.Entity.{Entity}
use Rattle.vital_nodes.specs.declared.unit.Role.{Role}
use Rattle.vital_nodes.specs.declared.unit.Unit.{Unit as Unit'}
use Rattle.vital_nodes.specs.declared.unit.Unit.TheVariants as unit
use Rattle.vital_nodes.specs.declared.unit.Units.{Units}

-- All units, in the order of the files, and in each file in its order.
abbrev pub units_of : List Units → List Unit'
units_of files = flat_map (λ file. file.units) files

abbrev pub as_entity : Unit' → Option Entity
as_entity (unit.Entity e) = Some e
as_entity (unit.Arch a) = None
as_entity (unit.Pack p) = None
as_entity (unit.Config c) = None

abbrev pub as_arch : Unit' → Option Arch
as_arch (unit.Entity e) = None
as_arch (unit.Arch a) = Some a
as_arch (unit.Pack p) = None
as_arch (unit.Config c) = None

-- The entities among units, and the architectures, in order.
abbrev pub entities_among : List Unit' → List Entity
entities_among units = filter_map as_entity units

abbrev pub archs_among : List Unit' → List Arch
archs_among units = filter_map as_arch units

-- The entities of a library, in order.
abbrev pub entities : List Units → List Entity
entities files = entities_among (units_of files)

-- The roles of the entities of a library, in order: each has that of its file.
abbrev pub roles : List Units → List Role
roles files = flat_map (λ file. map (λ _. file.role) (entities_among file.units)) files

-- The architectures of the entity of a name, in order.
abbrev pub archs_of : List ℕ → List Units → List Arch
archs_of name files = filter (λ arch. bytes_eq arch.entity.name name) (archs_among (units_of files))

-- The architectures of the entity of a number, counted from 0.
abbrev pub archs_of_entity : ℕ → List Units → List Arch
archs_of_entity number files = option_map_or (λ entity. archs_of entity.identifier.name files) (slice_get (entities files) number) []
