-- Where units stand among the files of a library.
use Rattle.std.specs.Prelude.{ℕ, List, Option, map}
use Rattle.std.specs.List.{slice_get, enumerate_from, flat_map}
use Rattle.std.specs.Option.{option_and_then, option_map}
use Rattle.vital_nodes.specs.declared.unit.Arch.{Arch}
use Rattle.vital_nodes.specs.declared.unit.Entity.{Entity}
use Rattle.vital_nodes.specs.declared.unit.Role.{Role}
use Rattle.vital_nodes.specs.declared.unit.Unit.{Unit as Unit'}
use Rattle.vital_nodes.specs.declared.unit.Units.{Units}
use Rattle.vital_library.specs.declared.position.Position.{Position}
use Rattle.vital_library.specs.declared.unit_at.UnitAt.{UnitAt}
use Rattle.vital_library.specs.Units.{as_entity, as_arch}

-- The unit at a position.
abbrev pub unit_at : List Units → Position → Option Unit'
unit_at files position = option_and_then (λ file. slice_get file.units position.unit) (slice_get files position.file)

abbrev pub entity_at : List Units → Position → Option Entity
entity_at files position = option_and_then as_entity (unit_at files position)

abbrev pub arch_at : List Units → Position → Option Arch
arch_at files position = option_and_then as_arch (unit_at files position)

-- The role of the file of a position.
abbrev pub role_at : List Units → Position → Option Role
role_at files position = option_map (λ file. file.role) (slice_get files position.file)

-- The units of the file with a number, each with its position, from a number on.
abbrev pub numbered_from : ℕ → ℕ → List Unit' → List (Position × Unit')
numbered_from file number units = map (λ u. (record { file = file; unit = u.0 }, u.1)) (enumerate_from number units)

-- The units of files, each with its position.
abbrev pub numbered : List Units → List (Position × Unit')
numbered files = flat_map (λ f. numbered_from f.0 0 f.1.units) (enumerate_from 0 files)

-- Units that were seen, each with its position; and the units alone.
abbrev pub seen : UnitAt → Position × Unit'
seen at = (at.position, at.unit.now)

abbrev pub units_in : List UnitAt → List Unit'
units_in units = map (λ at. at.unit.now) units
