-- The ports of an entity, which is a list of them, by their names.
use Rattle.std.specs.Prelude.{ℕ, List, Option, position}
use Rattle.std.specs.List.{slice_get}
use Rattle.std.specs.Option.{option_map}
use Rattle.std.specs.Str.{bytes_eq}
use Rattle.vital_nodes.specs.declared.decl.Iface.{Iface}
use Rattle.vital_nodes.specs.declared.decl.Mode.{Mode}

-- The number of the first port of this name.
abbrev pub number_of : List Iface → List ℕ → Option ℕ
number_of ports name = position (λ port. bytes_eq port.identifier.name name) ports

-- The mode of a port.
abbrev pub mode_at : List Iface → ℕ → Option Mode
mode_at ports number = option_map (λ port. port.parts.mode) (slice_get ports number)
