-- The ports of an entity as the formals of its instances (IEEE 1076-1993, 1.1.1.2).
use Rattle.std.specs.Prelude.{ℕ, List, Option, Some, None, if◌then◌else◌}
use Rattle.std.specs.List.{slice_get}
use Rattle.std.specs.Option.{option_and_then, option_map, option_map_or}
use Rattle.vital_level0.specs.Ports.{number_of}
use Rattle.vital_nodes.specs.declared.decl.Iface.{Iface}
use Rattle.vital_nodes.specs.declared.expr.Reference.{Reference}
use Rattle.vital_nodes.specs.declared.expr.Suffix.{Suffix}
use Rattle.vital_structure.specs.Shapes.{Part, Scalar, Shape, has_part, part_behind, shape_of_port}

-- What the port of a number is. A number past the ports counts as one bit.
abbrev pub shape_at : List Iface → ℕ → Shape
shape_at formals n = option_map_or shape_of_port (slice_get formals n) Scalar

-- A part, if it is in the range.
abbrev pub if_in : Shape → Part → Option Part
if_in s p = if has_part s p then Some p else None

-- The part that stands behind an identifier, if it is in the range.
abbrev pub part_in : Shape → List Suffix → Option Part
part_in s suffixes = option_and_then (if_in s) (part_behind suffixes)

-- The port that a name names, the first of its identifier, alone or with one index or one slice in its range: its number, and the part.
abbrev pub formal_named : List Iface → Reference → Option (ℕ × Part)
formal_named formals name =
    option_and_then (λ n. option_map (λ p. (n, p)) (part_in (shape_at formals n) name.suffixes)) (number_of formals name.identifier.name)
