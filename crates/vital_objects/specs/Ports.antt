-- The ports of a cell.
use Rattle.std.specs.Prelude.{Bool, true, false, List, map, Option, Some, None}
use Rattle.std.specs.Option.{option_and_then}
use Rattle.vital_base.specs.declared.place.Place.{Place}
use Rattle.vital_declarations.specs.Types.{DeclaredType, Plain, type_of}
use Rattle.vital_names.specs.declared.predeclared.TypeName.TheVariants as type
use Rattle.vital_names.specs.Sites.{Cell}
use Rattle.vital_nodes.specs.declared.decl.Iface.{Iface}
use Rattle.vital_operands.specs.declared.tree.LevelExpr.{LevelExpr}
use Rattle.vital_typed_declarations.specs.declared.value.TypedValue.{TypedValue}
use Rattle.vital_typed_declarations.specs.declared.value.TypedValue.TheVariants as value
use Rattle.vital_typed_declarations.specs.Asked.{of_port}
use Rattle.vital_typed_declarations.specs.Declarations.{default_value, in_interface}
use Rattle.vital_uses.specs.Nodes.{sited_interface}
use Rattle.vital_uses.specs.Sited.{Sited}
use Rattle.vital_objects.specs.declared.port.Port.{Port}
use Rattle.vital_objects.specs.Together.{beside_lasts, is_last_interface}

-- STD_LOGIC is a resolved type, and STD_ULOGIC is none (IEEE 1164).
abbrev pub is_resolved : DeclaredType → Bool
is_resolved (Plain type.StdLogic) = true
is_resolved _ = false

abbrev pub level_in : TypedValue → Option LevelExpr
level_in (value.Level t) = Some t
level_in other = None

-- The default of the ports that are declared together, the last of which this is.
abbrev pub default_behind : Cell → List Place → Sited Iface → Option LevelExpr
default_behind cell faults i =
    option_and_then level_in (default_value (of_port i.declaration) (in_interface cell faults i.site) i.declaration).tree

abbrev pub port_with : Option LevelExpr → Iface → Port
port_with default i = record {
  name = i.identifier.name;
  place = i.identifier.place;
  mode = i.parts.mode;
  is_resolved = is_resolved (type_of i.parts.subtype);
  default = default;
}

-- A port beside the last of those that are declared together with it.
abbrev pub port : Cell → List Place → (Sited Iface × Option (Sited Iface)) → Port
port cell faults i = port_with (option_and_then (default_behind cell faults) i.1) i.0.declaration

-- The bits of the ports, in order. A port is one bit.
abbrev pub ports : Cell → List Place → List Port
ports cell faults = map (port cell faults) (beside_lasts is_last_interface (sited_interface cell.entity.ports))
