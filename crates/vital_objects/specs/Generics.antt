-- The generics of a cell that are delays: those whose names split are its timing generics, which an SDF file may set (IEEE 1076.4).
use Rattle.std.specs.Prelude.{List, Option, Some, None, unwrap_or}
use Rattle.std.specs.List.{filter_map}
use Rattle.std.specs.Option.{option_and_then, option_map}
use Rattle.vital_base.specs.declared.place.Place.{Place}
use Rattle.vital_declarations.specs.Types.{DeclaredType, Plain, type_of}
use Rattle.vital_level0.specs.declared.parts.Parts.{Parts}
use Rattle.vital_level0.specs.Steps.{parts_of_name}
use Rattle.vital_names.specs.declared.predeclared.TypeName.TheVariants as type
use Rattle.vital_names.specs.Sites.{Cell}
use Rattle.vital_nodes.specs.declared.decl.Iface.{Iface}
use Rattle.vital_operands.specs.declared.tree.DelayExpr.{DelayExpr}
use Rattle.vital_operands.specs.Named.{even_delay}
use Rattle.vital_timing.specs.declared.delay.Delay.{Delay}
use Rattle.vital_timing.specs.declared.delay.DelayType.{DelayType}
use Rattle.vital_typed_declarations.specs.declared.value.TypedValue.{TypedValue}
use Rattle.vital_typed_declarations.specs.declared.value.TypedValue.TheVariants as value
use Rattle.vital_typed_declarations.specs.Declarations.{generic_value, in_interface}
use Rattle.vital_uses.specs.Nodes.{sited_interface}
use Rattle.vital_uses.specs.Sited.{Sited}
use Rattle.vital_objects.specs.declared.generic.PlainGeneric.{PlainGeneric}
use Rattle.vital_objects.specs.declared.generic.TimingGeneric.{TimingGeneric}
use Rattle.vital_objects.specs.declared.package_value.PackageValue.{PackageValue}
use Rattle.vital_objects.specs.PackageValues.{known_delay}

-- ---- types and defaults

abbrev pub delay_type_of : DeclaredType → Option DelayType
delay_type_of (Plain (type.Delay d)) = Some d
delay_type_of _ = None

-- The type of a generic that is a delay.
abbrev pub delay_type : Iface → Option DelayType
delay_type i = delay_type_of (type_of i.parts.subtype)

abbrev pub delay_in : TypedValue → Option DelayExpr
delay_in (value.Delay t) = Some t
delay_in other = None

-- The default of a generic of a type, which may be a constant of a package. It is 0 for every change where none is written. The word for
-- no delay of its type is that word, whatever has its name.
abbrev pub default_delay : Cell → List Place → List (Option PackageValue) → DelayType → Sited Iface → Delay
default_delay cell faults known d i =
    unwrap_or
    (option_and_then (known_delay known) (option_and_then delay_in (generic_value (in_interface cell faults i.site) i.declaration).tree))
    (even_delay d 0)

-- ---- generics

-- The parts that the name of a generic splits into, if it splits.
abbrev pub parts : Cell → Iface → Option Parts
parts cell i = parts_of_name cell.entity.ports i.identifier.name

abbrev pub timing_generic_with : Sited Iface → Delay → Parts → TimingGeneric
timing_generic_with i default p = record { name = i.declaration.identifier.name; parts = p; default = default }

abbrev pub plain_generic_with : Sited Iface → Delay → PlainGeneric
plain_generic_with i default = record { name = i.declaration.identifier.name; default = default }

abbrev pub plain_if_whole : Sited Iface → Delay → Option Parts → Option PlainGeneric
plain_if_whole i default None = Some (plain_generic_with i default)
plain_if_whole i default (Some p) = None

-- A generic of a type whose name splits, and one whose name does not.
abbrev pub timing_of_type : Cell → List Place → List (Option PackageValue) → Sited Iface → DelayType → Option TimingGeneric
timing_of_type cell faults known i d = option_map (timing_generic_with i (default_delay cell faults known d i)) (parts cell i.declaration)

abbrev pub plain_of_type : Cell → List Place → List (Option PackageValue) → Sited Iface → DelayType → Option PlainGeneric
plain_of_type cell faults known i d = plain_if_whole i (default_delay cell faults known d i) (parts cell i.declaration)

abbrev pub timing_generic : Cell → List Place → List (Option PackageValue) → Sited Iface → Option TimingGeneric
timing_generic cell faults known i = option_and_then (timing_of_type cell faults known i) (delay_type i.declaration)

abbrev pub plain_generic : Cell → List Place → List (Option PackageValue) → Sited Iface → Option PlainGeneric
plain_generic cell faults known i = option_and_then (plain_of_type cell faults known i) (delay_type i.declaration)

-- Both kinds, each in order.
abbrev pub timing_generics : Cell → List Place → List (Option PackageValue) → List TimingGeneric
timing_generics cell faults known = filter_map (timing_generic cell faults known) (sited_interface cell.entity.generics)

abbrev pub plain_generics : Cell → List Place → List (Option PackageValue) → List PlainGeneric
plain_generics cell faults known = filter_map (plain_generic cell faults known) (sited_interface cell.entity.generics)
