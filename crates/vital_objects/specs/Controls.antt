-- The controls of a cell's checks and messages (IEEE 1076.4): TimingChecksOn, XOn and MsgOn.
use Rattle.std.specs.Prelude.{ℕ, Bool, true, List, Option, Some, None, codes, find, unwrap_or}
use Rattle.std.specs.Option.{option_and_then}
use Rattle.std.specs.Str.{bytes_eq}
use Rattle.vital_base.specs.declared.place.Place.{Place}
use Rattle.vital_names.specs.Sites.{Cell}
use Rattle.vital_nodes.specs.declared.decl.Iface.{Iface}
use Rattle.vital_operands.specs.declared.tree.BooleanExpr.{BooleanExpr}
use Rattle.vital_operands.specs.declared.tree.BooleanExpr.TheOpen.{BooleanExpr-F}
use Rattle.vital_operands.specs.declared.tree.BooleanExpr.TheViews.{out-BooleanExpr}
use Rattle.vital_typed_declarations.specs.declared.value.TypedValue.{TypedValue}
use Rattle.vital_typed_declarations.specs.declared.value.TypedValue.TheVariants as value
use Rattle.vital_typed_declarations.specs.Declarations.{generic_value, in_interface}
use Rattle.vital_uses.specs.Nodes.{sited_interface}
use Rattle.vital_uses.specs.Sited.{Sited}
use Rattle.vital_objects.specs.declared.control.ControlValue.{ControlValue}
use Rattle.vital_objects.specs.declared.control.ControlValue.TheVariants as control
use Rattle.vital_objects.specs.declared.control.Controls.{Controls}

abbrev pub literal_in : BooleanExpr-F BooleanExpr → Option ControlValue
literal_in (BooleanExpr-F.Literal b) = Some (control.Literal b)
literal_in other = None

-- TRUE or FALSE, which as defaults are words, or a constant of a package.
abbrev pub control_in : TypedValue → Option ControlValue
control_in (value.Boolean b) = literal_in (out-BooleanExpr b)
control_in (value.PackageBoolean n) = Some (control.Constant n)
control_in other = None

abbrev pub default_control : Cell → List Place → Sited Iface → Option ControlValue
default_control cell faults i =
    option_and_then control_in (generic_value (in_interface cell faults i.site) i.declaration).tree

abbrev pub is_named : List ℕ → Sited Iface → Bool
is_named name i = bytes_eq i.declaration.identifier.name name

-- The generic of a name.
abbrev pub generic_named : Cell → List ℕ → Option (Sited Iface)
generic_named cell name = find (is_named name) (sited_interface cell.entity.generics)

-- The default of the generic of a name. It is TRUE where there is none.
abbrev pub control_named : Cell → List Place → List ℕ → ControlValue
control_named cell faults name = unwrap_or (option_and_then (default_control cell faults) (generic_named cell name)) (control.Literal true)

abbrev pub controls : Cell → List Place → Controls
controls cell faults = record {
  timing_checks_on = control_named cell faults (codes "timingcheckson");
  x_on = control_named cell faults (codes "xon");
  msg_on = control_named cell faults (codes "msgon");
}
