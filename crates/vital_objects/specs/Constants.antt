-- The constants that an architecture or a process declares.
use Rattle.std.specs.Prelude.{List, Option, Some, None, if◌then◌else◌}
use Rattle.std.specs.List.{filter_map}
use Rattle.std.specs.Option.{option_and_then, option_map}
use Rattle.vital_base.specs.declared.place.Place.{Place}
use Rattle.vital_declaration_clauses.specs.Scopes.{InCell}
use Rattle.vital_library.specs.Constants.{as_constant}
use Rattle.vital_names.specs.Sites.{Cell, Site}
use Rattle.vital_nodes.specs.declared.decl.Decl.{Decl}
use Rattle.vital_nodes.specs.declared.decl.Object.{Object}
use Rattle.vital_nodes.specs.declared.stmt.Process.{Process}
use Rattle.vital_operands.specs.declared.tree.DelayExpr.{DelayExpr}
use Rattle.vital_typed_declarations.specs.declared.asked_type.AskedType.{AskedType}
use Rattle.vital_typed_declarations.specs.declared.asked_type.AskedType.TheVariants as asked
use Rattle.vital_typed_declarations.specs.declared.value.TypedValue.{TypedValue}
use Rattle.vital_typed_declarations.specs.declared.value.TypedValue.TheVariants as value
use Rattle.vital_typed_declarations.specs.Asked.{of_object}
use Rattle.vital_typed_declarations.specs.Declarations.{in_value, object_value}
use Rattle.vital_uses.specs.Nodes.{sited_declarations}
use Rattle.vital_uses.specs.Sited.{Sited}
use Rattle.vital_objects.specs.declared.constant.Constant.{Constant}
use Rattle.vital_objects.specs.declared.constant.ConstantValue.{ConstantValue}
use Rattle.vital_objects.specs.declared.constant.ConstantValue.TheVariants as worth
use Rattle.vital_objects.specs.PackageValues.{is_any_table, rows_in}
use Rattle.vital_objects.specs.Together.{beside_lasts, is_last_declaration}

-- ---- values

abbrev pub delay_in : AskedType → DelayExpr → Option ConstantValue
delay_in (asked.Delay d) t = Some (worth.Delay d t)
delay_in other t = None

-- The value that a typed value is, where a type is asked.
abbrev pub value_in : AskedType → TypedValue → Option ConstantValue
value_in a (value.Level t) = Some (worth.Level t)
value_in a (value.Vector v) = None
value_in a (value.Boolean b) = Some (worth.Boolean b)
value_in a (value.PackageBoolean n) = None
value_in a (value.Time t) = Some (worth.Time t)
value_in a (value.Delay t) = delay_in a t
value_in a value.Text = None
value_in a value.Untyped = None
value_in a value.Missing = None

-- The value of a constant: the rows of a table, or an expression of its type. A symbol of tables has none, since it stands in their rows.
abbrev pub constant_value : Cell → List Place → Site → Object → Option ConstantValue
constant_value cell faults site o =
    if is_any_table o then option_map (λ rows. worth.Table rows) (rows_in (InCell cell site) o)
    else option_and_then (value_in (of_object o)) (object_value (in_value cell faults site) o).tree

-- The value of the constants that are declared together, the last of which a declaration declares.
abbrev pub value_behind : Cell → List Place → Sited Decl → Option ConstantValue
value_behind cell faults d = option_and_then (constant_value cell faults d.site) (as_constant d.declaration)

-- ---- constants

abbrev pub constant_with : ConstantValue → Object → Constant
constant_with v o = record { name = o.identifier.name; value = v }

-- The constant of a value that a declaration declares.
abbrev pub constant_of : Decl → Option ConstantValue → Option Constant
constant_of d v = option_and_then (λ o. option_map (λ w. constant_with w o) v) (as_constant d)

-- The constant that a declaration declares, beside the last of those that are declared together with it.
abbrev pub constant : Cell → List Place → (Sited Decl × Option (Sited Decl)) → Option Constant
constant cell faults d = constant_of d.0.declaration (option_and_then (value_behind cell faults) d.1)

-- Those of an architecture, or of a process of it, in order.
abbrev pub constants : Cell → List Place → Option Process → List Decl → List Constant
constants cell faults process ds = filter_map (constant cell faults) (beside_lasts is_last_declaration (sited_declarations process ds))
