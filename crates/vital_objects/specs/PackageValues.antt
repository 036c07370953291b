-- What the constants of packages are worth.
use Rattle.std.specs.Prelude.{ℕ, Bool, ◌||◌, List, [], ◌∷◌, ◌++◌, length, slice_get, unwrap_or, Option, Some, None, if◌then◌else◌}
use Rattle.std.specs.List.{fold}
use Rattle.std.specs.Option.{option_and_then, option_map}
use Rattle.vital_declaration_clauses.specs.Scopes.{Scope, InPackage}
use Rattle.vital_declarations.specs.declared.declared_type.TableType.TheVariants as table
use Rattle.vital_expr.specs.Readings.{Context}
use Rattle.vital_library.specs.Constants.{constants_of}
use Rattle.vital_nodes.specs.declared.decl.Object.{Object}
use Rattle.vital_nodes.specs.declared.unit.Units.{Units}
use Rattle.vital_operands.specs.declared.tree.ConstantName.{ConstantName}
use Rattle.vital_operands.specs.declared.tree.ConstantName.TheVariants as constant
use Rattle.vital_operands.specs.declared.tree.DelayExpr.{DelayExpr}
use Rattle.vital_operands.specs.declared.tree.DelayExpr.TheVariants as delay
use Rattle.vital_operands.specs.declared.tree.TimeExpr.{TimeExpr}
use Rattle.vital_operands.specs.declared.tree.TimeExpr.TheVariants as time
use Rattle.vital_operands.specs.Named.{is_table}
use Rattle.vital_operands.specs.Positions.{InPackage as AtPackage}
use Rattle.vital_tables.specs.Tables.{rows_of}
use Rattle.vital_timing.specs.declared.delay.Delay.{Delay}
use Rattle.vital_typed_declarations.specs.declared.value.TypedValue.{TypedValue}
use Rattle.vital_typed_declarations.specs.declared.value.TypedValue.TheVariants as value
use Rattle.vital_typed_declarations.specs.Declarations.{object_value}
use Rattle.vital_objects.specs.declared.package_value.PackageValue.{PackageValue}
use Rattle.vital_objects.specs.declared.package_value.PackageValue.TheVariants as worth

-- The value of the constant of a number, where the constants of packages are worth these: a constant whose value is not of its type is
-- worth nothing.
abbrev pub value_at : List (Option PackageValue) → ℕ → Option PackageValue
value_at known n = option_and_then (λ v. v) (slice_get known n)

-- ---- times and delays

abbrev pub time_in : PackageValue → Option ℕ
time_in (worth.Time t) = Some t
time_in other = None

abbrev pub delay_in : PackageValue → Option Delay
delay_in (worth.Delay d) = Some d
delay_in other = None

abbrev pub time_of_constant : List (Option PackageValue) → ConstantName → Option ℕ
time_of_constant known (constant.Cell name) = None
time_of_constant known (constant.Package n) = option_and_then time_in (value_at known n)

abbrev pub delay_of_constant : List (Option PackageValue) → ConstantName → Option Delay
delay_of_constant known (constant.Cell name) = None
delay_of_constant known (constant.Package n) = option_and_then delay_in (value_at known n)

-- What a time or a delay is worth that names no generic and no constant of a cell.
abbrev pub known_time : List (Option PackageValue) → TimeExpr → Option ℕ
known_time known (time.Literal t) = Some t
known_time known (time.Generic name) = None
known_time known (time.Constant c) = time_of_constant known c

abbrev pub known_delay : List (Option PackageValue) → DelayExpr → Option Delay
known_delay known (delay.Literal d) = Some d
known_delay known (delay.Generic name) = None
known_delay known (delay.Constant c) = delay_of_constant known c

-- ---- values

abbrev pub known_value : List (Option PackageValue) → TypedValue → Option PackageValue
known_value known (value.Level t) = Some (worth.Level t)
known_value known (value.Vector v) = None
known_value known (value.Boolean b) = Some (worth.Boolean b)
known_value known (value.PackageBoolean n) = None
known_value known (value.Time t) = option_map (λ u. worth.Time u) (known_time known t)
known_value known (value.Delay t) = option_map (λ d. worth.Delay d) (known_delay known t)
known_value known value.Text = None
known_value known value.Untyped = None
known_value known value.Missing = None

-- A constant is a table of either kind.
abbrev pub is_any_table : Object → Bool
is_any_table o = is_table table.Truth o || is_table table.State o

-- The rows of a constant that is a table.
abbrev pub rows_in : Scope → Object → Option (List (List ℕ))
rows_in scope o = option_and_then (rows_of scope) o.parts.value

abbrev pub at_package : List Units → ℕ → Context
at_package files n = record { position = AtPackage files n; faults = [] }

-- The value of the constant that stands behind those whose values are known.
abbrev pub next_value : List Units → List (Option PackageValue) → Object → Option PackageValue
next_value files known o =
    if is_any_table o then option_map (λ rows. worth.Table rows) (rows_in (InPackage files (length known)) o)
    else option_and_then (known_value known) (object_value (at_package files (length known)) o).tree

-- Those that are known with one more, and the value of the declaration that has begun: constants that are declared together share theirs,
-- which is read as that of the first of them.
abbrev pub with_value : Object → List (Option PackageValue) → Option PackageValue → (List (Option PackageValue) × Option (Option PackageValue))
with_value o known v = (known ++ v ∷ [], if o.is_last then None else Some v)

abbrev pub with_next : List Units → (List (Option PackageValue) × Option (Option PackageValue)) → Object → (List (Option PackageValue) × Option (Option PackageValue))
with_next files s o = with_value o s.0 (unwrap_or s.1 (next_value files s.0 o))

-- What the constants of the packages of a library are worth, in their order.
abbrev pub package_values : List Units → List (Option PackageValue)
package_values files = (fold (with_next files) ([], None) (constants_of files)).0
