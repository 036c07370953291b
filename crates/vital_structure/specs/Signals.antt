-- The ports and signals of a netlist unit, with their types and defaults (IEEE 1076-1993, 1.1.1.2 and 4.3.1.2).
use Rattle.std.specs.Prelude.{Bool, true, false, Option, Some, None}
use Rattle.std.specs.Option.{option_and_then, option_map}
use Rattle.vital_declarations.specs.Constants.{character}
use Rattle.vital_declarations.specs.Types.{DeclaredType, Plain, Vector as VectorOf, type_of}
use Rattle.vital_logic.specs.declared.level.Level.{Level}
use Rattle.vital_names.specs.declared.predeclared.TypeName.TheVariants as type
use Rattle.vital_nodes.specs.declared.decl.Iface.{Iface}
use Rattle.vital_nodes.specs.declared.decl.Mode.{Mode}
use Rattle.vital_nodes.specs.declared.decl.Object.{Object}
use Rattle.vital_nodes.specs.declared.decl.Subtype.{Subtype}
use Rattle.vital_nodes.specs.declared.expr.Expr.{Expr}
use Rattle.vital_nodes.specs.declared.identifier.Identifier.{Identifier}
use Rattle.vital_operands.specs.Items.{printed_level, value_of_others}
use Rattle.vital_nodes.specs.Items.{listed_items}
use Rattle.vital_structure.specs.declared.signal_type.SignalType.{SignalType as SignalType'}
use Rattle.vital_structure.specs.declared.unit_signal.UnitSignal.{UnitSignal as UnitSignal'}
use Rattle.vital_structure.specs.Shapes.{Shape, Scalar, Vector}
use Rattle.vital_structure.specs.Shapes as shapes

-- ---- types and defaults

-- One bit or a vector of bits, and whether each bit is of a resolved type.
pub record SignalType : Type 0 where
  pub shape : Shape
  pub is_resolved : Bool

abbrev pub lent_type : SignalType' → SignalType
lent_type t = record { shape = shapes.lent t.shape; is_resolved = t.is_resolved }

abbrev pub typed : Shape → Bool → SignalType
typed shape is_resolved = record { shape = shape; is_resolved = is_resolved }

-- STD_LOGIC is resolved, and so are the elements of STD_LOGIC_VECTOR; STD_ULOGIC is not (IEEE 1164). A port or a signal is of no other
-- type.
abbrev pub signal_type : DeclaredType → Option SignalType
signal_type (Plain type.StdUlogic) = Some (typed Scalar false)
signal_type (Plain type.StdLogic) = Some (typed Scalar true)
signal_type (VectorOf r) = Some (typed (Vector r) true)
signal_type _ = None

-- The level of a character literal. Parentheses round it are not dropped.
abbrev pub level_literal : Expr → Option Level
level_literal e = option_and_then printed_level (character e)

abbrev pub level_of_others : Expr → Option Level
level_of_others e = option_and_then level_literal (option_and_then value_of_others (listed_items e))

-- What a default gives each bit: it is a level, and for a vector `(others => level)`.
abbrev pub default_level : Shape → Expr → Option Level
default_level Scalar e = level_literal e
default_level (Vector r) e = level_of_others e

-- The same where there may be no default; none where there is one of another form.
abbrev pub default_in : Shape → Option Expr → Option (Option Level)
default_in s None = Some None
default_in s (Some e) = option_map (λ l. Some l) (default_level s e)

-- ---- ports and signals

-- A port or a declared signal: its identifier, its mode if it is a port, its type, and the level that its default gives each bit, if it
-- has one.
pub record UnitSignal : Type 0 where
  pub identifier : Identifier
  pub mode : Option Mode
  pub shape : Shape
  pub is_resolved : Bool
  pub default : Option Level

abbrev pub lent : UnitSignal' → UnitSignal
lent s = record {
  identifier = s.identifier.now;
  mode = s.mode;
  shape = shapes.lent s.shape;
  is_resolved = s.is_resolved;
  default = s.default;
}

abbrev pub signal_with : Identifier → Option Mode → Option Expr → SignalType → Option UnitSignal
signal_with identifier mode default t =
    option_map (λ level. record { identifier = identifier; mode = mode; shape = t.shape; is_resolved = t.is_resolved; default = level }) (default_in t.shape default)

-- A port or a signal, if its type and its default are ones that it may have.
abbrev pub signal_of : Identifier → Option Mode → Subtype → Option Expr → Option UnitSignal
signal_of identifier mode subtype default = option_and_then (signal_with identifier mode default) (signal_type (type_of subtype))

abbrev pub port_signal : Iface → Option UnitSignal
port_signal i = signal_of i.identifier (Some i.parts.mode) i.parts.subtype i.parts.default

abbrev pub object_signal : Object → Option UnitSignal
object_signal o = signal_of o.identifier None o.parts.subtype o.parts.value
