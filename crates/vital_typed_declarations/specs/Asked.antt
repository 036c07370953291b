-- The types that are asked of the values and defaults of declarations.
use Rattle.std.specs.Prelude.{nat_le, Option, Some, None, if◌then◌else◌}
use Rattle.vital_declarations.specs.Numbers.{Range, length_of}
use Rattle.vital_declarations.specs.Operands.{VariableType, Level, X01, VectorOf, is_level, variable_type}
use Rattle.vital_declarations.specs.Types.{DeclaredType, Plain, type_of}
use Rattle.vital_names.specs.declared.predeclared.TypeName.{TypeName}
use Rattle.vital_names.specs.declared.predeclared.TypeName.TheVariants as type
use Rattle.vital_nodes.specs.declared.decl.Iface.{Iface}
use Rattle.vital_nodes.specs.declared.decl.Object.{Object}
use Rattle.vital_nodes.specs.declared.decl.ObjectClass.{ObjectClass}
use Rattle.vital_nodes.specs.declared.decl.ObjectClass.TheVariants as class
use Rattle.vital_typed_declarations.specs.declared.asked_type.AskedType.{AskedType}
use Rattle.vital_typed_declarations.specs.declared.asked_type.AskedType.TheVariants as asked

-- Of a constant of a type. What a table or a symbol is made of is told by another clause.
abbrev pub of_plain_constant : TypeName → AskedType
of_plain_constant type.StdUlogic = asked.Level
of_plain_constant type.StdLogic = asked.Level
of_plain_constant type.Boolean = asked.Boolean
of_plain_constant type.Time = asked.Time
of_plain_constant (type.Delay d) = asked.Delay d
of_plain_constant other = asked.Nothing

abbrev pub of_constant : DeclaredType → AskedType
of_constant (Plain t) = of_plain_constant t
of_constant _ = asked.Nothing

-- Of a port or a signal.
abbrev pub of_signal : DeclaredType → AskedType
of_signal t = if is_level t then asked.Level else asked.Nothing

-- Of a vector variable, which has at most 256 elements.
abbrev pub of_range : Range → AskedType
of_range r = if nat_le (length_of r) 256 then asked.Vector (length_of r) else asked.Nothing

-- Of a variable. The data that path delays and checks keep have no value.
abbrev pub of_variable_type : VariableType → AskedType
of_variable_type Level = asked.Level
of_variable_type X01 = asked.Level
of_variable_type (VectorOf r) = of_range r
of_variable_type other = asked.Nothing

abbrev pub of_variable : Option VariableType → AskedType
of_variable None = asked.Nothing
of_variable (Some t) = of_variable_type t

abbrev pub of_object_class : ObjectClass → Object → AskedType
of_object_class class.Constant o = of_constant (type_of o.parts.subtype)
of_object_class class.Signal o = of_signal (type_of o.parts.subtype)
of_object_class class.Variable o = of_variable (variable_type o.parts.subtype)

abbrev pub of_object : Object → AskedType
of_object o = of_object_class o.«class» o

abbrev pub of_port : Iface → AskedType
of_port i = of_signal (type_of i.parts.subtype)

-- Of a generic. Types without a form of expressions, such as those of tables and vectors and all with a range, ask nothing.
abbrev pub of_plain_generic : TypeName → AskedType
of_plain_generic type.StdUlogic = asked.Level
of_plain_generic type.StdLogic = asked.Level
of_plain_generic type.X01 = asked.Level
of_plain_generic type.Boolean = asked.BooleanDefault
of_plain_generic type.Time = asked.Time
of_plain_generic (type.Delay d) = asked.Delay d
of_plain_generic type.Text = asked.Text
of_plain_generic other = asked.Nothing

abbrev pub of_generic_type : DeclaredType → AskedType
of_generic_type (Plain t) = of_plain_generic t
of_generic_type _ = asked.Nothing

abbrev pub of_generic : Iface → AskedType
of_generic i = of_generic_type (type_of i.parts.subtype)
