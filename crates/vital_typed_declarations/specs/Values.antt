-- Values and defaults of the types that are asked of them.
use Rattle.std.specs.Prelude.{ℕ, Bool, true, false, Option, Some, None, if◌then◌else◌}
use Rattle.std.specs.Option.{option_and_then}
use Rattle.vital_declarations.specs.Types.{DeclaredType, Plain, type_of}
use Rattle.vital_expr.specs.Outcomes.{Outcome, map_typed, typed}
use Rattle.vital_expr.specs.Readings.{Context, boolean_of, delay_of, level_of, text_of, time_of, vector_of}
use Rattle.vital_level0.specs.declared.default_words.DefaultWord.{DefaultWord}
use Rattle.vital_level0.specs.declared.default_words.DefaultWord.TheVariants as word
use Rattle.vital_names.specs.declared.predeclared.TypeName.TheVariants as type
use Rattle.vital_nodes.specs.declared.expr.Expr.{Expr}
use Rattle.vital_operands.specs.declared.tree.BooleanExpr.TheVariants as truth
use Rattle.vital_operands.specs.declared.tree.DelayExpr.TheVariants as delay
use Rattle.vital_operands.specs.Named.{even_delay}
use Rattle.vital_operands.specs.Positions.{Position, Standing, Operand, Constant, Word, Nothing, standing}
use Rattle.vital_nodes.specs.Names.{identifier_of}
use Rattle.vital_typed_declarations.specs.declared.asked_type.AskedType.{AskedType}
use Rattle.vital_typed_declarations.specs.declared.asked_type.AskedType.TheVariants as asked
use Rattle.vital_typed_declarations.specs.declared.value.TypedValue.{TypedValue}
use Rattle.vital_typed_declarations.specs.declared.value.TypedValue.TheVariants as value

-- ---- Booleans of packages

abbrev pub is_boolean_type : DeclaredType → Bool
is_boolean_type (Plain type.Boolean) = true
is_boolean_type _ = false

abbrev pub boolean_constant_in : Standing → Option ℕ
boolean_constant_in (Operand k) = None
boolean_constant_in (Constant n o) = if is_boolean_type (type_of o.parts.subtype) then Some n else None
boolean_constant_in (Word w) = None
boolean_constant_in Nothing = None

-- The constant of type BOOLEAN of a package that an expression names, by its number.
abbrev pub boolean_constant : Position → Expr → Option ℕ
boolean_constant p e = option_and_then (λ i. boolean_constant_in (standing p i)) (identifier_of e)

-- The default of a generic of type BOOLEAN may be such a constant, which is no operand anywhere else.
abbrev pub boolean_default_by : Context → Expr → Option ℕ → Outcome TypedValue
boolean_default_by c e (Some n) = typed (value.PackageBoolean n)
boolean_default_by c e None = map_typed (λ b. value.Boolean b) (boolean_of c e)

-- ---- words of Level 0

-- What a word is that Level 0 gives as a default for its type.
abbrev pub value_of_word : DefaultWord → TypedValue
value_of_word (word.Boolean b) = value.Boolean (truth.Literal b)
value_of_word (word.ZeroDelay d) = value.Delay (delay.Literal (even_delay d 0))

-- ---- values

-- A value of the type that is asked.
abbrev pub value_as : Context → AskedType → Expr → Outcome TypedValue
value_as c asked.Level e = map_typed (λ t. value.Level t) (level_of c e)
value_as c (asked.Vector n) e = map_typed (λ v. value.Vector v) (vector_of c (Some n) e)
value_as c asked.Boolean e = map_typed (λ b. value.Boolean b) (boolean_of c e)
value_as c asked.BooleanDefault e = boolean_default_by c e (boolean_constant c.position e)
value_as c asked.Time e = map_typed (λ t. value.Time t) (time_of c e)
value_as c (asked.Delay d) e = map_typed (λ t. value.Delay t) (delay_of c d e)
value_as c asked.Text e = map_typed (λ t. value.Text) (text_of c e)
value_as c asked.Nothing e = typed value.Untyped

-- A value that may be left out.
abbrev pub value_if_given : Context → AskedType → Option Expr → Outcome TypedValue
value_if_given c t None = typed value.Missing
value_if_given c t (Some e) = value_as c t e
