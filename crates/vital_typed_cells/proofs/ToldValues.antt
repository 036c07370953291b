-- It is told what comes of values and defaults, where no name breaks another clause.
use Rattle.std.proofs.Common.{◌≡◌, ℕ, [], Option, Some, None, refl}
use Rattle.vital_expr.specs.Readings.{Context, boolean_of, delay_of, level_of, text_of, time_of, vector_of}
use Rattle.vital_level0.specs.declared.default_words.DefaultWord.{DefaultWord}
use Rattle.vital_level0.specs.DefaultWords.{default_word}
use Rattle.vital_nodes.specs.declared.decl.Iface.{Iface}
use Rattle.vital_nodes.specs.declared.expr.Expr.{Expr}
use Rattle.vital_typed_declarations.specs.declared.asked_type.AskedType.{AskedType}
use Rattle.vital_typed_declarations.specs.declared.asked_type.AskedType.TheVariants as asked
use Rattle.vital_typed_declarations.specs.declared.value.TypedValue.TheVariants as value
use Rattle.vital_typed_declarations.specs.Asked.{of_generic}
use Rattle.vital_typed_declarations.specs.Declarations.{generic_value, generic_value_by}
use Rattle.vital_typed_declarations.specs.Values.{boolean_constant, boolean_default_by, value_as, value_if_given}
use Rattle.vital_typed_cells.specs.Told.{IsTold}
use Rattle.vital_typed_cells.proofs.ExprTold.{told-mapped}
use Rattle.vital_typed_cells.proofs.ToldNodes.{expression-told}

default-told : (c : Context) (e : Expr) (o : Option ℕ) → c.faults ≡ [] → IsTold (boolean_default_by c e o)
default-told c e (Some n) none = λ is. refl
default-told c e None none = told-mapped (λ b. value.Boolean b) (boolean_of c e) (expression-told c e none).boolean

as-told : (c : Context) (a : AskedType) (e : Expr) → c.faults ≡ [] → IsTold (value_as c a e)
as-told c asked.Level e none = told-mapped (λ t. value.Level t) (level_of c e) (expression-told c e none).level
as-told c (asked.Vector n) e none = told-mapped (λ v. value.Vector v) (vector_of c (Some n) e) ((expression-told c e none).vector (Some n))
as-told c asked.Boolean e none = told-mapped (λ b. value.Boolean b) (boolean_of c e) (expression-told c e none).boolean
as-told c asked.BooleanDefault e none = default-told c e (boolean_constant c.position e) none
as-told c asked.Time e none = told-mapped (λ t. value.Time t) (time_of c e) (expression-told c e none).time
as-told c (asked.Delay d) e none = told-mapped (λ t. value.Delay t) (delay_of c d e) ((expression-told c e none).delay d)
as-told c asked.Text e none = told-mapped (λ t. value.Text) (text_of c e) (expression-told c e none).text
as-told c asked.Nothing e none = λ is. refl

pub value-told : (c : Context) (a : AskedType) (o : Option Expr) → c.faults ≡ [] → IsTold (value_if_given c a o)
value-told c a None none = λ is. refl
value-told c a (Some e) none = as-told c a e none

by-word : (c : Context) (i : Iface) (w : Option DefaultWord) → c.faults ≡ [] → IsTold (generic_value_by c i w)
by-word c i None none = value-told c (of_generic i) i.parts.default none
by-word c i (Some w) none = λ is. refl

pub generic-told : (c : Context) (i : Iface) → c.faults ≡ [] → IsTold (generic_value c i)
generic-told c i none = by-word c i (default_word i) none
