-- Constants and variables by their types, and the values that their trees give.
use Rattle.std.proofs.Common.{◌≡◌, true, false, [], Option, Some, None, refl}
use Rattle.std.specs.Prelude.{IsSome}
use Rattle.std.specs.Option.{option_and_then, option_map, option_map_or}
use Rattle.vital_declarations.specs.declared.declared_type.TableType.TheVariants as table
use Rattle.vital_declarations.specs.Operands.{is_level as is_level_type}
use Rattle.vital_declarations.specs.Types.{DeclaredType, Plain, Vector, Table, Other, type_of}
use Rattle.vital_expr.specs.Readings.{Context, delay_of, level_of, time_of}
use Rattle.vital_names.specs.declared.predeclared.TypeName.{TypeName}
use Rattle.vital_names.specs.declared.predeclared.TypeName.TheVariants as type
use Rattle.vital_nodes.specs.declared.decl.Object.{Object}
use Rattle.vital_nodes.specs.declared.decl.ObjectClass.TheVariants as class
use Rattle.vital_nodes.specs.declared.expr.Expr.{Expr}
use Rattle.vital_objects.specs.Constants.{value_in}
use Rattle.vital_operands.specs.declared.tree.DelayExpr.{DelayExpr}
use Rattle.vital_operands.specs.declared.tree.LevelExpr.{LevelExpr}
use Rattle.vital_operands.specs.declared.tree.TimeExpr.{TimeExpr}
use Rattle.vital_operands.specs.Named.{is_delay as is_delay_type, is_table_type, is_time as is_time_type, same_type}
use Rattle.vital_timing.specs.declared.delay.DelayType.{DelayType}
use Rattle.vital_typed_declarations.specs.declared.asked_type.AskedType.{AskedType}
use Rattle.vital_typed_declarations.specs.declared.asked_type.AskedType.TheVariants as asked
use Rattle.vital_typed_declarations.specs.declared.value.TypedValue.TheVariants as value
use Rattle.vital_typed_declarations.specs.Asked.{of_constant}
use Rattle.vital_typed_cells.specs.Told.{IsTold}
use Rattle.vital_typed_cells.specs.Named.{is_delay, is_level, is_time}
use Rattle.vital_typed_cells.proofs.Constants.{GivesValue, IsConstantOf}

-- ---- the types of constants

-- What is asked of a constant of a type, which is no table.
pub record AsksFor (a : AskedType) (t : DeclaredType) : Type 0 where
  pub asked_is : of_constant t ≡ a
  pub no_truth : is_table_type table.Truth t ≡ false
  pub no_state : is_table_type table.State t ≡ false

level-plain : (n : TypeName) → is_level_type (Plain n) ≡ true → AsksFor asked.Level (Plain n)
level-plain type.StdUlogic is = record { asked_is = refl; no_truth = refl; no_state = refl }
level-plain type.StdLogic is = record { asked_is = refl; no_truth = refl; no_state = refl }
level-plain type.StdLogicVector is = cc
level-plain type.X01 is = cc
level-plain type.X01Z is = cc
level-plain type.Ux01 is = cc
level-plain type.Ux01Z is = cc
level-plain type.Boolean is = cc
level-plain type.Text is = cc
level-plain type.Time is = cc
level-plain (type.Delay e) is = cc
level-plain type.TableSymbol is = cc
level-plain type.TruthTable is = cc
level-plain type.StateTable is = cc
level-plain type.GlitchData is = cc
level-plain type.TimingData is = cc
level-plain type.PeriodData is = cc

pub level-asked : (t : DeclaredType) → is_level_type t ≡ true → AsksFor asked.Level t
level-asked (Plain n) is = level-plain n is
level-asked (Vector r) is = cc
level-asked (Table t rows columns) is = cc
level-asked Other is = cc

time-plain : (n : TypeName) → is_time_type (Plain n) ≡ true → AsksFor asked.Time (Plain n)
time-plain type.StdUlogic is = cc
time-plain type.StdLogic is = cc
time-plain type.StdLogicVector is = cc
time-plain type.X01 is = cc
time-plain type.X01Z is = cc
time-plain type.Ux01 is = cc
time-plain type.Ux01Z is = cc
time-plain type.Boolean is = cc
time-plain type.Text is = cc
time-plain type.Time is = record { asked_is = refl; no_truth = refl; no_state = refl }
time-plain (type.Delay e) is = cc
time-plain type.TableSymbol is = cc
time-plain type.TruthTable is = cc
time-plain type.StateTable is = cc
time-plain type.GlitchData is = cc
time-plain type.TimingData is = cc
time-plain type.PeriodData is = cc

pub time-asked : (t : DeclaredType) → is_time_type t ≡ true → AsksFor asked.Time t
time-asked (Plain n) is = time-plain n is
time-asked (Vector r) is = cc
time-asked (Table t rows columns) is = cc
time-asked Other is = cc

-- A delay of a type is asked as one of a type that is the same.
pub record AsksDelay (d : DelayType) (t : DeclaredType) : Type 0 where
  pub asked_type : DelayType
  pub same : same_type d asked_type ≡ true
  pub asks : AsksFor (asked.Delay asked_type) t

delay-plain : (d : DelayType) (n : TypeName) → is_delay_type d (Plain n) ≡ true → AsksDelay d (Plain n)
delay-plain d type.StdUlogic is = cc
delay-plain d type.StdLogic is = cc
delay-plain d type.StdLogicVector is = cc
delay-plain d type.X01 is = cc
delay-plain d type.X01Z is = cc
delay-plain d type.Ux01 is = cc
delay-plain d type.Ux01Z is = cc
delay-plain d type.Boolean is = cc
delay-plain d type.Text is = cc
delay-plain d type.Time is = cc
delay-plain d (type.Delay e) is = record { asked_type = e; same = is; asks = record { asked_is = refl; no_truth = refl; no_state = refl } }
delay-plain d type.TableSymbol is = cc
delay-plain d type.TruthTable is = cc
delay-plain d type.StateTable is = cc
delay-plain d type.GlitchData is = cc
delay-plain d type.TimingData is = cc
delay-plain d type.PeriodData is = cc

pub delay-asked : (d : DelayType) (t : DeclaredType) → is_delay_type d t ≡ true → AsksDelay d t
delay-asked d (Plain n) is = delay-plain d n is
delay-asked d (Vector r) is = cc
delay-asked d (Table t rows columns) is = cc
delay-asked d Other is = cc

pub constant-asks : (a : AskedType) (o : Object) → o.«class» ≡ class.Constant → AsksFor a (type_of o.parts.subtype) → IsConstantOf a o
constant-asks a o is asks = record { class_is = is; asked_is = asks.asked_is; no_truth = asks.no_truth; no_state = asks.no_state }

-- ---- the values that trees give

-- That outcomes of expressions without faults are told.
pub record AllTold : Type 0 where
  pub levels : (c : Context) (e : Expr) → c.faults ≡ [] → IsTold (level_of c e)
  pub times : (c : Context) (e : Expr) → c.faults ≡ [] → IsTold (time_of c e)
  pub delays : (c : Context) (d : DelayType) (e : Expr) → c.faults ≡ [] → IsTold (delay_of c d e)

level-kept : (o : Option LevelExpr) → IsSome o → option_map_or is_level (option_and_then (value_in asked.Level) (option_map (λ t. value.Level t) o)) false ≡ true
level-kept None there = cc
level-kept (Some t) there = refl

pub levels-given : AllTold → GivesValue asked.Level is_level
levels-given told = λ c e none judged. level-kept (level_of c e).tree (told.levels c e none judged)

time-kept : (o : Option TimeExpr) → IsSome o → option_map_or is_time (option_and_then (value_in asked.Time) (option_map (λ t. value.Time t) o)) false ≡ true
time-kept None there = cc
time-kept (Some t) there = refl

pub times-given : AllTold → GivesValue asked.Time is_time
times-given told = λ c e none judged. time-kept (time_of c e).tree (told.times c e none judged)

delay-kept : (d k : DelayType) (o : Option DelayExpr) → same_type d k ≡ true → IsSome o → option_map_or (is_delay d) (option_and_then (value_in (asked.Delay k)) (option_map (λ t. value.Delay t) o)) false ≡ true
delay-kept d k None same there = cc
delay-kept d k (Some t) same there = same

pub delays-given : (d k : DelayType) → same_type d k ≡ true → AllTold → GivesValue (asked.Delay k) (is_delay d)
delays-given d k same told = λ c e none judged. delay-kept d k (delay_of c k e).tree same (told.delays c k e none judged)
