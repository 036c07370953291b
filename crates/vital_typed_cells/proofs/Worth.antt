-- What the value of a constant of a package is worth, where it breaks no clause and those that it names are worth values of their types.
use Rattle.std.proofs.Common.{◌≡◌, ℕ, Bool, true, false, List, [], Option, Some, None, refl, ap, ◌∙◌, subst}
use Rattle.std.specs.Prelude.{◌&&◌, ◌||◌, cond, IfSome, IsSome}
use Rattle.std.specs.Option.{option_and_then, option_map, option_map_or}
use Rattle.vital_declaration_clauses.specs.GoodConstants.{is_good_constant, is_good_value}
use Rattle.vital_declaration_clauses.specs.Scopes as scopes
use Rattle.vital_declarations.specs.declared.declared_type.TableType.TheVariants as table
use Rattle.vital_declarations.specs.Operands.{is_level as is_level_type}
use Rattle.vital_declarations.specs.Types.{DeclaredType, Plain, Vector, Table, Other, type_of}
use Rattle.vital_expr.specs.Readings.{Context, boolean_of, delay_of, level_of, time_of, worth as worth_of}
use Rattle.vital_names.specs.declared.predeclared.TypeName.{TypeName}
use Rattle.vital_names.specs.declared.predeclared.TypeName.TheVariants as type
use Rattle.vital_nodes.specs.declared.decl.Object.{Object}
use Rattle.vital_nodes.specs.declared.decl.ObjectClass.TheVariants as class
use Rattle.vital_nodes.specs.declared.expr.Expr.{Expr}
use Rattle.vital_nodes.specs.declared.unit.Units.{Units}
use Rattle.vital_nodes.specs.Nodes.{Expression}
use Rattle.vital_objects.specs.declared.package_value.PackageValue.{PackageValue}
use Rattle.vital_objects.specs.declared.package_value.PackageValue.TheVariants as worth
use Rattle.vital_objects.specs.PackageValues.{at_package, delay_in, known_delay, known_time, known_value, rows_in, time_in, value_at}
use Rattle.vital_operands.specs.declared.tree.BooleanExpr.{BooleanExpr}
use Rattle.vital_operands.specs.declared.tree.ConstantName.TheVariants as constant
use Rattle.vital_operands.specs.declared.tree.DelayExpr.{DelayExpr}
use Rattle.vital_operands.specs.declared.tree.DelayExpr.TheVariants as delays
use Rattle.vital_operands.specs.declared.tree.LevelExpr.{LevelExpr}
use Rattle.vital_operands.specs.declared.tree.TimeExpr.{TimeExpr}
use Rattle.vital_operands.specs.declared.tree.TimeExpr.TheVariants as time
use Rattle.vital_operands.specs.Named.{is_delay as is_delay_type, is_table_type, is_time as is_time_type, same_type}
use Rattle.vital_timing.specs.declared.delay.DelayType.{DelayType}
use Rattle.vital_timing.specs.declared.delay.DelayType.TheVariants.{One, Two, Six}
use Rattle.vital_typed_declarations.specs.declared.asked_type.AskedType.{AskedType}
use Rattle.vital_typed_declarations.specs.declared.asked_type.AskedType.TheVariants as asked
use Rattle.vital_typed_declarations.specs.declared.value.TypedValue.TheVariants as value
use Rattle.vital_typed_declarations.specs.Asked.{of_object, of_object_class}
use Rattle.vital_typed_declarations.specs.Declarations.{object_value}
use Rattle.vital_typed_declarations.specs.Values.{is_boolean_type, value_as, value_if_given}
use Rattle.vital_nodes.specs.Objects.{is_constant}
use Rattle.vital_typed_cells.specs.ExprScopes.{Scope}
use Rattle.vital_typed_cells.proofs.Readings.{SoundDelay, SoundReading, SoundTime}
use Rattle.vital_typed_cells.proofs.ToldNodes.{expression-told}
use Rattle.vital_typed_cells.specs.Named.{is_package_delay, is_package_level, is_package_time, is_package_truth}
use Rattle.vital_typed_cells.specs.Scopes.{of_packages, scope_of}
use Rattle.vital_typed_cells.proofs.ValueTrees.{AsksDelay, AsksFor, delay-asked, level-asked, time-asked}

-- ---- values of types

-- A value is of a type, where that is one of expressions.
pub record IsWorth (t : DeclaredType) (v : Option PackageValue) : Type 0 where
  pub levels : is_level_type t ≡ true → option_map_or is_package_level v false ≡ true
  pub booleans : is_boolean_type t ≡ true → option_map_or is_package_truth v false ≡ true
  pub times : is_time_type t ≡ true → option_map_or is_package_time v false ≡ true
  pub delays : (d : DelayType) → is_delay_type d t ≡ true → option_map_or (is_package_delay d) v false ≡ true

-- A scope in which nothing but constants of packages is seen, and of which it is not asked how tables are parted.
abbrev pub known_scope : List (Option PackageValue) → Scope
known_scope known = record (scope_of (of_packages known)) { has_table = λ name inputs results. true }

-- ---- what trees are worth

level-worth : (known : List (Option PackageValue)) (o : Option LevelExpr) → IsSome o → option_map_or is_package_level (option_and_then (known_value known) (option_map (λ t. value.Level t) o)) false ≡ true
level-worth known None there = cc
level-worth known (Some t) there = refl

boolean-worth : (known : List (Option PackageValue)) (o : Option BooleanExpr) → IsSome o → option_map_or is_package_truth (option_and_then (known_value known) (option_map (λ t. value.Boolean t) o)) false ≡ true
boolean-worth known None there = cc
boolean-worth known (Some t) there = refl

constant-time : (v : Option PackageValue) → option_map_or is_package_time v false ≡ true → option_map_or is_package_time (option_map (λ t. worth.Time t) (option_and_then time_in v)) false ≡ true
constant-time None is = is
constant-time (Some (worth.Level t)) is = is
constant-time (Some (worth.Boolean b)) is = is
constant-time (Some (worth.Time t)) is = is
constant-time (Some (worth.Delay d)) is = is
constant-time (Some (worth.Table rows)) is = is

pub known-time : (known : List (Option PackageValue)) (t : TimeExpr) → SoundTime (known_scope known) t → option_map_or is_package_time (option_map (λ u. worth.Time u) (known_time known t)) false ≡ true
known-time known (time.Literal t) sound = sound
known-time known (time.Generic name) sound = sound
known-time known (time.Constant (constant.Cell name)) sound = sound
known-time known (time.Constant (constant.Package n)) sound = constant-time (value_at known n) sound

time-worth : (known : List (Option PackageValue)) (o : Option TimeExpr) → IsSome o → IfSome o (SoundTime (known_scope known)) → option_map_or is_package_time (option_and_then (known_value known) (option_map (λ t. value.Time t) o)) false ≡ true
time-worth known None there sound = cc
time-worth known (Some t) there sound = known-time known t sound

constant-delay : (d : DelayType) (v : Option PackageValue) → option_map_or (is_package_delay d) v false ≡ true → option_map_or (is_package_delay d) (option_map (λ t. worth.Delay t) (option_and_then delay_in v)) false ≡ true
constant-delay d None is = is
constant-delay d (Some (worth.Level t)) is = is
constant-delay d (Some (worth.Boolean b)) is = is
constant-delay d (Some (worth.Time t)) is = is
constant-delay d (Some (worth.Delay t)) is = is
constant-delay d (Some (worth.Table rows)) is = is

pub known-delay : (known : List (Option PackageValue)) (d : DelayType) (t : DelayExpr) → SoundDelay (known_scope known) d t → option_map_or (is_package_delay d) (option_map (λ u. worth.Delay u) (known_delay known t)) false ≡ true
known-delay known d (delays.Literal t) sound = sound
known-delay known d (delays.Generic name) sound = sound
known-delay known d (delays.Constant (constant.Cell name)) sound = sound
known-delay known d (delays.Constant (constant.Package n)) sound = constant-delay d (value_at known n) sound

delay-worth : (known : List (Option PackageValue)) (d : DelayType) (o : Option DelayExpr) → IsSome o → IfSome o (SoundDelay (known_scope known) d)
    → option_map_or (is_package_delay d) (option_and_then (known_value known) (option_map (λ t. value.Delay t) o)) false ≡ true
delay-worth known d None there sound = cc
delay-worth known d (Some t) there sound = known-delay known d t sound

-- ---- values of constants

-- A test holds of what an expression of a type is worth that breaks no clause, and in which all names are worth what is asked.
abbrev GivesWorth : List (Option PackageValue) → AskedType → (PackageValue → Bool) → Type 0
GivesWorth known a test = (c : Context) (e : Expr) → c.faults ≡ [] → SoundReading (known_scope known) (worth_of c (Expression e)) → (value_as c a e).places ≡ []
    → option_map_or test (option_and_then (known_value known) (value_as c a e).tree) false ≡ true

gives-level : (known : List (Option PackageValue)) → GivesWorth known asked.Level is_package_level
gives-level known = λ c e none sound judged. level-worth known (level_of c e).tree ((expression-told c e none).level judged)

gives-boolean : (known : List (Option PackageValue)) → GivesWorth known asked.Boolean is_package_truth
gives-boolean known = λ c e none sound judged. boolean-worth known (boolean_of c e).tree ((expression-told c e none).boolean judged)

gives-time : (known : List (Option PackageValue)) → GivesWorth known asked.Time is_package_time
gives-time known = λ c e none sound judged. time-worth known (time_of c e).tree ((expression-told c e none).time judged) sound.time

gives-delay : (known : List (Option PackageValue)) (d : DelayType) → GivesWorth known (asked.Delay d) (is_package_delay d)
gives-delay known d = λ c e none sound judged. delay-worth known d (delay_of c d e).tree ((expression-told c e none).delay d judged) (sound.delay d)

-- What is asked of the value of a constant of a package: it breaks no clause, and all names in it are worth what is asked.
pub record IsWell (files : List Units) (known : List (Option PackageValue)) (n : ℕ) (o : Object) : Type 0 where
  pub class_is : o.«class» ≡ class.Constant
  pub good : is_good_constant (scopes.InPackage files n) o ≡ true
  pub judged : (object_value (at_package files n) o).places ≡ []
  pub sound : IfSome o.parts.value (λ e. SoundReading (known_scope known) (worth_of (at_package files n) (Expression e)))

neither : (b s t : Bool) → s ≡ false → t ≡ false → ((b && s) || (b && t)) ≡ false
neither true s t first second = ap (λ x. x || t) first ∙ second
neither false s t first second = refl

value-worth : (files : List Units) (known : List (Option PackageValue)) (n : ℕ) (a : AskedType) (test : PackageValue → Bool) (t : DeclaredType) (v : Option Expr) → GivesWorth known a test
    → option_map_or (is_good_value (scopes.InPackage files n) t) v false ≡ true → (value_if_given (at_package files n) a v).places ≡ []
    → IfSome v (λ e. SoundReading (known_scope known) (worth_of (at_package files n) (Expression e)))
    → option_map_or test (option_and_then (known_value known) (value_if_given (at_package files n) a v).tree) false ≡ true
value-worth files known n a test t None gives good judged sound = cc
value-worth files known n a test t (Some e) gives good judged sound = gives (at_package files n) e refl sound judged

-- The value of an object that is a table or not.
abbrev tested : (PackageValue → Bool) → List Units → List (Option PackageValue) → ℕ → Object → Bool → AskedType → Bool
tested test files known n o is_table' a =
    option_map_or test
    (cond is_table' (option_map (λ rows. worth.Table rows) (rows_in (scopes.InPackage files n) o)) (option_and_then (known_value known) (value_if_given (at_package files n) a o.parts.value).tree)) false

asked-constant : (a : AskedType) (o : Object) → o.«class» ≡ class.Constant → AsksFor a (type_of o.parts.subtype) → of_object o ≡ a
asked-constant a o is asks = ap (λ k. of_object_class k o) is ∙ asks.asked_is

-- The value of a constant of which a type is asked.
abbrev pub next_at : List Units → List (Option PackageValue) → ℕ → Object → Option PackageValue
next_at files known n o =
    cond (is_constant o && is_table_type table.Truth (type_of o.parts.subtype) || is_constant o && is_table_type table.State (type_of o.parts.subtype))
    (option_map (λ rows. worth.Table rows) (rows_in (scopes.InPackage files n) o)) (option_and_then (known_value known) (object_value (at_package files n) o).tree)

asked-worth : (files : List Units) (known : List (Option PackageValue)) (n : ℕ) (o : Object) (a : AskedType) (test : PackageValue → Bool) → GivesWorth known a test → IsWell files known n o → AsksFor a (type_of o.parts.subtype)
    → option_map_or test (next_at files known n o) false ≡ true
asked-worth files known n o a test gives well asks =
    ap (λ b. tested test files known n o b (of_object o)) (neither (is_constant o) (is_table_type table.Truth (type_of o.parts.subtype)) (is_table_type table.State (type_of o.parts.subtype)) asks.no_truth asks.no_state)
    ∙ ap (tested test files known n o false) (asked-constant a o well.class_is asks)
    ∙ value-worth files known n a test (type_of o.parts.subtype) o.parts.value gives well.good
    (subst (λ b. (value_if_given (at_package files n) b o.parts.value).places ≡ []) (asked-constant a o well.class_is asks) well.judged) well.sound

truth-plain : (n : TypeName) → is_boolean_type (Plain n) ≡ true → AsksFor asked.Boolean (Plain n)
truth-plain type.StdUlogic is = cc
truth-plain type.StdLogic is = cc
truth-plain type.StdLogicVector is = cc
truth-plain type.X01 is = cc
truth-plain type.X01Z is = cc
truth-plain type.Ux01 is = cc
truth-plain type.Ux01Z is = cc
truth-plain type.Boolean is = record { asked_is = refl; no_truth = refl; no_state = refl }
truth-plain type.Text is = cc
truth-plain type.Time is = cc
truth-plain (type.Delay e) is = cc
truth-plain type.TableSymbol is = cc
truth-plain type.TruthTable is = cc
truth-plain type.StateTable is = cc
truth-plain type.GlitchData is = cc
truth-plain type.TimingData is = cc
truth-plain type.PeriodData is = cc

truth-asked : (t : DeclaredType) → is_boolean_type t ≡ true → AsksFor asked.Boolean t
truth-asked (Plain n) is = truth-plain n is
truth-asked (Vector r) is = cc
truth-asked (Table t rows columns) is = cc
truth-asked Other is = cc

same-both : (d e : DelayType) (v : Option PackageValue) → same_type d e ≡ true → option_map_or (is_package_delay e) v false ≡ true → option_map_or (is_package_delay d) v false ≡ true
same-both One One v same is = is
same-both One Two v same is = cc
same-both One Six v same is = cc
same-both Two One v same is = cc
same-both Two Two v same is = is
same-both Two Six v same is = cc
same-both Six One v same is = cc
same-both Six Two v same is = cc
same-both Six Six v same is = is

delay-of-type : (files : List Units) (known : List (Option PackageValue)) (n : ℕ) (o : Object) (d : DelayType) → IsWell files known n o → AsksDelay d (type_of o.parts.subtype) → option_map_or (is_package_delay d) (next_at files known n o) false ≡ true
delay-of-type files known n o d well asks =
    same-both d asks.asked_type (next_at files known n o) asks.same (asked-worth files known n o (asked.Delay asks.asked_type) (is_package_delay asks.asked_type) (gives-delay known asks.asked_type) well asks.asks)

pub well-worth : (files : List Units) (known : List (Option PackageValue)) (n : ℕ) (o : Object) → IsWell files known n o → IsWorth (type_of o.parts.subtype) (next_at files known n o)
well-worth files known n o well = record {
  levels = λ is. asked-worth files known n o asked.Level is_package_level (gives-level known) well (level-asked (type_of o.parts.subtype) is);
  booleans = λ is. asked-worth files known n o asked.Boolean is_package_truth (gives-boolean known) well (truth-asked (type_of o.parts.subtype) is);
  times = λ is. asked-worth files known n o asked.Time is_package_time (gives-time known) well (time-asked (type_of o.parts.subtype) is);
  delays = λ d is. delay-of-type files known n o d well (delay-asked d (type_of o.parts.subtype) is);
}
