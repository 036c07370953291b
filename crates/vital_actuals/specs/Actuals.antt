-- What an actual is where its formal asks a form of it, and where it is not of that form.
use Rattle.std.specs.Prelude.{Bool, true, false, not, ◌==◌, Option, Some, None, if◌then◌else◌}
use Rattle.std.specs.Option.{option_and_then}
use Rattle.vital_actuals.specs.declared.actual.Actual.{Actual}
use Rattle.vital_actuals.specs.declared.actual.Actual.TheVariants as actual
use Rattle.vital_actuals.specs.declared.target.Target.{Target}
use Rattle.vital_base.specs.declared.place.Place.{Place}
use Rattle.vital_calls.specs.declared.actual_form.ActualForm.{ActualForm}
use Rattle.vital_calls.specs.declared.actual_form.ActualForm.TheVariants as form
use Rattle.vital_expr.specs.Outcomes.{Outcome, and_then, broken, map_typed, or_broken, typed}
use Rattle.vital_expr.specs.Readings.{Context, boolean_of, breach, delay_of, level_of, text_of, time_of, vector_of}
use Rattle.vital_nodes.specs.declared.expr.Expr.{Expr}
use Rattle.vital_nodes.specs.declared.expr.Item.{Item as Item'}
use Rattle.vital_nodes.specs.declared.expr.Reference.{Reference}
use Rattle.vital_nodes.specs.declared.identifier.Identifier.{Identifier}
use Rattle.vital_nodes.specs.Nodes.{Item, Name}
use Rattle.vital_nodes.specs.declared.expr.Actual.TheOpen.{Actual-F, Item-F}
use Rattle.vital_nodes.specs.declared.expr.Actual.TheViews.{out-Actual, out-Item}
use Rattle.vital_nodes.specs.Layers.{ActualLayer, ItemLayer}
use Rattle.vital_nodes.specs.Places.{place_of_choice, place_of_expr, place_of_name}
use Rattle.vital_operands.specs.declared.tree.BooleanExpr.{BooleanExpr}
use Rattle.vital_operands.specs.declared.tree.BooleanExpr.TheOpen.{BooleanExpr-F}
use Rattle.vital_operands.specs.declared.tree.BooleanExpr.TheViews.{out-BooleanExpr}
use Rattle.vital_operands.specs.declared.tree.TimeExpr.{TimeExpr}
use Rattle.vital_operands.specs.declared.tree.TimeExpr.TheVariants as time
use Rattle.vital_operands.specs.Faults.{own_breach}
use Rattle.vital_operands.specs.Named.{state_table_named, table_named}
use Rattle.vital_statements.specs.Parentheses.{bare_identifier}
use Rattle.vital_nodes.specs.Items.{actual as actual_given}
use Rattle.vital_nodes.specs.Names.{identifier_of}
use Rattle.vital_actuals.specs.Kinds.{name_for}
use Rattle.vital_actuals.specs.Literals.{edge_symbol, mode_named, severity_named, state_count}
use Rattle.vital_actuals.specs.Paths.{paths_of}
use Rattle.vital_actuals.specs.Targets.{target_named, whole_vector, whole_target}

-- An identifier alone, without parentheses, that stands for something.
abbrev pub by_name : {A : Type 0} → (Identifier → Option A) → Context → Expr → Outcome A
by_name named c e = or_broken (breach c e) (option_and_then named (identifier_of e))

-- ---- literals that alone are allowed

abbrev pub same_truth : Bool → Bool → Bool
same_truth true b = b
same_truth false b = not b

-- One layer of a truth value.
abbrev pub BooleanLayer : Type 0
BooleanLayer = BooleanExpr-F BooleanExpr

abbrev pub is_literal_in : Bool → BooleanLayer → Bool
is_literal_in b (BooleanExpr-F.Literal x) = same_truth x b
is_literal_in b (BooleanExpr-F.Control c) = false
is_literal_in b (BooleanExpr-F.SameLevels l r) = false
is_literal_in b (BooleanExpr-F.OtherLevels l r) = false
is_literal_in b (BooleanExpr-F.Same l r) = false
is_literal_in b (BooleanExpr-F.Other l r) = false
is_literal_in b (BooleanExpr-F.Not t) = false
is_literal_in b (BooleanExpr-F.Logical o ts) = false

abbrev pub is_literal : Bool → BooleanExpr → Bool
is_literal b t = is_literal_in b (out-BooleanExpr t)

-- A truth value that is the literal itself, in parentheses or not.
abbrev pub only_boolean : Bool → Context → Expr → BooleanExpr → Outcome Actual
only_boolean b c e t = if is_literal b t then typed actual.Fixed else broken (breach c e)

abbrev pub is_zero : TimeExpr → Bool
is_zero (time.Literal t) = t == 0
is_zero other = false

abbrev pub only_zero : Context → Expr → TimeExpr → Outcome Actual
only_zero c e t = if is_zero t then typed actual.Fixed else broken (breach c e)

-- ---- actuals

-- The name of something declared that a form asks for.
abbrev pub name_as : Context → ActualForm → Expr → Outcome Actual
name_as c f e = map_typed (λ n. actual.Named n) (by_name (name_for c.position f) c e)

-- The generic of a wire delay, which is the name of a delay and so keeps its type in parentheses.
abbrev pub wire_delay_of : Context → Expr → Outcome Actual
wire_delay_of c e =
    map_typed (λ n. actual.Named n) (or_broken (breach c e) (option_and_then (name_for c.position form.WireDelay) (bare_identifier e)))

-- What an expression is as an actual of a form.
abbrev pub actual_as : Context → ActualForm → Expr → Outcome Actual
actual_as c form.Result e = map_typed (λ t. actual.Target t) (by_name (whole_target c.position) c e)
actual_as c form.PreviousData e = map_typed (λ t. actual.Target t) (by_name (whole_vector c.position) c e)
actual_as c form.TruthTable e = map_typed (λ t. actual.Table t.0 t.1) (by_name (table_named c.position) c e)
actual_as c form.StateTable e = map_typed (λ t. actual.Table t.0 t.1) (by_name (state_table_named c.position) c e)
actual_as c form.Inputs e = map_typed (λ v. actual.Inputs v) (vector_of c None e)
actual_as c form.StateCount e = map_typed (λ n. actual.StateCount n) (or_broken (breach c e) (state_count e))
actual_as c form.Level e = map_typed (λ t. actual.Level t) (level_of c e)
actual_as c (form.Delay d) e = map_typed (λ t. actual.Delay t) (delay_of c d e)
actual_as c form.Time e = map_typed (λ t. actual.Time t) (time_of c e)
actual_as c form.Boolean e = map_typed (λ t. actual.Boolean t) (boolean_of c e)
actual_as c form.Text e = map_typed (λ t. actual.Text) (text_of c e)
actual_as c form.Mode e = map_typed (λ m. actual.Mode m) (by_name (mode_named c.position) c e)
actual_as c form.Severity e = map_typed (λ s. actual.Severity s) (by_name (severity_named c.position) c e)
actual_as c form.OnlyFalse e = and_then (only_boolean false c e) (boolean_of c e)
actual_as c form.OnlyTrue e = and_then (only_boolean true c e) (boolean_of c e)
actual_as c form.OnlyZero e = and_then (only_zero c e) (time_of c e)
actual_as c form.EdgeSymbol e = map_typed (λ b. actual.EdgeSymbol b) (or_broken (breach c e) (edge_symbol e))
actual_as c form.WireDelay e = wire_delay_of c e
actual_as c (form.Paths d) e = map_typed (λ ps. actual.Paths ps) (paths_of c d e)
actual_as c f e = name_as c f e

abbrev pub place_in_actual : ActualLayer → Place
place_in_actual (Actual-F.Actual::Value e) = place_of_expr e
place_in_actual (Actual-F.Actual::Open place) = place

abbrev pub place_given_in : ItemLayer → Place
place_given_in (Item-F.Others place e) = place
place_given_in (Item-F.Item::Open place) = place
place_given_in (Item-F.Positional c) = place_of_choice c
place_given_in (Item-F.Named a) = place_in_actual (out-Actual a.actual)

-- Where what an item gives stands.
abbrev pub place_given : Item' → Place
place_given i = place_given_in (out-Item i)

-- What an item gives as an actual of a form. `open` and a range are none.
abbrev pub actual_if_given : Context → ActualForm → Item' → Option Expr → Outcome Actual
actual_if_given c f i None = broken (own_breach c.faults (place_given i) (Item i))
actual_if_given c f i (Some e) = actual_as c f e

abbrev pub actual_of : Context → ActualForm → Item' → Outcome Actual
actual_of c f i = actual_if_given c f i (actual_given i)

-- ---- targets

-- What a name is as the target of an assignment.
abbrev pub target_of : Context → Reference → Outcome Target
target_of c r = or_broken (own_breach c.faults (place_of_name r) (Name r)) (target_named c.position r)
