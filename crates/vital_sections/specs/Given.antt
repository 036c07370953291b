-- What the items of a call give for its formals (IEEE 1076.4), each as an actual of the form that its formal asks.
use Rattle.std.specs.Prelude.{ℕ, true, List, Option, Some, None, codes, unwrap_or}
use Rattle.std.specs.Option.{option_and_then}
use Rattle.vital_actuals.specs.declared.actual.Actual.{Actual}
use Rattle.vital_actuals.specs.declared.actual.Actual.TheVariants as actual
use Rattle.vital_actuals.specs.declared.actual.Path.{Path}
use Rattle.vital_actuals.specs.declared.target.Target.{Target}
use Rattle.vital_actuals.specs.Actuals.{actual_of}
use Rattle.vital_calls.specs.declared.actual_form.ActualForm.{ActualForm}
use Rattle.vital_calls.specs.declared.actual_form.ActualForm.TheVariants as form
use Rattle.vital_calls.specs.Formals.{Formals}
use Rattle.vital_calls.specs.Formals as all_formals
use Rattle.vital_calls.specs.Matching.{actual_of as item_for}
use Rattle.vital_expr.specs.Readings.{Context}
use Rattle.vital_expr.specs.Seen as readers
use Rattle.vital_nodes.specs.declared.expr.Item.{Item}
use Rattle.vital_operands.specs.declared.tree.BooleanExpr.{BooleanExpr}
use Rattle.vital_operands.specs.declared.tree.BooleanExpr.TheVariants as truth
use Rattle.vital_operands.specs.declared.tree.ConstantName.{ConstantName}
use Rattle.vital_operands.specs.declared.tree.DelayExpr.{DelayExpr}
use Rattle.vital_operands.specs.declared.tree.DelayExpr.TheVariants as delay
use Rattle.vital_operands.specs.declared.tree.LevelExpr.{LevelExpr}
use Rattle.vital_operands.specs.declared.tree.TimeExpr.{TimeExpr}
use Rattle.vital_operands.specs.declared.tree.TimeExpr.TheVariants as time
use Rattle.vital_operands.specs.declared.tree.VectorExpr.{VectorExpr}
use Rattle.vital_operands.specs.Named.{even_delay}
use Rattle.vital_timing.specs.declared.delay.DelayType.{DelayType}
use Rattle.vital_timing.specs.declared.glitch_mode.GlitchMode.{GlitchMode}
use Rattle.vital_timing.specs.declared.glitch_mode.GlitchMode.TheVariants as glitch
use Rattle.vital_sections.specs.declared.given.GivenCall.{GivenCall as GivenCall'}

-- A call where it stands: what its expressions are read by, the formals of what is called, and its items.
pub record GivenCall : Type 0 where
  pub context : Context
  pub formals : Formals
  pub items : List Item

-- What is borrowed of it.
abbrev pub lent : GivenCall' → GivenCall
lent k = record { context = readers.lent k.reader; formals = all_formals.lent k.formals; items = k.items.now }

-- What is given for the formal of a name, as an actual of a form. Nothing is given where no item is for that formal.
unfoldable pub given : GivenCall → List ℕ → ActualForm → Option Actual
given k name f = option_and_then (λ i. (actual_of k.context f i).tree) (item_for k.items k.formals name)

-- ---- what an actual is

abbrev pub name_in : Actual → Option (List ℕ)
name_in (actual.Named name) = Some name
name_in other = None

abbrev pub target_in : Actual → Option Target
target_in (actual.Target t) = Some t
target_in other = None

abbrev pub table_in : Actual → Option ConstantName
table_in (actual.Table table columns) = Some table
table_in other = None

abbrev pub inputs_in : Actual → Option VectorExpr
inputs_in (actual.Inputs v) = Some v
inputs_in other = None

abbrev pub count_in : Actual → Option ℕ
count_in (actual.StateCount n) = Some n
count_in other = None

abbrev pub level_in : Actual → Option LevelExpr
level_in (actual.Level t) = Some t
level_in other = None

abbrev pub delay_in : Actual → Option DelayExpr
delay_in (actual.Delay t) = Some t
delay_in other = None

abbrev pub time_in : Actual → Option TimeExpr
time_in (actual.Time t) = Some t
time_in other = None

abbrev pub truth_in : Actual → Option BooleanExpr
truth_in (actual.Boolean t) = Some t
truth_in other = None

abbrev pub mode_in : Actual → Option GlitchMode
mode_in (actual.Mode m) = Some m
mode_in other = None

abbrev pub edge_in : Actual → Option ℕ
edge_in (actual.EdgeSymbol symbol) = Some symbol
edge_in other = None

abbrev pub paths_in : Actual → Option (List Path)
paths_in (actual.Paths ps) = Some ps
paths_in other = None

-- ---- what formals are given that each call must have

abbrev pub name_given : GivenCall → List ℕ → ActualForm → Option (List ℕ)
name_given k name f = option_and_then name_in (given k name f)

abbrev pub target_given : GivenCall → List ℕ → ActualForm → Option Target
target_given k name f = option_and_then target_in (given k name f)

abbrev pub result_given : GivenCall → Option Target
result_given k = target_given k (codes "result") form.Result

abbrev pub kept_given : GivenCall → Option Target
kept_given k = target_given k (codes "previousdatain") form.PreviousData

abbrev pub table_given : GivenCall → Option ConstantName
table_given k = option_and_then table_in (given k (codes "statetable") form.StateTable)

abbrev pub inputs_given : GivenCall → Option VectorExpr
inputs_given k = option_and_then inputs_in (given k (codes "datain") form.Inputs)

abbrev pub count_given : GivenCall → Option ℕ
count_given k = option_and_then count_in (given k (codes "numstates") form.StateCount)

abbrev pub level_given : GivenCall → List ℕ → Option LevelExpr
level_given k name = option_and_then level_in (given k name form.Level)

abbrev pub edge_given : GivenCall → Option ℕ
edge_given k = option_and_then edge_in (given k (codes "reftransition") form.EdgeSymbol)

abbrev pub paths_given : GivenCall → DelayType → Option (List Path)
paths_given k d = option_and_then paths_in (given k (codes "paths") (form.Paths d))

-- ---- what formals are given that a call may leave out, or what they are then

-- TRUE.
abbrev pub truth_given : GivenCall → List ℕ → BooleanExpr
truth_given k name = unwrap_or (option_and_then truth_in (given k name form.Boolean)) (truth.Literal true)

-- 0.
abbrev pub time_given : GivenCall → List ℕ → TimeExpr
time_given k name = unwrap_or (option_and_then time_in (given k name form.Time)) (time.Literal 0)

-- 0 for every change.
abbrev pub delay_given : GivenCall → List ℕ → DelayType → DelayExpr
delay_given k name d = unwrap_or (option_and_then delay_in (given k name (form.Delay d))) (delay.Literal (even_delay d 0))

-- OnEvent.
abbrev pub mode_given : GivenCall → GlitchMode
mode_given k = unwrap_or (option_and_then mode_in (given k (codes "mode") form.Mode)) glitch.OnEvent
