-- What expressions are worth, one layer after another: what functions that go over them ensure. An expression is worth what its form
-- makes of the readings of its operands, by a law.
use Rattle.std.specs.Prelude.{ℕ, Bool, List, [], ◌∷◌, map, Option, Some, None, ⊤}
use Rattle.vital_base.specs.declared.place.Place.{Place}
use Rattle.vital_nodes.specs.declared.expr.Actual.TheOpen.{Expr-F}
use Rattle.vital_nodes.specs.declared.expr.Actual.TheViews.{out-Expr}
use Rattle.vital_nodes.specs.declared.expr.Expr.{Expr}
use Rattle.vital_nodes.specs.declared.expr.Item.{Item as Item'}
use Rattle.vital_nodes.specs.declared.expr.Reference.{Reference}
use Rattle.vital_nodes.specs.declared.expr.Sum.{Sum}
use Rattle.vital_nodes.specs.Layers.{ExprLayer}
use Rattle.vital_operands.specs.declared.tree.BooleanExpr.{BooleanExpr}
use Rattle.vital_operands.specs.declared.tree.DelayExpr.{DelayExpr}
use Rattle.vital_operands.specs.declared.tree.LevelExpr.{LevelExpr}
use Rattle.vital_operands.specs.declared.tree.TimeExpr.{TimeExpr}
use Rattle.vital_operands.specs.declared.tree.VectorExpr.{VectorExpr}
use Rattle.vital_operands.specs.Calls.{only_items}
use Rattle.vital_timing.specs.declared.delay.DelayType.{DelayType}
use Rattle.vital_nodes.specs.Items.{actual}
use Rattle.vital_expr.specs.Booleans.{boolean_in, is_boolean_in}
use Rattle.vital_expr.specs.Delays.{delay_in, literal_in, time_in}
use Rattle.vital_expr.specs.Levels.{level_in}
use Rattle.vital_expr.specs.Names.{name_in}
use Rattle.vital_expr.specs.Outcomes.{Outcome}
use Rattle.vital_expr.specs.Reading.{Reading, no_reading}
use Rattle.vital_expr.specs.Readings.{Context, breach, reading}
use Rattle.vital_expr.specs.Texts.{text_in}
use Rattle.vital_expr.specs.Vectors.{vector_in}

-- An item is worth what its value is.
abbrev pub reading_if_given : Context → Option Expr → Reading
reading_if_given c None = no_reading
reading_if_given c (Some e) = reading c e

abbrev pub item_reading : Context → Item' → Reading
item_reading c i = reading_if_given c (actual i)

abbrev pub item_readings : Context → List Item' → List Reading
item_readings c is = map (item_reading c) is

abbrev pub readings_if_there : Context → Option (List Item') → List Reading
readings_if_there c None = []
readings_if_there c (Some is) = item_readings c is

-- A name that breaks a clause at these places if it is not of its form.
abbrev pub name_reading : List Place → Context → Reference → Reading
name_reading own c r = name_in own c.position r (readings_if_there c (only_items r.suffixes)) r.suffixes

abbrev pub readings : Context → List Expr → List Reading
readings c es = map (reading c) es

-- Operands behind operators.
abbrev pub readings_behind : {A : Type 0} → Context → List (A × Expr) → List Reading
readings_behind c terms = map (λ term. reading c term.1) terms

-- The terms of a sum.
abbrev pub sum_readings : Context → Sum → List Reading
sum_readings c s = reading c s.first ∷ readings_behind c s.others

-- The readings of what an expression holds.
abbrev pub readings_in : Context → List Place → ExprLayer → List Reading
readings_in c own (Expr-F.Logical place operator operands) = readings c operands
readings_in c own (Expr-F.Relation r) = reading c r.left ∷ reading c r.right ∷ []
readings_in c own (Expr-F.Sum s) = sum_readings c s
readings_in c own (Expr-F.Product p) = reading c p.first ∷ readings_behind c p.others
readings_in c own (Expr-F.Not place operand) = reading c operand ∷ []
readings_in c own (Expr-F.Number place number) = []
readings_in c own (Expr-F.Physical physical) = []
readings_in c own (Expr-F.Character place character) = []
readings_in c own (Expr-F.StringLiteral place text) = []
readings_in c own (Expr-F.Reference name) = name_reading own c name ∷ []
readings_in c own (Expr-F.Parenthesized place is) = item_readings c is

-- What the form of an expression makes of these.
abbrev pub level_by_form : Context → Expr → Outcome LevelExpr
level_by_form c e = level_in (breach c e) (readings_in c (breach c e) (out-Expr e)) (out-Expr e)

abbrev pub vector_by_form : Context → Option ℕ → Expr → Outcome VectorExpr
vector_by_form c asked e = vector_in (breach c e) (readings_in c (breach c e) (out-Expr e)) asked (out-Expr e)

abbrev pub boolean_by_form : Context → Expr → Outcome BooleanExpr
boolean_by_form c e = boolean_in (breach c e) (readings_in c (breach c e) (out-Expr e)) (out-Expr e)

abbrev pub is_boolean_by_form : Context → Expr → Bool
is_boolean_by_form c e = is_boolean_in (readings_in c (breach c e) (out-Expr e)) (out-Expr e)

abbrev pub time_by_form : Context → Expr → Outcome TimeExpr
time_by_form c e = time_in (breach c e) (readings_in c (breach c e) (out-Expr e)) (out-Expr e)

abbrev pub delay_by_form : Context → DelayType → Expr → Outcome DelayExpr
delay_by_form c d e = delay_in (breach c e) (readings_in c (breach c e) (out-Expr e)) d (out-Expr e)

abbrev pub text_by_form : Context → Expr → Outcome ⊤
text_by_form c e = text_in (breach c e) (readings_in c (breach c e) (out-Expr e)) (out-Expr e)

abbrev pub literal_by_form : Context → Expr → Outcome ℕ
literal_by_form c e = literal_in (breach c e) (out-Expr e)
