-- One value in parentheses of which a vector is asked, by the form of the value: what is in further parentheses, and a call of
-- VitalTruthTable by its results.
use Rattle.std.specs.Prelude.{ℕ, ◌==◌, List, [], ◌∷◌, Option, Some, None, if◌then◌else◌}
use Rattle.vital_base.specs.declared.place.Place.{Place}
use Rattle.vital_nodes.specs.declared.expr.Actual.TheOpen.{Expr-F}
use Rattle.vital_nodes.specs.declared.expr.Actual.TheViews.{out-Expr}
use Rattle.vital_nodes.specs.declared.expr.Expr.{Expr}
use Rattle.vital_nodes.specs.declared.expr.Item.{Item}
use Rattle.vital_nodes.specs.Layers.{ExprLayer}
use Rattle.vital_operands.specs.declared.tree.LevelExpr.TheVariants as level
use Rattle.vital_operands.specs.declared.tree.TruthTableCall.{TruthTableCall}
use Rattle.vital_operands.specs.declared.tree.VectorExpr.{VectorExpr}
use Rattle.vital_operands.specs.Calls.{only_items, table_items}
use Rattle.vital_operands.specs.Items.{is_positional}
use Rattle.vital_expr.specs.Names.{some_results, truth_table_call}
use Rattle.vital_expr.specs.Outcomes.{Outcome, after, broken}
use Rattle.vital_expr.specs.Readings.{Context, breach, reading}
use Rattle.vital_expr.specs.Steps.{item_reading, item_readings}
use Rattle.vital_expr.specs.Vectors.{list_of_levels, vector_in_item, vector_in_items, vector_of_one}

-- ---- calls of VitalTruthTable

-- A list of its result where it has one, and else its results.
abbrev pub call_by_results : List Place → List Place → Option ℕ → List Place → (TruthTableCall × ℕ) → Outcome VectorExpr
call_by_results own inner asked found c =
    if c.1 == 1 then list_of_levels own asked (level.TruthTable c.0 ∷ []) else after found (some_results inner asked c)

abbrev pub call_if_typed : List Place → List Place → Option ℕ → List Place → Option (TruthTableCall × ℕ) → Outcome VectorExpr
call_if_typed own inner asked found (Some c) = call_by_results own inner asked found c
call_if_typed own inner asked found None = broken found

abbrev pub call_alone : List Place → List Place → Option ℕ → Outcome (TruthTableCall × ℕ) → Outcome VectorExpr
call_alone own inner asked o = call_if_typed own inner asked o.places o.tree

-- The call of these items.
abbrev pub call_if_items : Context → List Place → Option (List Item) → Outcome (TruthTableCall × ℕ)
call_if_items c own (Some is) = truth_table_call own c.position is (item_readings c is)
call_if_items c own None = broken own

-- ---- the forms of the value

-- One value in the parentheses of another is as that, and what is no value by position is no level.
abbrev pub one_in_items : Context → List Place → List Place → Option ℕ → List Item → Outcome VectorExpr
one_in_items c own inner asked (i ∷ []) =
    if is_positional i then vector_of_one own asked (item_reading c i) else vector_in_item inner asked i (item_reading c i)
one_in_items c own inner asked is = vector_in_items inner asked is (item_readings c is)

-- A name with these items behind it, where it is a call of VitalTruthTable, and where it is none.
abbrev pub one_of_call : Context → List Place → Option ℕ → Expr → Option (List Item) → Option (List Item) → Outcome VectorExpr
one_of_call c own asked e o (Some is) = call_alone own (breach c e) asked (call_if_items c (breach c e) o)
one_of_call c own asked e o None = vector_of_one own asked (reading c e)

abbrev pub one_in : Context → List Place → Option ℕ → Expr → ExprLayer → Outcome VectorExpr
one_in c own asked e (Expr-F.Logical place operator operands) = vector_of_one own asked (reading c e)
one_in c own asked e (Expr-F.Relation r) = vector_of_one own asked (reading c e)
one_in c own asked e (Expr-F.Sum s) = vector_of_one own asked (reading c e)
one_in c own asked e (Expr-F.Product p) = vector_of_one own asked (reading c e)
one_in c own asked e (Expr-F.Not place operand) = vector_of_one own asked (reading c e)
one_in c own asked e (Expr-F.Number place number) = vector_of_one own asked (reading c e)
one_in c own asked e (Expr-F.Physical physical) = vector_of_one own asked (reading c e)
one_in c own asked e (Expr-F.Character place character) = vector_of_one own asked (reading c e)
one_in c own asked e (Expr-F.StringLiteral place text) = vector_of_one own asked (reading c e)
one_in c own asked e (Expr-F.Reference name) = one_of_call c own asked e (only_items name.suffixes) (table_items c.position name)
one_in c own asked e (Expr-F.Parenthesized place is) = one_in_items c own (breach c e) asked is

abbrev pub one_by_form : Context → List Place → Option ℕ → Expr → Outcome VectorExpr
one_by_form c own asked e = one_in c own asked e (out-Expr e)
