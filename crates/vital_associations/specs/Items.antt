-- Items of a port map (IEEE 1076-1993, 4.3.2.2).
use Rattle.std.specs.Prelude.{ℕ, ◌+◌, Bool, true, false, List, [], ◌∷◌, Option, Some, None, if◌then◌else◌}
use Rattle.std.specs.Option.{option_and_then}
use Rattle.vital_nodes.specs.declared.expr.Actual.TheOpen.{Actual-F, Choice-F, Expr-F, Item-F}
use Rattle.vital_nodes.specs.declared.expr.Actual.TheViews.{out-Actual, out-Choice, out-Expr, out-Item}
use Rattle.vital_nodes.specs.declared.expr.Choice.{Choice}
use Rattle.vital_nodes.specs.declared.expr.Expr.{Expr}
use Rattle.vital_nodes.specs.declared.expr.Item.{Item}
use Rattle.vital_nodes.specs.declared.expr.Reference.{Reference}
use Rattle.vital_nodes.specs.Layers.{ActualLayer, ChoiceLayer, ExprLayer, ItemLayer}
use Rattle.vital_nodes.specs.Items.{formal}

-- An item comes by its position: a value, a range or `open`.
abbrev pub is_positional_in : ItemLayer → Bool
is_positional_in (Item-F.Others place e) = false
is_positional_in (Item-F.Item::Open place) = true
is_positional_in (Item-F.Positional c) = true
is_positional_in (Item-F.Named a) = false

abbrev pub is_positional : Item → Bool
is_positional i = is_positional_in (out-Item i)

-- How many items come by their positions before any other.
abbrev pub leading : List Item → ℕ
leading [] = 0
leading (i ∷ others) = if is_positional i then 1 + leading others else 0

-- The name that an expression is.
abbrev pub name_in : ExprLayer → Option Reference
name_in (Expr-F.Logical place operator operands) = None
name_in (Expr-F.Relation r) = None
name_in (Expr-F.Sum s) = None
name_in (Expr-F.Product p) = None
name_in (Expr-F.Not place operand) = None
name_in (Expr-F.Number place number) = None
name_in (Expr-F.Physical physical) = None
name_in (Expr-F.Character place character) = None
name_in (Expr-F.StringLiteral place text) = None
name_in (Expr-F.Reference name) = Some name
name_in (Expr-F.Parenthesized place is) = None

abbrev pub name_of : Expr → Option Reference
name_of e = name_in (out-Expr e)

abbrev pub name_in_choice : ChoiceLayer → Option Reference
name_in_choice (Choice-F.Choice::Value e) = name_of e
name_in_choice (Choice-F.Range r) = None

abbrev pub name_of_choice : Choice → Option Reference
name_of_choice c = name_in_choice (out-Choice c)

-- The name that the formal before `=>` is.
abbrev pub formal_name : Item → Option Reference
formal_name i = option_and_then name_of_choice (formal i)

abbrev pub is_open_actual : ActualLayer → Bool
is_open_actual (Actual-F.Actual::Value e) = false
is_open_actual (Actual-F.Actual::Open place) = true

-- `open` is given.
abbrev pub is_open_in : ItemLayer → Bool
is_open_in (Item-F.Others place e) = false
is_open_in (Item-F.Item::Open place) = true
is_open_in (Item-F.Positional c) = false
is_open_in (Item-F.Named a) = is_open_actual (out-Actual a.actual)

abbrev pub is_open : Item → Bool
is_open i = is_open_in (out-Item i)
