-- Items and their parts: a formal or a choice, and an actual or a value.
use Rattle.std.specs.Prelude.{List, Option, Some, None}
use Rattle.vital_nodes.specs.declared.expr.Actual.TheOpen.{Actual-F, Choice-F, Expr-F, Item-F}
use Rattle.vital_nodes.specs.declared.expr.Actual.TheViews.{out-Actual, out-Choice, out-Expr, out-Item}
use Rattle.vital_nodes.specs.declared.expr.Choice.{Choice}
use Rattle.vital_nodes.specs.declared.expr.Expr.{Expr}
use Rattle.vital_nodes.specs.declared.expr.Item.{Item}
use Rattle.vital_nodes.specs.Layers.{ActualLayer, ChoiceLayer, ExprLayer, ItemLayer}

-- What stands before `=>`, but for `others`.
abbrev pub formal_in : ItemLayer → Option Choice
formal_in (Item-F.Others place e) = None
formal_in (Item-F.Item::Open place) = None
formal_in (Item-F.Positional c) = None
formal_in (Item-F.Named a) = Some a.formal

abbrev pub formal : Item → Option Choice
formal i = formal_in (out-Item i)

abbrev pub value_in_choice : ChoiceLayer → Option Expr
value_in_choice (Choice-F.Choice::Value e) = Some e
value_in_choice (Choice-F.Range r) = None

abbrev pub value_in_actual : ActualLayer → Option Expr
value_in_actual (Actual-F.Actual::Value e) = Some e
value_in_actual (Actual-F.Actual::Open place) = None

-- The expression that is given. There is none where the item is `open` or a range.
abbrev pub actual_in : ItemLayer → Option Expr
actual_in (Item-F.Others place e) = Some e
actual_in (Item-F.Item::Open place) = None
actual_in (Item-F.Positional c) = value_in_choice (out-Choice c)
actual_in (Item-F.Named a) = value_in_actual (out-Actual a.actual)

abbrev pub actual : Item → Option Expr
actual i = actual_in (out-Item i)

-- The value of an item by position.
abbrev pub positional_in : ItemLayer → Option Expr
positional_in (Item-F.Others place e) = None
positional_in (Item-F.Item::Open place) = None
positional_in (Item-F.Positional c) = value_in_choice (out-Choice c)
positional_in (Item-F.Named a) = None

abbrev pub positional_value : Item → Option Expr
positional_value i = positional_in (out-Item i)

-- The items of a list in parentheses.
abbrev pub items_in_expr : ExprLayer → Option (List Item)
items_in_expr (Expr-F.Logical place operator operands) = None
items_in_expr (Expr-F.Relation r) = None
items_in_expr (Expr-F.Sum s) = None
items_in_expr (Expr-F.Product p) = None
items_in_expr (Expr-F.Not place operand) = None
items_in_expr (Expr-F.Number place number) = None
items_in_expr (Expr-F.Physical physical) = None
items_in_expr (Expr-F.Character place character) = None
items_in_expr (Expr-F.StringLiteral place text) = None
items_in_expr (Expr-F.Reference name) = None
items_in_expr (Expr-F.Parenthesized place is) = Some is

abbrev pub listed_items : Expr → Option (List Item)
listed_items e = items_in_expr (out-Expr e)
