-- Constants, and what their values are made of.
use Rattle.std.specs.Prelude.{ℕ, Bool, true, false, List, [], ◌∷◌, length, Option, Some, None}
use Rattle.std.specs.Option.{option_and_then, option_map_or}
use Rattle.vital_nodes.specs.declared.expr.Actual.TheOpen.{Expr-F}
use Rattle.vital_nodes.specs.declared.expr.Actual.TheViews.{out-Expr}
use Rattle.vital_nodes.specs.declared.expr.Expr.{Expr}
use Rattle.vital_nodes.specs.declared.expr.Item.{Item}
use Rattle.vital_nodes.specs.Layers.{ExprLayer}
use Rattle.vital_nodes.specs.Items.{listed_items, positional_value}

-- The byte of a character literal.
abbrev pub character_in : ExprLayer → Option ℕ
character_in (Expr-F.Logical place operator operands) = None
character_in (Expr-F.Relation r) = None
character_in (Expr-F.Sum s) = None
character_in (Expr-F.Product p) = None
character_in (Expr-F.Not place operand) = None
character_in (Expr-F.Number place number) = None
character_in (Expr-F.Physical physical) = None
character_in (Expr-F.Character place character) = Some character
character_in (Expr-F.StringLiteral place text) = None
character_in (Expr-F.Reference name) = None
character_in (Expr-F.Parenthesized place is) = None

abbrev pub character : Expr → Option ℕ
character e = character_in (out-Expr e)

-- ---- tables

-- The items of a row.
abbrev pub row_items : Item → Option (List Item)
row_items i = option_and_then listed_items (positional_value i)

-- How many items the first row has.
abbrev pub columns_of : List Item → ℕ
columns_of [] = 0
columns_of (i ∷ others) = option_map_or length (row_items i) 0
