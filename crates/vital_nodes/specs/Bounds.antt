-- The literal bounds of subtypes.
use Rattle.std.specs.Prelude.{ℕ, List, [], ◌∷◌, Option, Some, None, Bool, not, ◌==◌, ◌-◌, length, if◌then◌else◌}
use Rattle.std.specs.List.{list_all, slice_get}
use Rattle.std.specs.Option.{option_and_then, option_map}
use Rattle.vital_nodes.specs.declared.decl.Subtype.{Subtype}
use Rattle.vital_nodes.specs.declared.expr.Actual.TheOpen.{Choice-F, Expr-F, Item-F}
use Rattle.vital_nodes.specs.declared.expr.Actual.TheViews.{out-Choice, out-Expr, out-Item}
use Rattle.vital_nodes.specs.declared.expr.Direction.{Direction}
use Rattle.vital_nodes.specs.declared.expr.Expr.{Expr}
use Rattle.vital_nodes.specs.declared.expr.Item.{Item}
use Rattle.vital_nodes.specs.declared.expr.Range.{Range}
use Rattle.vital_nodes.specs.declared.expr.Reference.{Reference}
use Rattle.vital_nodes.specs.Layers.{ChoiceLayer, ExprLayer, ItemLayer}
use Rattle.vital_nodes.specs.declared.subtype.LiteralBounds.{LiteralBounds}
use Rattle.vital_nodes.specs.Names.{items_of}

-- A left bound, a direction and a right bound; the bounds as they stand, digits and underscores.
abbrev pub Bounds : Type 0
Bounds = List ℕ × Direction × List ℕ

abbrev pub shown : LiteralBounds → Bounds
shown b = (b.left.now, b.direction, b.right.now)

-- A number has no point.
abbrev pub has_no_point : List ℕ → Bool
has_no_point number = list_all (λ b. not (b == 46)) number

-- A number without unit, point, sign and parentheses.
abbrev pub literal_in : ExprLayer → Option (List ℕ)
literal_in (Expr-F.Logical place operator operands) = None
literal_in (Expr-F.Relation r) = None
literal_in (Expr-F.Sum s) = None
literal_in (Expr-F.Product p) = None
literal_in (Expr-F.Not place operand) = None
literal_in (Expr-F.Number place number) = if has_no_point number then Some number else None
literal_in (Expr-F.Physical physical) = None
literal_in (Expr-F.Character place character) = None
literal_in (Expr-F.StringLiteral place text) = None
literal_in (Expr-F.Reference name) = None
literal_in (Expr-F.Parenthesized place is) = None

abbrev pub literal_integer : Expr → Option (List ℕ)
literal_integer e = literal_in (out-Expr e)

-- Both bounds of a range, where they are literal.
abbrev pub bounds_of_range : Range → Option Bounds
bounds_of_range r = option_and_then (λ left. option_map (λ right. (left, r.direction, right)) (literal_integer r.right)) (literal_integer r.left)

-- A range by position.
abbrev pub range_in_choice : ChoiceLayer → Option Range
range_in_choice (Choice-F.Choice::Value e) = None
range_in_choice (Choice-F.Range r) = Some r

abbrev pub range_in_item : ItemLayer → Option Range
range_in_item (Item-F.Others place e) = None
range_in_item (Item-F.Item::Open place) = None
range_in_item (Item-F.Positional c) = range_in_choice (out-Choice c)
range_in_item (Item-F.Named a) = None

abbrev pub range_of_item : Item → Option Range
range_of_item i = range_in_item (out-Item i)

-- The range that is the only item.
abbrev pub only_range : List Item → Option Range
only_range [] = None
only_range (i ∷ []) = range_of_item i
only_range (i ∷ j ∷ others) = None

-- The items in the parentheses at the end of a name.
abbrev pub items_at_end : Reference → Option (List Item)
items_at_end r = option_and_then items_of (slice_get r.suffixes (length r.suffixes - 1))

-- The literal bounds of the one range in parentheses at the end of a name.
abbrev pub bounds_of_name : Reference → Option Bounds
bounds_of_name r = option_and_then bounds_of_range (option_and_then only_range (items_at_end r))

abbrev pub bounds_without_range : Option Range → Reference → Option Bounds
bounds_without_range None r = bounds_of_name r
bounds_without_range (Some range) r = None

-- The literal bounds of a subtype that is written without `range`.
abbrev pub literal_bounds : Subtype → Option Bounds
literal_bounds s = bounds_without_range s.range s.name
