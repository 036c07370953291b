-- Expressions that give levels.
use Rattle.std.specs.Prelude.{List, [], ◌∷◌, if◌then◌else◌}
use Rattle.std.specs.Option.{option_map}
use Rattle.vital_base.specs.declared.place.Place.{Place}
use Rattle.vital_nodes.specs.declared.expr.Actual.TheOpen.{Expr-F}
use Rattle.vital_nodes.specs.declared.expr.Item.{Item}
use Rattle.vital_nodes.specs.Layers.{ExprLayer}
use Rattle.vital_operands.specs.declared.tree.LevelExpr.{LevelExpr}
use Rattle.vital_operands.specs.declared.tree.LevelExpr.TheVariants as level
use Rattle.vital_operands.specs.Items.{is_positional, printed_level}
use Rattle.vital_expr.specs.Outcomes.{Outcome, broken, map_typed, or_broken}
use Rattle.vital_expr.specs.Reading.{Reading, first_of, levels_of}

-- One value by position in parentheses is what is in it.
abbrev pub level_in_item : List Place → Item → Reading → Outcome LevelExpr
level_in_item own i r = if is_positional i then r.level else broken own

abbrev pub level_in_items : List Place → List Item → List Reading → Outcome LevelExpr
level_in_items own (i ∷ []) (r ∷ rs) = level_in_item own i r
level_in_items own is rs = broken own

abbrev pub level_in : List Place → List Reading → ExprLayer → Outcome LevelExpr
level_in own rs (Expr-F.Logical place operator operands) = map_typed (λ ts. level.Logical operator ts) (levels_of rs)
level_in own rs (Expr-F.Relation r) = broken own
level_in own rs (Expr-F.Sum s) = broken own
level_in own rs (Expr-F.Product p) = broken own
level_in own rs (Expr-F.Not place operand) = map_typed (λ t. level.Not t) (first_of rs).level
level_in own rs (Expr-F.Number place number) = broken own
level_in own rs (Expr-F.Physical physical) = broken own
level_in own rs (Expr-F.Character place character) = or_broken own (option_map (λ l. level.Literal l) (printed_level character))
level_in own rs (Expr-F.StringLiteral place text) = broken own
level_in own rs (Expr-F.Reference name) = (first_of rs).level
level_in own rs (Expr-F.Parenthesized place is) = level_in_items own is rs
