-- Expressions that give truth values.
use Rattle.std.specs.Prelude.{Bool, true, false, List, [], ◌∷◌, if◌then◌else◌}
use Rattle.vital_base.specs.declared.place.Place.{Place}
use Rattle.vital_nodes.specs.declared.expr.Actual.TheOpen.{Expr-F}
use Rattle.vital_nodes.specs.declared.expr.Item.{Item}
use Rattle.vital_nodes.specs.declared.expr.Relational.{Relational}
use Rattle.vital_nodes.specs.declared.expr.Relational.TheVariants as relational
use Rattle.vital_nodes.specs.Layers.{ExprLayer}
use Rattle.vital_operands.specs.declared.tree.BooleanExpr.{BooleanExpr}
use Rattle.vital_operands.specs.declared.tree.BooleanExpr.TheVariants as truth
use Rattle.vital_operands.specs.declared.tree.LevelExpr.{LevelExpr}
use Rattle.vital_operands.specs.Items.{is_positional}
use Rattle.vital_expr.specs.declared.equality.Equality.{Equality}
use Rattle.vital_expr.specs.declared.equality.Equality.TheVariants as equality
use Rattle.vital_expr.specs.declared.side.Side.{Side}
use Rattle.vital_expr.specs.declared.side.Side.TheVariants as side
use Rattle.vital_expr.specs.Outcomes.{Outcome, both, broken, map_typed, typed}
use Rattle.vital_expr.specs.Reading.{Reading, booleans_of, first_of}

-- ---- whether it is a truth value

-- The first operand inside is a truth value. A relation is one.
abbrev pub is_boolean_in_item : Item → Reading → Bool
is_boolean_in_item i r = if is_positional i then r.is_boolean else false

abbrev pub is_boolean_in_items : List Item → List Reading → Bool
is_boolean_in_items (i ∷ []) (r ∷ rs) = is_boolean_in_item i r
is_boolean_in_items is rs = false

abbrev pub is_boolean_in : List Reading → ExprLayer → Bool
is_boolean_in rs (Expr-F.Logical place operator operands) = (first_of rs).is_boolean
is_boolean_in rs (Expr-F.Relation r) = true
is_boolean_in rs (Expr-F.Sum s) = false
is_boolean_in rs (Expr-F.Product p) = false
is_boolean_in rs (Expr-F.Not place operand) = (first_of rs).is_boolean
is_boolean_in rs (Expr-F.Number place number) = false
is_boolean_in rs (Expr-F.Physical physical) = false
is_boolean_in rs (Expr-F.Character place character) = false
is_boolean_in rs (Expr-F.StringLiteral place text) = false
is_boolean_in rs (Expr-F.Reference name) = (first_of rs).is_boolean
is_boolean_in rs (Expr-F.Parenthesized place is) = is_boolean_in_items is rs

-- ---- relations

-- A truth value where the first operand in it is one, and else a level.
abbrev pub side_of : Reading → Outcome Side
side_of r = if r.is_boolean then map_typed (λ t. side.Boolean t) r.boolean else map_typed (λ t. side.Level t) r.level

abbrev pub same_sides : List Place → Side → Side → Outcome BooleanExpr
same_sides own (side.Level a) (side.Level b) = typed (truth.SameLevels a b)
same_sides own (side.Level a) (side.Boolean b) = broken own
same_sides own (side.Boolean a) (side.Level b) = broken own
same_sides own (side.Boolean a) (side.Boolean b) = typed (truth.Same a b)

abbrev pub other_sides : List Place → Side → Side → Outcome BooleanExpr
other_sides own (side.Level a) (side.Level b) = typed (truth.OtherLevels a b)
other_sides own (side.Level a) (side.Boolean b) = broken own
other_sides own (side.Boolean a) (side.Level b) = broken own
other_sides own (side.Boolean a) (side.Boolean b) = typed (truth.Other a b)

-- Two sides that are to be the same, or to be others.
abbrev pub compared : List Place → Equality → Side → Side → Outcome BooleanExpr
compared own equality.Same = same_sides own
compared own equality.Other = other_sides own

abbrev pub of_levels : Equality → LevelExpr → LevelExpr → BooleanExpr
of_levels equality.Same a b = truth.SameLevels a b
of_levels equality.Other a b = truth.OtherLevels a b

abbrev pub of_booleans : Equality → BooleanExpr → BooleanExpr → BooleanExpr
of_booleans equality.Same a b = truth.Same a b
of_booleans equality.Other a b = truth.Other a b

-- Of the relational operators `=` and `/=` compare levels and truth values, both sides of one kind.
abbrev pub related_by : List Place → Relational → Reading → Reading → Outcome BooleanExpr
related_by own relational.Equal l r = both (same_sides own) (side_of l) (side_of r)
related_by own relational.NotEqual l r = both (other_sides own) (side_of l) (side_of r)
related_by own relational.Less l r = broken own
related_by own relational.LessOrEqual l r = broken own
related_by own relational.Greater l r = broken own
related_by own relational.GreaterOrEqual l r = broken own

abbrev pub related : List Place → Relational → List Reading → Outcome BooleanExpr
related own operator (l ∷ r ∷ []) = related_by own operator l r
related own operator rs = broken own

-- ---- truth values

-- One value by position in parentheses is what is in it.
abbrev pub boolean_in_item : List Place → Item → Reading → Outcome BooleanExpr
boolean_in_item own i r = if is_positional i then r.boolean else broken own

abbrev pub boolean_in_items : List Place → List Item → List Reading → Outcome BooleanExpr
boolean_in_items own (i ∷ []) (r ∷ rs) = boolean_in_item own i r
boolean_in_items own is rs = broken own

abbrev pub boolean_in : List Place → List Reading → ExprLayer → Outcome BooleanExpr
boolean_in own rs (Expr-F.Logical place operator operands) = map_typed (λ ts. truth.Logical operator ts) (booleans_of rs)
boolean_in own rs (Expr-F.Relation r) = related own r.operator rs
boolean_in own rs (Expr-F.Sum s) = broken own
boolean_in own rs (Expr-F.Product p) = broken own
boolean_in own rs (Expr-F.Not place operand) = map_typed (λ t. truth.Not t) (first_of rs).boolean
boolean_in own rs (Expr-F.Number place number) = broken own
boolean_in own rs (Expr-F.Physical physical) = broken own
boolean_in own rs (Expr-F.Character place character) = broken own
boolean_in own rs (Expr-F.StringLiteral place text) = broken own
boolean_in own rs (Expr-F.Reference name) = (first_of rs).boolean
boolean_in own rs (Expr-F.Parenthesized place is) = boolean_in_items own is rs
