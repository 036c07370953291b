-- Expressions that give vectors of levels.
use Rattle.std.specs.Prelude.{ℕ, Bool, true, ◌==◌, is_some, List, [], ◌∷◌, length, Option, Some, None, if◌then◌else◌}
use Rattle.vital_base.specs.declared.place.Place.{Place}
use Rattle.vital_logic.specs.declared.level.Level.{Level}
use Rattle.vital_nodes.specs.declared.expr.Actual.TheOpen.{Expr-F}
use Rattle.vital_nodes.specs.declared.expr.Item.{Item}
use Rattle.vital_nodes.specs.Layers.{ExprLayer}
use Rattle.vital_operands.specs.declared.tree.LevelExpr.{LevelExpr}
use Rattle.vital_operands.specs.declared.tree.LevelExpr.TheOpen.{VectorExpr-F}
use Rattle.vital_operands.specs.declared.tree.LevelExpr.TheViews.{out-VectorExpr}
use Rattle.vital_operands.specs.declared.tree.TruthTableCall.{TruthTableCall}
use Rattle.vital_operands.specs.declared.tree.VectorExpr.{VectorExpr}
use Rattle.vital_operands.specs.declared.tree.VectorExpr.TheVariants as vector
use Rattle.vital_operands.specs.Items.{are_positional, is_positional, levels_of_text, others_value}
use Rattle.vital_expr.specs.Outcomes.{Outcome, and_then, broken, or_broken, typed}
use Rattle.vital_expr.specs.Reading.{Reading, first_of, levels_of}

-- How many elements a vector has.
abbrev pub length_in : VectorExpr-F LevelExpr VectorExpr TruthTableCall → ℕ
length_in (VectorExpr-F.VectorExpr::Variable name n) = n
length_in (VectorExpr-F.Levels ts) = length ts
length_in (VectorExpr-F.Others t n) = n
length_in (VectorExpr-F.VectorExpr::Literal ls) = length ls
length_in (VectorExpr-F.VectorExpr::TruthTable call n) = n

abbrev pub length_of : VectorExpr → ℕ
length_of v = length_in (out-VectorExpr v)

-- A length is the one that is asked, if one is.
abbrev pub fits : Option ℕ → ℕ → Bool
fits None n = true
fits (Some asked) n = asked == n

-- A vector, if its length is the one that is asked.
abbrev pub if_fits : Option ℕ → VectorExpr → Option VectorExpr
if_fits asked v = if fits asked (length_of v) then Some v else None

abbrev pub if_vector_fits : List Place → Option ℕ → VectorExpr → Outcome VectorExpr
if_vector_fits own asked v = or_broken own (if_fits asked v)

abbrev pub list_of_levels : List Place → Option ℕ → List LevelExpr → Outcome VectorExpr
list_of_levels own asked ts = if_vector_fits own asked (vector.Levels ts)

-- One value in parentheses is a list of one level where it is a level, and else the vector in it.
abbrev pub vector_by_level : List Place → Option ℕ → Reading → Option LevelExpr → Outcome VectorExpr
vector_by_level own asked r (Some t) = list_of_levels own asked (t ∷ [])
vector_by_level own asked r None = r.vector asked

abbrev pub vector_of_one : List Place → Option ℕ → Reading → Outcome VectorExpr
vector_of_one own asked r = vector_by_level own asked r r.level.tree

-- One level for each element, where a length is asked.
abbrev pub others_of_length : List Place → Option ℕ → LevelExpr → Outcome VectorExpr
others_of_length own None t = broken own
others_of_length own (Some n) t = typed (vector.Others t n)

abbrev pub vector_in_item : List Place → Option ℕ → Item → Reading → Outcome VectorExpr
vector_in_item own asked i r =
    if is_positional i then vector_of_one own asked r
    else if is_some (others_value i) then and_then (others_of_length own asked) r.level
    else broken own

abbrev pub vector_of_several : List Place → Option ℕ → List Item → List Reading → Outcome VectorExpr
vector_of_several own asked is rs = if are_positional is then and_then (list_of_levels own asked) (levels_of rs) else broken own

abbrev pub vector_in_items : List Place → Option ℕ → List Item → List Reading → Outcome VectorExpr
vector_in_items own asked [] rs = broken own
vector_in_items own asked (i ∷ []) rs = vector_in_item own asked i (first_of rs)
vector_in_items own asked (i ∷ j ∷ is) rs = vector_of_several own asked (i ∷ j ∷ is) rs

-- The vector of a string literal.
abbrev pub vector_of_levels : Option ℕ → Option (List Level) → Option VectorExpr
vector_of_levels asked None = None
vector_of_levels asked (Some ls) = if_fits asked (vector.Literal ls)

abbrev pub vector_in : List Place → List Reading → Option ℕ → ExprLayer → Outcome VectorExpr
vector_in own rs asked (Expr-F.Logical place operator operands) = broken own
vector_in own rs asked (Expr-F.Relation r) = broken own
vector_in own rs asked (Expr-F.Sum s) = broken own
vector_in own rs asked (Expr-F.Product p) = broken own
vector_in own rs asked (Expr-F.Not place operand) = broken own
vector_in own rs asked (Expr-F.Number place number) = broken own
vector_in own rs asked (Expr-F.Physical physical) = broken own
vector_in own rs asked (Expr-F.Character place character) = broken own
vector_in own rs asked (Expr-F.StringLiteral place text) = or_broken own (vector_of_levels asked (levels_of_text text))
vector_in own rs asked (Expr-F.Reference name) = (first_of rs).vector asked
vector_in own rs asked (Expr-F.Parenthesized place is) = vector_in_items own asked is rs
