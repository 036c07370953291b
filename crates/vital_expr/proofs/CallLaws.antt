-- Calls of functions, by what is asked of their items.
use Rattle.std.proofs.Common.{◌≡◌, ℕ, suc, ◌==◌, Bool, true, false, ◌&&◌, List, [], ◌∷◌, length, if◌then◌else◌, refl, ap, arith}
use Rattle.std.proofs.lemmas.Bool.Decides.{nat_tests}
use Rattle.vital_base.specs.declared.place.Place.{Place}
use Rattle.vital_nodes.specs.declared.expr.Expr.{Expr}
use Rattle.vital_nodes.specs.declared.expr.Item.{Item}
use Rattle.vital_nodes.specs.Nodes.{Expression}
use Rattle.vital_nodes.proofs.Walking.{folded-law}
use Rattle.vital_operands.specs.declared.tree.LevelExpr.{LevelExpr}
use Rattle.vital_operands.specs.Items.{are_positional, are_values, is_positional}
use Rattle.vital_expr.specs.Levels.{level_in_items}
use Rattle.vital_expr.specs.Outcomes.{broken, map_typed}
use Rattle.vital_expr.specs.Reading.{Reading, first_of}
use Rattle.vital_expr.specs.Readings.{Context, breach, reading, reading_step}
use Rattle.vital_expr.specs.Steps.{item_reading, item_readings}

one-value : (own : List Place) (f : LevelExpr → LevelExpr) (r : Reading) (b : Bool) → (if b && true then map_typed f r.level else broken own) ≡ map_typed f (if b then r.level else broken own)
one-value own f r true = refl
one-value own f r false = refl

two-or-more : (n : ℕ) → (suc (suc n) == 1) ≡ false
two-or-more n = grind (arith, nat_tests)

-- A function of one value by position is what it makes of the one value in parentheses.
pub conversion_law : (own : List Place) (f : LevelExpr → LevelExpr) (c : Context) (is : List Item) → (if are_values 1 is then map_typed f (first_of (item_readings c is)).level else broken own) ≡ map_typed f (level_in_items own is (item_readings c is))
conversion_law own f c [] = refl
conversion_law own f c (i ∷ []) = one-value own f (item_reading c i) (is_positional i)
conversion_law own f c (i ∷ j ∷ is) =
    ap (λ (b : Bool). if b && are_positional (i ∷ j ∷ is) then map_typed f (first_of (item_readings c (i ∷ j ∷ is))).level else broken own) (two-or-more (length is))

-- Where an expression breaks a clause if it is not of its form.
pub own_law : (c : Context) (e : Expr) → (reading c e).own ≡ breach c e
unfolding reading_step
own_law c e = ap (λ (r : Reading). r.own) (folded-law (reading_step c) (Expression e))
