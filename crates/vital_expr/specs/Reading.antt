-- What an expression is worth where each type is asked of it.
use Rattle.std.specs.Prelude.{ℕ, Bool, false, List, [], ◌∷◌, map, Option, Some, None, ⊤}
use Rattle.vital_base.specs.declared.place.Place.{Place}
use Rattle.vital_nodes.specs.declared.expr.Expr.{Expr}
use Rattle.vital_operands.specs.declared.tree.BooleanExpr.{BooleanExpr}
use Rattle.vital_operands.specs.declared.tree.DelayExpr.{DelayExpr}
use Rattle.vital_operands.specs.declared.tree.LevelExpr.{LevelExpr}
use Rattle.vital_operands.specs.declared.tree.TimeExpr.{TimeExpr}
use Rattle.vital_operands.specs.declared.tree.VectorExpr.{VectorExpr}
use Rattle.vital_timing.specs.declared.delay.DelayType.{DelayType}
use Rattle.vital_expr.specs.Outcomes.{Outcome, all_typed, broken}

-- What comes of a node where each type is asked of it: a level; a vector, of a length that is known or not; a truth value; a time; a
-- delay of a type; a text. Whether the first operand inside is a truth value. The time that it writes itself, if it is a literal. And
-- where it breaks a clause if it is not of its form.
pub record Reading : Type 0 where
  pub level : Outcome LevelExpr
  pub vector : Option ℕ → Outcome VectorExpr
  pub boolean : Outcome BooleanExpr
  pub time : Outcome TimeExpr
  pub delay : DelayType → Outcome DelayExpr
  pub text : Outcome ⊤
  pub is_boolean : Bool
  pub literal : Outcome ℕ
  pub own : List Place

-- What is no form of any type, and breaks a clause at these places.
abbrev pub broken_reading : List Place → Reading
broken_reading own = record {
  level = broken own;
  vector = λ asked. broken own;
  boolean = broken own;
  time = broken own;
  delay = λ d. broken own;
  text = broken own;
  is_boolean = false;
  literal = broken own;
  own = own;
}

-- What is no expression.
abbrev pub no_reading : Reading
no_reading = broken_reading []

abbrev pub first_of : List Reading → Reading
first_of [] = no_reading
first_of (r ∷ others) = r

-- An item is worth what its value is.
abbrev pub if_given : Option Expr → List Reading → Reading
if_given None rs = no_reading
if_given (Some e) rs = first_of rs

-- Operands one after another, where a type is asked of each.
abbrev pub levels_of : List Reading → Outcome (List LevelExpr)
levels_of rs = all_typed (map (λ r. r.level) rs)

abbrev pub booleans_of : List Reading → Outcome (List BooleanExpr)
booleans_of rs = all_typed (map (λ r. r.boolean) rs)

abbrev pub texts_of : List Reading → Outcome (List ⊤)
texts_of rs = all_typed (map (λ r. r.text) rs)

abbrev pub literals_of : List Reading → Outcome (List ℕ)
literals_of rs = all_typed (map (λ r. r.literal) rs)
