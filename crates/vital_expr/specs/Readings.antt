-- Expressions where a type is asked of them: what they are, or where they are not of their form.
use Rattle.std.specs.Prelude.{ℕ, List, Option, ⊤}
use Rattle.vital_base.specs.declared.place.Place.{Place}
use Rattle.vital_nodes.specs.declared.expr.Actual.TheViews.{out-Expr}
use Rattle.vital_nodes.specs.declared.expr.Expr.{Expr}
use Rattle.vital_nodes.specs.Layers.{ExprLayer}
use Rattle.vital_nodes.specs.Nodes.{Node, Declaration, Interface, Concurrent, Sequential, Expression, Item, Name}
use Rattle.vital_nodes.specs.Places.{place_of_expr, place_of_name}
use Rattle.vital_nodes.specs.Walk.{folded}
use Rattle.vital_operands.specs.declared.tree.BooleanExpr.{BooleanExpr}
use Rattle.vital_operands.specs.declared.tree.DelayExpr.{DelayExpr}
use Rattle.vital_operands.specs.declared.tree.LevelExpr.{LevelExpr}
use Rattle.vital_operands.specs.declared.tree.TimeExpr.{TimeExpr}
use Rattle.vital_operands.specs.declared.tree.VectorExpr.{VectorExpr}
use Rattle.vital_operands.specs.Faults.{own_breach}
use Rattle.vital_operands.specs.Positions.{Position}
use Rattle.vital_timing.specs.declared.delay.DelayType.{DelayType}
use Rattle.vital_nodes.specs.Items.{actual}
use Rattle.vital_expr.specs.Booleans.{boolean_in, is_boolean_in}
use Rattle.vital_expr.specs.Delays.{delay_in, literal_in, time_in}
use Rattle.vital_expr.specs.Levels.{level_in}
use Rattle.vital_expr.specs.Names.{name_in}
use Rattle.vital_expr.specs.Outcomes.{Outcome}
use Rattle.vital_expr.specs.Reading.{Reading, if_given, no_reading}
use Rattle.vital_expr.specs.Texts.{text_in}
use Rattle.vital_expr.specs.Vectors.{vector_in}

-- What expressions are read by: a position, and the places at which names and calls break other clauses.
pub record Context : Type 0 where
  pub position : Position
  pub faults : List Place

-- Where an expression, or a name that is one, breaks a clause if it is not of its form.
abbrev pub breach : Context → Expr → List Place
breach c e = own_breach c.faults (place_of_expr e) (Expression e)

abbrev pub expr_reading : List Place → List Reading → ExprLayer → Reading
expr_reading own rs l = record {
  level = level_in own rs l;
  vector = λ asked. vector_in own rs asked l;
  boolean = boolean_in own rs l;
  time = time_in own rs l;
  delay = λ d. delay_in own rs d l;
  text = text_in own rs l;
  is_boolean = is_boolean_in rs l;
  literal = literal_in own l;
  own = own;
}

-- What a node is worth where its parts are worth this. An item is worth what its value is.
unfoldable pub reading_step : Context → Node → List Reading → Reading
reading_step c (Declaration d) rs = no_reading
reading_step c (Interface i) rs = no_reading
reading_step c (Concurrent s) rs = no_reading
reading_step c (Sequential s) rs = no_reading
reading_step c (Expression e) rs = expr_reading (breach c e) rs (out-Expr e)
reading_step c (Item i) rs = if_given (actual i) rs
reading_step c (Name r) rs = name_in (own_breach c.faults (place_of_name r) (Name r)) c.position r rs r.suffixes

-- What a node is worth.
abbrev pub worth : Context → Node → Reading
worth c v = folded (reading_step c) v

abbrev pub reading : Context → Expr → Reading
reading c e = worth c (Expression e)

abbrev pub level_of : Context → Expr → Outcome LevelExpr
level_of c e = (reading c e).level

abbrev pub vector_of : Context → Option ℕ → Expr → Outcome VectorExpr
vector_of c asked e = (reading c e).vector asked

abbrev pub boolean_of : Context → Expr → Outcome BooleanExpr
boolean_of c e = (reading c e).boolean

abbrev pub time_of : Context → Expr → Outcome TimeExpr
time_of c e = (reading c e).time

abbrev pub delay_of : Context → DelayType → Expr → Outcome DelayExpr
delay_of c d e = (reading c e).delay d

abbrev pub text_of : Context → Expr → Outcome ⊤
text_of c e = (reading c e).text
