-- The levels of an expression, by which a primary is read at once where those before it are empty.
use Rattle.std.specs.Prelude.{◌≡◌, ◌≢◌, List, Option, Some, None}
use Rattle.vital_base.specs.declared.place.Place.{Place}
use Rattle.vital_nodes.specs.declared.expr.Expr.{Expr}
use Rattle.vital_nodes.specs.declared.expr.Item.{Item}
use Rattle.vital_shapes.specs.Reading.{Input, Reader, onward, alternative, past_step}
use Rattle.vital_shapes.specs.Expressions.{after_factor, after_term, after_sum, after_relation}

-- behind the steps of an expression, its first relation, sum, sign, term and factor
abbrev pub at_primary : Input → Input
at_primary i = past_step (past_step (past_step (past_step (past_step (past_step i)))))

-- An expression begins with a primary: its first sum has no sign, which the fourth step says, and its first factor no `not`, which
-- the sixth one says.
pub record BeginsWithPrimary (i : Input) : Type 0 where
  pub no_sign : alternative (past_step (past_step (past_step i))) ≡ 0
  pub no_not : alternative (past_step (past_step (past_step (past_step (past_step i))))) ≢ 0

-- behind the steps that end a term, a sum, a relation and an expression
abbrev pub past_levels : Input → Input
past_levels i = past_step (past_step (past_step (past_step i)))

-- each of these levels ends
pub record EndsLevels (i : Input) : Type 0 where
  pub term : alternative i ≡ 0
  pub sum : alternative (past_step i) ≡ 0
  pub relation : alternative (past_step (past_step i)) ≡ 0
  pub expression : alternative (past_step (past_step (past_step i))) ≡ 0

-- the expression that begins with a primary, which is read
abbrev pub outwards : Reader (List Item) → Place → Option (Expr × Input) → Option (Expr × Input)
outwards items p read = onward (onward (onward (onward read (after_factor items p)) (after_term items p None)) (after_sum items p)) (after_relation items p)
