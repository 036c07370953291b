-- What literals of truth values are worth.
use Rattle.std.proofs.Common.{◌≡◌, ap, sym, ◌∙◌}
use Rattle.std.specs.Prelude.{Bool}
use Rattle.vital_operands.specs.declared.tree.BooleanExpr.TheFolds.{fold-roll-BooleanExpr}
use Rattle.vital_operands.specs.declared.tree.BooleanExpr.TheOpen.{BooleanExpr-F}
use Rattle.vital_operands.specs.declared.tree.BooleanExpr.TheVariants as boolean
use Rattle.vital_typed_cells.specs.Expressions.{Names, truth, truth_step}

pub truth-literal : (e : Names) (b : Bool) → truth e (boolean.Literal b) ≡ b
unfolding truth
truth-literal e b = ap (truth e) (sym (boolean.rolls-Literal b)) ∙ fold-roll-BooleanExpr Bool (truth_step e) (BooleanExpr-F.Literal b)
