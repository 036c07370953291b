-- What typed truth values of one layer are worth.
use Rattle.std.proofs.Common.{◌≡◌, List, map, ap, sym, ◌∙◌}
use Rattle.std.specs.Prelude.{Bool, false, not, unwrap_or}
use Rattle.std.specs.List.{reduce}
use Rattle.vital_nodes.specs.declared.expr.Logical.{Logical}
use Rattle.vital_operands.specs.declared.tree.BooleanExpr.{BooleanExpr}
use Rattle.vital_operands.specs.declared.tree.BooleanExpr.TheFolds.{fold-roll-BooleanExpr, map-BooleanExpr}
use Rattle.vital_operands.specs.declared.tree.BooleanExpr.TheOpen.{BooleanExpr-F}
use Rattle.vital_operands.specs.declared.tree.BooleanExpr.TheVariants as truth'
use Rattle.vital_operands.specs.declared.tree.BooleanExpr.TheViews.{roll-BooleanExpr}
use Rattle.vital_operands.specs.declared.tree.Control.{Control}
use Rattle.vital_operands.specs.declared.tree.LevelExpr.{LevelExpr}
use Rattle.vital_primitives.specs.Operators.{same_level, same_truth, truth2}
use Rattle.vital_typed_cells.specs.Expressions.{Names, level, truth, truth_step}

truth-roll : (e : Names) (t : BooleanExpr-F BooleanExpr) → truth e (roll-BooleanExpr t) ≡ truth_step e (map-BooleanExpr BooleanExpr Bool (truth e) t)
unfolding truth
truth-roll e t = fold-roll-BooleanExpr Bool (truth_step e) t

pub typed-literal : (e : Names) (b : Bool) → truth e (truth'.Literal b) ≡ b
typed-literal e b = ap (truth e) (sym (truth'.rolls-Literal b)) ∙ truth-roll e (BooleanExpr-F.Literal b)

pub typed-control : (e : Names) (c : Control) → truth e (truth'.Control c) ≡ e.control c
typed-control e c = ap (truth e) (sym (truth'.rolls-Control c)) ∙ truth-roll e (BooleanExpr-F.Control c)

pub typed-same_levels : (e : Names) (l r : LevelExpr) → truth e (truth'.SameLevels l r) ≡ same_level (level e l) (level e r)
typed-same_levels e l r = ap (truth e) (sym (truth'.rolls-SameLevels l r)) ∙ truth-roll e (BooleanExpr-F.SameLevels l r)

pub typed-other_levels : (e : Names) (l r : LevelExpr) → truth e (truth'.OtherLevels l r) ≡ not (same_level (level e l) (level e r))
typed-other_levels e l r = ap (truth e) (sym (truth'.rolls-OtherLevels l r)) ∙ truth-roll e (BooleanExpr-F.OtherLevels l r)

pub typed-same : (e : Names) (l r : BooleanExpr) → truth e (truth'.Same l r) ≡ same_truth (truth e l) (truth e r)
typed-same e l r = ap (truth e) (sym (truth'.rolls-Same l r)) ∙ truth-roll e (BooleanExpr-F.Same l r)

pub typed-other : (e : Names) (l r : BooleanExpr) → truth e (truth'.Other l r) ≡ not (same_truth (truth e l) (truth e r))
typed-other e l r = ap (truth e) (sym (truth'.rolls-Other l r)) ∙ truth-roll e (BooleanExpr-F.Other l r)

pub typed-not : (e : Names) (t : BooleanExpr) → truth e (truth'.Not t) ≡ not (truth e t)
typed-not e t = ap (truth e) (sym (truth'.rolls-Not t)) ∙ truth-roll e (BooleanExpr-F.Not t)

pub typed-logical : (e : Names) (o : Logical) (ts : List BooleanExpr) → truth e (truth'.Logical o ts) ≡ unwrap_or (reduce (truth2 o) (map (truth e) ts)) false
typed-logical e o ts = ap (truth e) (sym (truth'.rolls-Logical o ts)) ∙ truth-roll e (BooleanExpr-F.Logical o ts)

pub ruleset typed_truths = (typed-literal, typed-control, typed-same_levels, typed-other_levels, typed-same, typed-other, typed-not, typed-logical)
