use Rattle.std.proofs.Common.{rules}
use Rattle.vital_operands.specs.declared.tree.BooleanExpr as q
use Rattle.vital_cell.specs.Scopes.{lent}
use Rattle.vital_cell.specs.Sound.{tests}
use Rattle.vital_cell.proofs.PartLemmas.{control-stands, denied-stands, joined-parts, joined-stands, other-stands, other_levels-stand, same-stands, same_levels-stand, truth-stands, truth-turn}
use Rattle.vital_cell.proofs.numbered_truths.+numbered_truths.Goals as goal

pub numbered_operands-loop-tree-preserved : goal.numbered_operands-loop-tree-preserved
numbered_operands-loop-tree-preserved t c =
    truth-turn (lent c.args.scope.now) c.args.trees.now c.loop-tree.tree-index c.tree-item.result c.in_ok-numbered_truth.field-0 c.loop-tree.numbered.items c.push.new.self.items c.loop-tree-test.true c.tree-item.is c.in_ok-numbered_truth.ensures c.loop-tree.invariant c.in_ok-push.ensures.items

pub numbered_truth-numbered_operands-requires : goal.numbered_truth-numbered_operands-requires
numbered_truth-numbered_operands-requires t c = (search (rules, q.the_lemmas), joined-parts (tests (lent c.args.scope.now)) c.args.tree.now c.in-Logical.operator c.in-Logical.operands c.as_slice.result.now c.in-Logical.is c.as_slice.ensures c.requires)

pub numbered_truth-returns-in-Literal : goal.numbered_truth-returns-in-Literal
numbered_truth-returns-in-Literal t c = truth-stands (lent c.args.scope.now) c.args.tree.now c.in-Literal.truth c.in-Literal.is

pub numbered_truth-returns-in-Control : goal.numbered_truth-returns-in-Control
numbered_truth-returns-in-Control t c = control-stands (lent c.args.scope.now) c.args.tree.now c.control.result c.in-Control.control c.in-Control.is c.control.ensures

pub numbered_truth-returns-in_ok-boxed_truth-in-Not : goal.numbered_truth-returns-in_ok-boxed_truth-in-Not
numbered_truth-returns-in_ok-boxed_truth-in-Not t c =
    denied-stands (lent c.args.scope.now) c.in_ok-boxed_truth-in-Not.field-0 c.args.tree.now c.in-Not.operand c.get-in-Not.result.now c.in-Not.is c.get-in-Not.ensures c.in_ok-boxed_truth-in-Not.ensures

pub numbered_truth-returns-in_ok-numbered_operands-in-Logical : goal.numbered_truth-returns-in_ok-numbered_operands-in-Logical
numbered_truth-returns-in_ok-numbered_operands-in-Logical t c =
    joined-stands (lent c.args.scope.now) c.in_ok-numbered_operands-in-Logical.field-0 c.args.tree.now c.in-Logical.operator c.in-Logical.operands c.as_slice.result.now c.in-Logical.is c.as_slice.ensures c.in_ok-numbered_operands-in-Logical.ensures

pub numbered_truth-returns-in_ok-tree-in-SameLevels : goal.numbered_truth-returns-in_ok-tree-in-SameLevels
numbered_truth-returns-in_ok-tree-in-SameLevels t c =
    same_levels-stand (lent c.args.scope.now) c.in_ok-tree-in-SameLevels.tree c.args.tree.now c.in-SameLevels.left c.in-SameLevels.right c.in-SameLevels.is c.in_ok-tree-in-SameLevels.ensures

pub numbered_truth-returns-in_ok-tree-in-OtherLevels : goal.numbered_truth-returns-in_ok-tree-in-OtherLevels
numbered_truth-returns-in_ok-tree-in-OtherLevels t c =
    other_levels-stand (lent c.args.scope.now) c.in_ok-tree-in-OtherLevels.tree c.args.tree.now c.in-OtherLevels.left c.in-OtherLevels.right c.in-OtherLevels.is c.in_ok-tree-in-OtherLevels.ensures

pub numbered_truth-returns-in_ok-second-in-Same : goal.numbered_truth-returns-in_ok-second-in-Same
numbered_truth-returns-in_ok-second-in-Same t c =
    same-stands (lent c.args.scope.now) c.in_ok-first-in-Same.first c.in_ok-second-in-Same.second c.args.tree.now c.in-Same.left c.in-Same.right c.get.result.now c.get-in-Same.result.now
    c.in-Same.is c.get.ensures c.get-in-Same.ensures c.in_ok-first-in-Same.ensures c.in_ok-second-in-Same.ensures

pub numbered_truth-returns-in_ok-second-in-Other : goal.numbered_truth-returns-in_ok-second-in-Other
numbered_truth-returns-in_ok-second-in-Other t c =
    other-stands (lent c.args.scope.now) c.in_ok-first-in-Other.first c.in_ok-second-in-Other.second c.args.tree.now c.in-Other.left c.in-Other.right c.get-in-Other.result.now c.get-in-Other-2.result.now
    c.in-Other.is c.get-in-Other.ensures c.get-in-Other-2.ensures c.in_ok-first-in-Other.ensures c.in_ok-second-in-Other.ensures
