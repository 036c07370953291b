use Rattle.std.proofs.Common.{ap, rules}
use Rattle.vital_machine.specs.declared.trees.TableTree.{out-TableTree}
use Rattle.vital_operands.specs.declared.tree.LevelExpr as q
use Rattle.vital_operands.specs.declared.tree.LevelExpr.TheVariants as level'
use Rattle.vital_operands.specs.declared.tree.VectorExpr as v
use Rattle.vital_operands.specs.declared.tree.VectorExpr.TheVariants as vector'
use Rattle.vital_cell.specs.Scopes.{lent}
use Rattle.vital_cell.specs.Sound.{tests}
use Rattle.vital_cell.proofs.PartLemmas.{call-stands, conversion-stands, level-for, level-turn, levels-parts, levels-stand, listed-stands, literal-stands, logical-parts, logical-stands, not-stands, others-stand, primitive-parts, primitive-stands, result-stands, results-stand, vector-for}
use Rattle.vital_cell.proofs.numbered_levels.+numbered_levels.Goals as goal

pub numbered_level-numbered_levels-requires : goal.numbered_level-numbered_levels-requires
numbered_level-numbered_levels-requires t c = (search (rules, q.the_lemmas, v.the_lemmas), logical-parts (tests (lent c.args.scope.now)) c.args.tree.now c.in-Logical.operator c.in-Logical.operands c.as_slice.result.now c.in-Logical.is c.as_slice.ensures c.requires)

pub numbered_level-numbered_levels-requires-in-Primitive : goal.numbered_level-numbered_levels-requires-in-Primitive
numbered_level-numbered_levels-requires-in-Primitive t c = (search (rules, q.the_lemmas, v.the_lemmas), primitive-parts (tests (lent c.args.scope.now)) c.args.tree.now c.in-Primitive.primitive c.in-Primitive.inputs c.as_slice-in-Primitive.result.now c.in-Primitive.is c.as_slice-in-Primitive.ensures c.requires)

pub numbered_level-returns-in-Literal : goal.numbered_level-returns-in-Literal
numbered_level-returns-in-Literal t c = literal-stands (lent c.args.scope.now) c.args.tree.now c.in-Literal.level c.in-Literal.is

pub numbered_level-returns-in-Signal : goal.numbered_level-returns-in-Signal
numbered_level-returns-in-Signal t c = level-for (lent c.args.scope.now) c.signal.result c.args.tree.now (level'.Signal c.in-Signal.name) c.in-Signal.is c.signal.ensures

pub numbered_level-returns-in-Variable : goal.numbered_level-returns-in-Variable
numbered_level-returns-in-Variable t c = level-for (lent c.args.scope.now) c.variable.result c.args.tree.now (level'.Variable c.in-Variable.name) c.in-Variable.is c.variable.ensures

pub numbered_level-returns-in-Element : goal.numbered_level-returns-in-Element
numbered_level-returns-in-Element t c = level-for (lent c.args.scope.now) c.element.result c.args.tree.now (level'.Element c.in-Element.name c.in-Element.offset) c.in-Element.is c.element.ensures

pub numbered_level-returns-in-Constant : goal.numbered_level-returns-in-Constant
numbered_level-returns-in-Constant t c = level-for (lent c.args.scope.now) c.constant.result c.args.tree.now (level'.Constant c.in-Constant.name) c.in-Constant.is c.constant.ensures

pub numbered_level-returns-in_ok-boxed_level-in-Not : goal.numbered_level-returns-in_ok-boxed_level-in-Not
numbered_level-returns-in_ok-boxed_level-in-Not t c =
    not-stands (lent c.args.scope.now) c.in_ok-boxed_level-in-Not.field-0 c.args.tree.now c.in-Not.operand c.get.result.now c.in-Not.is c.get.ensures c.in_ok-boxed_level-in-Not.ensures

pub numbered_level-returns-in_ok-numbered_levels-in-Logical : goal.numbered_level-returns-in_ok-numbered_levels-in-Logical
numbered_level-returns-in_ok-numbered_levels-in-Logical t c =
    logical-stands (lent c.args.scope.now) c.in_ok-numbered_levels-in-Logical.field-0 c.args.tree.now c.in-Logical.operator c.in-Logical.operands c.as_slice.result.now c.in-Logical.is c.as_slice.ensures c.in_ok-numbered_levels-in-Logical.ensures

pub numbered_level-returns-in_ok-numbered_levels-in-Primitive : goal.numbered_level-returns-in_ok-numbered_levels-in-Primitive
numbered_level-returns-in_ok-numbered_levels-in-Primitive t c =
    primitive-stands (lent c.args.scope.now) c.in_ok-numbered_levels-in-Primitive.field-0 c.args.tree.now c.in-Primitive.primitive c.in-Primitive.inputs c.as_slice-in-Primitive.result.now c.in-Primitive.is c.as_slice-in-Primitive.ensures c.requires c.in_ok-numbered_levels-in-Primitive.ensures

pub numbered_level-returns-in_ok-boxed_level-in-Conversion : goal.numbered_level-returns-in_ok-boxed_level-in-Conversion
numbered_level-returns-in_ok-boxed_level-in-Conversion t c =
    conversion-stands (lent c.args.scope.now) c.in_ok-boxed_level-in-Conversion.field-0 c.args.tree.now c.in-Conversion.conversion c.in-Conversion.operand c.get-in-Conversion.result.now c.in-Conversion.is c.get-in-Conversion.ensures c.in_ok-boxed_level-in-Conversion.ensures

pub numbered_level-returns-in_ok-numbered_call-in-TruthTable : goal.numbered_level-returns-in_ok-numbered_call-in-TruthTable
numbered_level-returns-in_ok-numbered_call-in-TruthTable t c =
    result-stands (lent c.args.scope.now) c.in_ok-numbered_call-in-TruthTable.field-0 c.args.tree.now c.in-TruthTable.call c.get-in-TruthTable.result.now c.in-TruthTable.is c.get-in-TruthTable.ensures c.in_ok-numbered_call-in-TruthTable.ensures

pub numbered_levels-loop-tree-preserved : goal.numbered_levels-loop-tree-preserved
numbered_levels-loop-tree-preserved t c =
    level-turn (lent c.args.scope.now) c.args.trees.now c.loop-tree.tree-index c.tree-item.result c.in_ok-numbered_level.field-0 c.loop-tree.numbered.items c.push.new.self.items c.loop-tree-test.true c.tree-item.is c.in_ok-numbered_level.ensures c.loop-tree.invariant c.in_ok-push.ensures.items

pub numbered_vector-numbered_levels-requires : goal.numbered_vector-numbered_levels-requires
numbered_vector-numbered_levels-requires t c = (search (rules, q.the_lemmas, v.the_lemmas), levels-parts (tests (lent c.args.scope.now)) c.args.tree.now c.in-Levels.levels c.as_slice.result.now c.in-Levels.is c.as_slice.ensures c.requires)

pub numbered_vector-returns-in_ok-numbered_levels-in-Levels : goal.numbered_vector-returns-in_ok-numbered_levels-in-Levels
numbered_vector-returns-in_ok-numbered_levels-in-Levels t c =
    levels-stand (lent c.args.scope.now) c.in_ok-numbered_levels-in-Levels.field-0 c.args.tree.now c.in-Levels.levels c.as_slice.result.now c.in-Levels.is c.as_slice.ensures c.in_ok-numbered_levels-in-Levels.ensures

pub numbered_vector-returns-in_ok-boxed_level-in-Others : goal.numbered_vector-returns-in_ok-boxed_level-in-Others
numbered_vector-returns-in_ok-boxed_level-in-Others t c =
    others-stand (lent c.args.scope.now) c.in_ok-boxed_level-in-Others.field-0 c.args.tree.now c.in-Others.level c.in-Others.count c.get.result.now c.in-Others.is c.get.ensures c.in_ok-boxed_level-in-Others.ensures

pub numbered_vector-returns-in_ok-from_slice-in-Literal : goal.numbered_vector-returns-in_ok-from_slice-in-Literal
numbered_vector-returns-in_ok-from_slice-in-Literal t c =
    listed-stands (lent c.args.scope.now) c.args.tree.now c.in-Literal.levels c.as_slice-in-Literal.result.now c.in_ok-from_slice-in-Literal.field-0 c.in-Literal.is c.as_slice-in-Literal.ensures c.in_ok-from_slice-in-Literal.ensures

pub numbered_vector-returns-in_ok-numbered_call-in-TruthTable : goal.numbered_vector-returns-in_ok-numbered_call-in-TruthTable
numbered_vector-returns-in_ok-numbered_call-in-TruthTable t c =
    results-stand (lent c.args.scope.now) c.in_ok-numbered_call-in-TruthTable.field-0 c.args.tree.now c.in-TruthTable.call c.get-in-TruthTable.result.now c.in-TruthTable.results c.in-TruthTable.is c.get-in-TruthTable.ensures c.in_ok-numbered_call-in-TruthTable.ensures

pub numbered_call-returns : goal.numbered_call-returns
numbered_call-returns t c =
    call-stands (lent c.args.scope.now) c.args.results c.length_of.result c.args.call.now c.in_ok-boxed.boxed c.in_ok-table.table c.in_ok-inputs.inputs
    (ap (λ x. (out-TableTree x).table) c.in_ok-boxed.ensures) (ap (λ x. (out-TableTree x).inputs) c.in_ok-boxed.ensures)
    c.in_ok-table.ensures c.length_of.ensures c.requires.inputs c.in_ok-inputs.ensures

pub numbered_vector-returns-in_ok-tree-in-Variable : goal.numbered_vector-returns-in_ok-tree-in-Variable
numbered_vector-returns-in_ok-tree-in-Variable t c =
    vector-for (lent c.args.scope.now) c.in_ok-tree-in-Variable.tree c.args.tree.now (vector'.Variable c.in-Variable.name c.in-Variable.field-1) c.in-Variable.is (c.in_ok-tree-in-Variable.ensures c.in-Variable.field-1)
