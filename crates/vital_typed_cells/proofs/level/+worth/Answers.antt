use Rattle.std.proofs.Common.{◌≡◌, replicate, rules}
use Rattle.std.proofs.lemmas.Result.{IfOk-weaker}
use Rattle.vital_logic.specs.declared.level.Level.{Level}
use Rattle.std.specs.Prelude.{Vec}
use Rattle.std.specs.declared.alloc.Global.{Global}
use Rattle.vital_typed_cells.specs.Expressions.{vector}
use Rattle.vital_operands.specs.declared.tree.LevelExpr as q
use Rattle.vital_operands.specs.declared.tree.VectorExpr as v
use Rattle.vital_typed_cells.specs.PackageWorths.{in_packages, packages_worth}
use Rattle.vital_typed_cells.proofs.CallLemmas.{call-inputs}
use Rattle.vital_typed_cells.proofs.PartLemmas.{conversion-part, conversion-worth, level-turn, levels-parts, logical-parts, not-part, not-worth, others-part, others-worth, primitive-parts, result-call, result-worth, results-call}
use Rattle.vital_typed_cells.proofs.level.+worth.Goals as goal

pub level-level-requires-in-Not : goal.level-level-requires-in-Not
level-level-requires-in-Not t c = (search (rules, q.the_lemmas, v.the_lemmas), not-part c.args.packages.now c.args.tree.now c.in-Not.operand c.get.result.now c.in-Not.is c.get.ensures c.requires)

pub level-levels-requires : goal.level-levels-requires
level-levels-requires t c = (search (rules, q.the_lemmas, v.the_lemmas), logical-parts c.args.packages.now c.args.tree.now c.in-Logical.operator c.in-Logical.operands c.as_slice.result.now c.in-Logical.is c.as_slice.ensures c.requires)

pub level-levels-requires-in-Primitive : goal.level-levels-requires-in-Primitive
level-levels-requires-in-Primitive t c = (search (rules, q.the_lemmas, v.the_lemmas), primitive-parts c.args.packages.now c.args.tree.now c.in-Primitive.of c.in-Primitive.operands c.as_slice-in-Primitive.result.now c.in-Primitive.is c.as_slice-in-Primitive.ensures c.requires)

pub level-level-requires-in-Conversion : goal.level-level-requires-in-Conversion
level-level-requires-in-Conversion t c = (search (rules, q.the_lemmas, v.the_lemmas), conversion-part c.args.packages.now c.args.tree.now c.in-Conversion.to c.in-Conversion.operand c.get-in-Conversion.result.now c.in-Conversion.is c.get-in-Conversion.ensures c.requires)

pub level-results-requires : goal.level-results-requires
level-results-requires t c = (search (rules, q.the_lemmas, v.the_lemmas), result-call c.args.packages.now c.args.tree.now c.in-TruthTable.call c.get-in-TruthTable.result.now c.in-TruthTable.is c.get-in-TruthTable.ensures c.requires)

pub level-returns-in_ok-level-in-Not : goal.level-returns-in_ok-level-in-Not
level-returns-in_ok-level-in-Not t c =
    not-worth (in_packages (packages_worth c.args.packages.now)) c.args.tree.now c.in-Not.operand c.get.result.now _ _ c.in-Not.is c.get.ensures c.in_ok-level-in-Not.ensures c.not1.ensures

pub level-returns-in_ok-level-in-Conversion : goal.level-returns-in_ok-level-in-Conversion
level-returns-in_ok-level-in-Conversion t c =
    conversion-worth (in_packages (packages_worth c.args.packages.now)) c.args.tree.now c.in-Conversion.to c.in-Conversion.operand c.get-in-Conversion.result.now _ _ c.in-Conversion.is c.get-in-Conversion.ensures c.in_ok-level-in-Conversion.ensures c.converted.ensures

pub level-returns-in_ok-results-in-TruthTable : goal.level-returns-in_ok-results-in-TruthTable
level-returns-in_ok-results-in-TruthTable t c =
    result-worth (in_packages (packages_worth c.args.packages.now)) c.args.tree.now c.in-TruthTable.call c.get-in-TruthTable.result.now _ _ _ c.in-TruthTable.is c.get-in-TruthTable.ensures c.in_ok-results-in-TruthTable.ensures c.deref-in-TruthTable.ensures.value c.first.ensures

pub results-vector-requires : goal.results-vector-requires
results-vector-requires t c = (search (rules, q.the_lemmas, v.the_lemmas), call-inputs c.args.packages.now c.args.call.now c.args.count c.requires)

pub vector-levels-requires : goal.vector-levels-requires
vector-levels-requires t c = (search (rules, q.the_lemmas, v.the_lemmas), levels-parts c.args.packages.now c.args.tree.now c.in-Levels.trees c.as_slice.result.now c.in-Levels.is c.as_slice.ensures c.requires)

pub vector-level-requires : goal.vector-level-requires
vector-level-requires t c = (search (rules, q.the_lemmas, v.the_lemmas), others-part c.args.packages.now c.args.tree.now c.in-Others.tree c.in-Others.length c.get.result.now c.in-Others.is c.get.ensures c.requires)

pub vector-results-requires : goal.vector-results-requires
vector-results-requires t c = (search (rules, q.the_lemmas, v.the_lemmas), results-call c.args.packages.now c.args.tree.now c.in-TruthTable.call c.in-TruthTable.length c.get-in-TruthTable.result.now c.in-TruthTable.is c.get-in-TruthTable.ensures c.requires)

pub levels-loop-tree-preserved : goal.levels-loop-tree-preserved
levels-loop-tree-preserved t c =
    let e = in_packages (packages_worth c.args.packages.now) in
    level-turn e c.args.trees.now c.loop-tree.tree-index c.tree-item.result c.in_ok-level.field-0 c.loop-tree.found.items c.push.new.self.items c.loop-tree-test.true c.tree-item.is c.in_ok-level.ensures c.loop-tree.invariant c.in_ok-push.ensures.items

pub vector-returns-in_ok-level-in-Others : goal.vector-returns-in_ok-level-in-Others
vector-returns-in_ok-level-in-Others t c =
    let e = in_packages (packages_worth c.args.packages.now) in
    let l = c.in_ok-level-in-Others.level in
    IfOk-weaker c.copies.result (λ (found : Vec Level Global). found.items ≡ replicate c.in-Others.length l) (λ (found : Vec Level Global). found.items ≡ vector e c.args.tree.now)
    (λ found is. others-worth e c.args.tree.now c.in-Others.tree c.in-Others.length c.get.result.now l found.items c.in-Others.is c.get.ensures c.in_ok-level-in-Others.ensures is) c.copies.ensures
