use Rattle.std.proofs.Common.{arith}
use Rattle.vital_annotate.proofs.IndexLemmas.{generics-more}
use Rattle.vital_annotate.proofs.cell_index.numbers_of.Goals as goal

pub loop-number-preserved : goal.loop-number-preserved
loop-number-preserved c = λ name.
    generics-more c.args.generics.now c.loop-number.number c.index-generics-number.result name _ _ c.as_slice.result.now (omega arith)
    c.index-generics-number.is c.as_slice.ensures (c.loop-number.invariant name) (c.in_ok-put_first.ensures name)
