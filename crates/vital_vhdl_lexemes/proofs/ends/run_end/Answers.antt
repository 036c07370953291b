use Rattle.std.proofs.Common.{arith, sym, ◌∙◌}
use Rattle.vital_vhdl_lexemes.proofs.Separators.{run_more}
use Rattle.vital_vhdl_lexemes.proofs.ends.run_end.Goals as goal

pub loop-end-preserved : goal.loop-end-preserved
loop-end-preserved g c = record {
  forward = omega arith;
  within = omega arith;
  passes = run_more c.args.text.now g.C.ByteClass.has c.args.at c.loop-end.end c.loop-end.invariant.forward c.loop-end-test.true c.loop-end.invariant.passes (sym c.has.ensures ∙ c.if-has.true);
}
