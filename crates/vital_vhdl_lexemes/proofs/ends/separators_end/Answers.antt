use Rattle.vital_vhdl_lexemes.proofs.Separators.{past_blanks, past_comment, none_follows}
use Rattle.vital_vhdl_lexemes.proofs.ends.separators_end.Goals as goal

pub loop-after-init : goal.loop-after-init
loop-after-init c = record {
  inside = c.run_end-end.ensures.within;
  no_blank = c.run_end-end.ensures.stops;
  parted = λ target rest. past_blanks c.args.text.now target c.args.at c.run_end-end.result c.run_end-end.ensures rest;
}

pub loop-after-preserved : goal.loop-after-preserved
loop-after-preserved c = record {
  inside = c.run_end-end-in-Some.ensures.within;
  no_blank = c.run_end-end-in-Some.ensures.stops;
  parted = λ target rest.
      c.loop-after.invariant.parted target
      (past_comment c.args.text.now target c.loop-after.end c.in-Some.after c.in-Some.ensures
      (past_blanks c.args.text.now target c.in-Some.after c.run_end-end-in-Some.result c.run_end-end-in-Some.ensures rest));
}

pub returns : goal.returns
returns c = c.loop-after.invariant.parted c.loop-after.end (none_follows c.args.text.now c.loop-after.end c.loop-after.invariant.inside c.in_default.ensures)
