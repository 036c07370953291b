use Rattle.std.proofs.Common.{◌≡◌, ◌+◌, ◌<◌, length, get_or, sym, ◌∙◌, arith}
use Rattle.vital_vhdl_lexemes.proofs.Quoted.{open_graphic, open_pair, closed_graphic, closed_pair, closed_single, closed_at_other}
use Rattle.vital_vhdl_lexemes.proofs.ends.quoted_end.Goals as goal
use Rattle.vital_vhdl_lexemes.proofs.ends.quoted_end.Goals.{then-end-text-via-then-end-text, then-end-text-via-else-end-text+then-text-end}

-- a mark with no second one
pub returns-then-end-text : goal.returns-then-end-text
returns-then-end-text c =
    let text = c.args.text.now in
    let end = c.loop-end.end in
    let alone : end + 1 < length text → get_or text (end + 1) 0 ≡ c.args.mark → ⊥ = elim c.then-end-text.branch [
      | then-end-text-via-then-end-text w ↦ λ more _. absurd (omega (arith, w.if-end-text.true))
      | then-end-text-via-else-end-text+then-text-end w ↦ λ _ second. w.if-text-end.true second
    ] in
    closed_single c.args.mark text c.args.at end c.loop-end.invariant.forward c.loop-end.invariant.open_here c.loop-end-test.true c.if-b-mark.true alone

-- two marks
pub loop-end-preserved-then-b-mark : goal.loop-end-preserved-then-b-mark
loop-end-preserved-then-b-mark c =
    let more : c.loop-end.end + 1 < length c.args.text.now = omega arith in
    record {
      forward = omega arith;
      within = omega arith;
      open_here = open_pair c.args.mark c.args.text.now c.args.at c.loop-end.end c.loop-end.invariant.forward c.loop-end.invariant.open_here more c.if-b-mark.true c.if-text-end.false;
      last_closed = closed_pair c.args.mark c.args.text.now c.args.at c.loop-end.end c.loop-end.invariant.forward c.loop-end.invariant.open_here more c.if-b-mark.true c.if-text-end.false;
    }

-- another graphic byte
pub loop-end-preserved : goal.loop-end-preserved
loop-end-preserved c =
    let graphic = sym c.is_graphic.ensures ∙ c.if-is_graphic.true in
    record {
      forward = omega arith;
      within = omega arith;
      open_here = open_graphic c.args.mark c.args.text.now c.args.at c.loop-end.end c.loop-end.invariant.forward c.loop-end.invariant.open_here c.loop-end-test.true c.if-b-mark.false graphic;
      last_closed = closed_graphic c.args.mark c.args.text.now c.args.at c.loop-end.end c.loop-end.invariant.forward c.loop-end.invariant.open_here c.loop-end.closed c.loop-end-test.true c.if-b-mark.false graphic c.loop-end.invariant.last_closed;
    }

-- a byte that is not graphic
pub returns-else-is_graphic : goal.returns-else-is_graphic
returns-else-is_graphic c =
    closed_at_other c.args.mark c.args.text.now c.args.at c.loop-end.end c.loop-end.invariant.forward c.loop-end.invariant.open_here c.loop-end.closed c.loop-end-test.true c.if-b-mark.false (sym c.is_graphic.ensures ∙ c.if-is_graphic.false) c.loop-end.invariant.last_closed
