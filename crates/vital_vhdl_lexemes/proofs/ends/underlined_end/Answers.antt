use Rattle.std.proofs.Common.{◌≡◌, ◌+◌, ◌<◌, length, false, get_or, sym, ◌∙◌, arith}
use Rattle.vital_vhdl_lexemes.proofs.Underlined.{underlined_more, underlined_past, stops_before}
use Rattle.vital_vhdl_lexemes.proofs.ends.underlined_end.Goals as goal
use Rattle.vital_vhdl_lexemes.proofs.ends.underlined_end.Goals.{else-text-end-eq95-via-then-text-end-eq95+then-end-text+else-has-2, else-text-end-eq95-via-then-text-end-eq95+else-end-text, else-text-end-eq95-via-else-text-end-eq95}

pub loop-end-preserved-then-has : goal.loop-end-preserved-then-has
loop-end-preserved-then-has g c = record {
  forward = omega arith;
  within = omega arith;
  joined = underlined_more g.C.ByteClass.has c.args.text.now c.args.at c.loop-end.end (omega arith) c.loop-end-test.true c.loop-end.invariant.joined (sym c.has.ensures ∙ c.if-has.true);
}

pub loop-end-preserved : goal.loop-end-preserved
loop-end-preserved g c = record {
  forward = omega arith;
  within = omega arith;
  joined = underlined_past g.C.ByteClass.has c.args.text.now c.args.at c.loop-end.end (omega arith) c.if-end-text.true c.loop-end.invariant.joined c.if-text-end-eq95.true (sym c.has-then-end-text.ensures ∙ c.if-has-2.true);
}

-- neither the class nor an underline before it goes on
pub returns-else-text-end-eq95 : goal.returns-else-text-end-eq95
returns-else-text-end-eq95 g c =
    let class = g.C.ByteClass.has in
    let text = c.args.text.now in
    let end = c.loop-end.end in
    let after : get_or text end 0 ≡ 95 → end + 1 < length text → class (get_or text (end + 1) 0) ≡ false = elim c.else-text-end-eq95.branch [
      | else-text-end-eq95-via-then-text-end-eq95+then-end-text+else-has-2 w ↦ λ _ _. sym w.has-then-end-text.ensures ∙ w.if-has-2.false
      | else-text-end-eq95-via-then-text-end-eq95+else-end-text w ↦ λ _ more. absurd (omega arith)
      | else-text-end-eq95-via-else-text-end-eq95 w ↦ λ underline _. absurd (w.if-text-end-eq95.false underline)
    ] in
    record {
      forward = c.loop-end.invariant.forward;
      within = c.loop-end.invariant.within;
      joined = c.loop-end.invariant.joined;
      stops = stops_before class text end (sym c.has.ensures ∙ c.if-has.false) after;
    }
