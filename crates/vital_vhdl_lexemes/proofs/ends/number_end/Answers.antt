use Rattle.std.proofs.Common.{◌≡◌, ◌+◌, ◌<◌, length, false, get_or, sym, ◌∙◌, arith}
use Rattle.vital_vhdl_lexemes.specs.Bytes.{is_digit}
use Rattle.vital_vhdl_lexemes.proofs.Numbers.{number_of_integer, number_with_fraction}
use Rattle.vital_vhdl_lexemes.proofs.ends.number_end.Goals as goal
use Rattle.vital_vhdl_lexemes.proofs.ends.number_end.Goals.{else-point-text-via-then-point-text+then-text-point-eq46+else-is_ascii_digit, else-point-text-via-then-point-text+else-text-point-eq46, else-point-text-via-else-point-text}

pub returns-then-is_ascii_digit : goal.returns-then-is_ascii_digit
returns-then-is_ascii_digit c =
    number_with_fraction c.args.text.now c.args.at c.integer_end-point.result c.integer_end-point.ensures.longest c.integer_end.result (omega arith) c.if-text-point-eq46.true c.integer_end.ensures.longest

pub returns-else-point-text : goal.returns-else-point-text
returns-else-point-text c =
    let text = c.args.text.now in
    let point = c.integer_end-point.result in
    let no_fraction : get_or text point 0 ≡ 46 → point + 1 < length text → is_digit (get_or text (point + 1) 0) ≡ false = elim c.else-point-text.branch [
      | else-point-text-via-then-point-text+then-text-point-eq46+else-is_ascii_digit w ↦ λ _ _. sym w.is_ascii_digit.ensures.value ∙ w.if-is_ascii_digit.false
      | else-point-text-via-then-point-text+else-text-point-eq46 w ↦ λ dot _. absurd (w.if-text-point-eq46.false dot)
      | else-point-text-via-else-point-text w ↦ λ _ more. absurd (omega arith)
    ] in
    number_of_integer text c.args.at point c.integer_end-point.ensures.longest c.integer_end-point.ensures.stops no_fraction
