use Rattle.std.proofs.Common.{◌≡◌, ◌+◌, ◌<◌, length, get_or, ⊎_elim, arith}
use Rattle.std.proofs.lemmas.Bool.{cases_lt}
use Rattle.vital_vhdl_lexemes.proofs.Separators.{comment_is_longest, no_separator, none_at_end}
use Rattle.vital_vhdl_lexemes.proofs.ends.comment_end.Goals as goal
use Rattle.vital_vhdl_lexemes.proofs.ends.comment_end.Goals.{else-at-text-via-then-at-text+then-text-at-eq45+else-text-at-eq45-2, else-at-text-via-then-at-text+else-text-at-eq45, else-at-text-via-else-at-text}

pub returns-then-text-at-eq45-2 : goal.returns-then-text-at-eq45-2
returns-then-text-at-eq45-2 c =
    comment_is_longest c.args.text.now c.args.at (omega arith) c.run_end.result c.if-text-at-eq45.true c.if-at-text.true c.if-text-at-eq45-2.true c.run_end.ensures

pub returns-else-at-text : goal.returns-else-at-text
returns-else-at-text c =
    let text = c.args.text.now in
    let at = c.args.at in
    let no_comment : get_or text at 0 ≡ 45 → at + 1 < length text → get_or text (at + 1) 0 ≡ 45 → ⊥ = elim c.else-at-text.branch [
      | else-at-text-via-then-at-text+then-text-at-eq45+else-text-at-eq45-2 w ↦ λ _ _ second. w.if-text-at-eq45-2.false second
      | else-at-text-via-then-at-text+else-text-at-eq45 w ↦ λ first _ _. w.if-text-at-eq45.false first
      | else-at-text-via-else-at-text w ↦ λ _ more _. absurd (omega arith)
    ] in
    ⊎_elim
    (λ inside. no_separator text at inside (c.requires.no_blank inside) no_comment)
    (λ past. none_at_end text at (omega arith))
    (cases_lt at (length text))
