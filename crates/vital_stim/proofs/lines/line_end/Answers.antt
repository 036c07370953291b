use Rattle.std.proofs.Common.{◌≤◌, length, sym, ◌∙◌, subst}
use Rattle.vital_stim.proofs.LineLemmas.{is_within, searched}
use Rattle.vital_stim.proofs.lines.line_end.Goals as goal

pub returns-clause-place : goal.returns-clause-place
returns-clause-place c = c.unwrap_or.ensures ∙ searched c.args.text.now _ c.memchr.ensures

pub returns-clause-within : goal.returns-clause-within
returns-clause-within c =
    let text = c.args.text.now in
    let place = c.unwrap_or.ensures ∙ searched text _ c.memchr.ensures in
    subst (λ n. n ≤ length text) (sym place) (is_within text)
