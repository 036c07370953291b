use Rattle.vital_vhdl_lexemes.proofs.FoundLexemes.{string_unclosed, string_found}
use Rattle.vital_vhdl_lexemes.proofs.lexemes.string_literal_at.Goals as goal

pub returns-in_err-end : goal.returns-in_err-end
returns-in_err-end c = λ before. rw c.from_residual.ensures (string_unclosed before c.args.text.now c.args.at c.requires.inside c.requires.mark c.in_err-end.ensures)

pub returns : goal.returns
returns c = λ before. string_found before c.args.text.now c.args.at c.requires.inside c.requires.mark c.in_ok-end.end c.in_ok-end.ensures
