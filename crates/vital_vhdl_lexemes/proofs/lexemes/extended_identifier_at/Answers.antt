use Rattle.std.proofs.Common.{ℕ, ◌+◌, subst}
use Rattle.vital_vhdl_lexemes.specs.Forms.{closes}
use Rattle.vital_vhdl_lexemes.specs.Longest.{IsLongest}
use Rattle.vital_vhdl_lexemes.proofs.FoundLexemes.{extended_unclosed, extended_empty, extended_found}
use Rattle.vital_vhdl_lexemes.proofs.lexemes.extended_identifier_at.Goals as goal

pub returns-in_err-end : goal.returns-in_err-end
returns-in_err-end c = λ before. rw c.from_residual.ensures (extended_unclosed before c.args.text.now c.args.at c.requires.inside c.requires.backslash c.in_err-end.ensures)

pub returns-then-end-at : goal.returns-then-end-at
returns-then-end-at c = λ before. extended_empty before c.args.text.now c.args.at c.requires.inside c.requires.backslash (subst (λ (e : ℕ). IsLongest (closes 92) c.args.text.now (c.args.at + 1) e) c.if-end-at.true c.in_ok-end.ensures)

pub returns : goal.returns
returns c = λ before. extended_found before c.args.text.now c.args.at c.requires.inside c.requires.backslash c.in_ok-end.end c.if-end-at.false c.in_ok-end.ensures
