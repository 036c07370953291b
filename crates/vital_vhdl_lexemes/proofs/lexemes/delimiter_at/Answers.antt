use Rattle.std.proofs.Common.{sym}
use Rattle.vital_vhdl_lexemes.proofs.FoundLexemes.{compound_found, delimiter_found, no_delimiter}
use Rattle.vital_vhdl_lexemes.proofs.lexemes.delimiter_at.Goals as goal

pub returns-in-Some : goal.returns-in-Some
returns-in-Some c = λ before.
    compound_found before c.args.text.now c.args.at c.requires.inside c.requires.other c.in-Some.kind (c.in-Some.ensures).0 (c.in-Some.ensures).1

pub returns-in_err-kind : goal.returns-in_err-kind
returns-in_err-kind c = λ before.
    rw c.from_residual.ensures (no_delimiter before c.args.text.now c.args.at c.requires.inside c.requires.other c.in_default.ensures (sym c.in_err-kind.ensures))

pub returns : goal.returns
returns c = λ before.
    delimiter_found before c.args.text.now c.args.at c.requires.inside c.requires.other c.in_default.ensures c.in_ok-kind.kind (sym c.in_ok-kind.ensures)
