use Rattle.std.proofs.Common.{sym, ◌∙◌}
use Rattle.vital_vhdl_lexemes.proofs.FoundLexemes.{word_found, number_found}
use Rattle.vital_vhdl_lexemes.proofs.lexemes.lexeme_at.Goals as goal

pub returns-then-is_ascii_alphabetic : goal.returns-then-is_ascii_alphabetic
returns-then-is_ascii_alphabetic c =
    word_found c.args.before c.args.text.now c.args.at c.requires c.identifier_end-end.result (sym c.is_ascii_alphabetic.ensures.value ∙ c.if-is_ascii_alphabetic.true) c.identifier_end-end.ensures _ c.word_kind-kind.ensures

pub returns-then-is_ascii_digit : goal.returns-then-is_ascii_digit
returns-then-is_ascii_digit c =
    number_found c.args.before c.args.text.now c.args.at c.requires c.number_end-end.result (sym c.is_ascii_digit.ensures.value ∙ c.if-is_ascii_digit.true) c.number_end-end.ensures
