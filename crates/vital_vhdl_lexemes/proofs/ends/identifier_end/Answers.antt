use Rattle.vital_vhdl_lexemes.specs.Bytes.{is_letter, is_letter_or_digit}
use Rattle.vital_vhdl_lexemes.proofs.Underlined.{underlined_longest}
use Rattle.vital_vhdl_lexemes.proofs.ends.identifier_end.Goals as goal

pub returns : goal.returns
returns c = underlined_longest is_letter_or_digit c.args.text.now is_letter c.args.at c.underlined_end.result c.requires.letter c.underlined_end.ensures
