use Rattle.vital_vhdl_lexemes.specs.Bytes.{is_digit}
use Rattle.vital_vhdl_lexemes.proofs.Underlined.{underlined_longest}
use Rattle.vital_vhdl_lexemes.proofs.ends.integer_end.Goals as goal

pub returns-clause-longest : goal.returns-clause-longest
returns-clause-longest c = underlined_longest is_digit c.args.text.now is_digit c.args.at c.underlined_end.result c.requires.digit c.underlined_end.ensures
