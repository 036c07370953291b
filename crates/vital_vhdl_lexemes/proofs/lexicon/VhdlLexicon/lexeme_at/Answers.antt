use Rattle.vital_vhdl_lexemes.proofs.Found.{lexeme_found}
use Rattle.vital_vhdl_lexemes.proofs.lexicon.VhdlLexicon.lexeme_at.Goals as goal

pub returns : goal.returns
returns c = lexeme_found c.args.before c.args.text.now c.args.at c.lexeme_at.result c.lexeme_at.ensures
