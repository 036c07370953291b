use Rattle.vital_vhdl_lexemes.proofs.TokenLexemes.{token_lexemes}
use Rattle.vital_vhdl_lexemes.proofs.laws.tokens_are_lexemes.Goals as goal

pub returns : goal.returns
returns c = token_lexemes
