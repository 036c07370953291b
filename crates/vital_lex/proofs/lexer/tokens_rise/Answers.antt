use Rattle.vital_lex.proofs.Rising.{rising}
use Rattle.vital_lex.proofs.lexer.tokens_rise.Goals as goal

pub returns-clause-rise : goal.returns-clause-rise
returns-clause-rise g c = λ text tokens lexes. (rising g.L.Lexicon.lexicon g.met.L.Lexicon.is_lexicon text tokens lexes).1

pub returns-clause-within : goal.returns-clause-within
returns-clause-within g c = λ text tokens lexes. (rising g.L.Lexicon.lexicon g.met.L.Lexicon.is_lexicon text tokens lexes).0
