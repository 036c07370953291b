use Rattle.vital_lex.proofs.Outcomes.{exactly_one}
use Rattle.vital_lex.proofs.lexer.one_outcome.Goals as goal

pub returns : goal.returns
returns g c = λ text room. exactly_one g.L.Lexicon.lexicon g.met.L.Lexicon.is_lexicon text room
