use Rattle.vital_lex.proofs.Readings.{parted_inside, past}
use Rattle.vital_lex.proofs.lexer.Lexer.pass_separators.Goals as goal

pub returns-clause-reading : goal.returns-clause-reading
returns-clause-reading g c = past g.L.Lexicon.lexicon g.met.L.Lexicon.is_lexicon c.args.self.now c.requires c.pass_separators-self.result c.pass_separators-self.ensures

pub returns-clause-forward : goal.returns-clause-forward
returns-clause-forward g c = (parted_inside g.L.Lexicon.lexicon g.met.L.Lexicon.is_lexicon c.args.self.now.text.now c.pass_separators-self.ensures).0

pub returns-clause-stops : goal.returns-clause-stops
returns-clause-stops g c = (parted_inside g.L.Lexicon.lexicon g.met.L.Lexicon.is_lexicon c.args.self.now.text.now c.pass_separators-self.ensures).2
