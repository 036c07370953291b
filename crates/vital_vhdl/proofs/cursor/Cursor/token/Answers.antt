use Rattle.vital_vhdl.proofs.IdentifierNames.{named_past_end}
use Rattle.vital_vhdl.proofs.cursor.Cursor.token.Goals as goal

pub returns-in-empty-clause-named : goal.returns-in-empty-clause-named
returns-in-empty-clause-named c = named_past_end c.args.self.now.text
