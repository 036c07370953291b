use Rattle.std.proofs.Common.{sym, ◌∙◌}
use Rattle.vital_stim.proofs.SpellingLemmas.{recalls}
use Rattle.vital_stim.proofs.spellings.Spellings.port.Goals as goal

pub returns-then-eq : goal.returns-then-eq
returns-then-eq c = λ given ports h. recalls given c.args.self.now ports c.from.result c.in_ok-spelling.spelling c.args.bytes.now h c.in_ok-spelling.was (sym c.eq.ensures ∙ c.if-eq.true)
