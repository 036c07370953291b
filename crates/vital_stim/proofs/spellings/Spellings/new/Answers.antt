use Rattle.std.specs.Prelude.{None, IfSome}
use Rattle.std.proofs.lemmas.List.Elements.{All-replicate}
use Rattle.vital_stim.specs.Spellings.{Spells}
use Rattle.vital_stim.proofs.spellings.Spellings.new.Goals as goal

pub returns : goal.returns
returns c = λ given ports. All-replicate (λ slot. IfSome slot (λ spelling. Spells given ports spelling.bytes.now spelling.port)) 256 None tt
