use Rattle.std.proofs.Common.{◌∙◌}
use Rattle.vital_library.proofs.FaultLemmas.{fold-one_without}
use Rattle.vital_library.proofs.faults.sooner_without_entity.Goals as goal

pub returns-in-Arch : goal.returns-in-Arch
returns-in-Arch c = c.sooner_of_arch.ensures ∙ fold-one_without c.args.least c.args.names.now c.args.unit.now c.in-Arch.arch c.in-Arch.is
