use Rattle.std.proofs.Common.{rules}
use Rattle.vital_sdf.specs.Entries.{one_more}
use Rattle.vital_sdf.proofs.readers.lists.more.Goals as goal

pub returns : goal.returns
returns g c reader by = c.repeated.ensures (one_more reader) (record { makes = λ old new found r p. let q = by.reads in search rules })
