use Rattle.std.proofs.Common.{rules}
use Rattle.vital_shapes.specs.Reading.{alone}
use Rattle.vital_vhdl.proofs.readers.lists.more.Goals as goal

pub returns : goal.returns
returns g c reader by = c.fold.ensures (alone reader) (record { adds = λ old new found alternative r p. let q = by.reads in search rules })
