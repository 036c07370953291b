use Rattle.vital_typed_cells.proofs.PackageLemmas.{sound-at}
use Rattle.vital_typed_cells.proofs.worths.put_level.Goals as goal

pub level_of_value-requires : goal.level_of_value-requires
level_of_value-requires c =
    sound-at c.args.known.now c.args.values.now c.args.number c.index-values-number.result c.requires.before c.index-values-number.is c.requires.there c.requires.sound
