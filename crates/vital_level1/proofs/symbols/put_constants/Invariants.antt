use Rattle.std.proofs.Common.{map, take}
use Rattle.vital_typed_declarations.specs.Declarations.{lent_sited}
use Rattle.vital_level1.specs.Kept.{HasMoreConstants}
use Rattle.vital_level1.proofs.symbols.put_constants.Given as goal

abbrev pub invariant-loop-declaration : goal.invariant-loop-declaration
invariant-loop-declaration l = HasMoreConstants l.constants l.initial.constants (map lent_sited (take l.declaration-index l.declarations))
