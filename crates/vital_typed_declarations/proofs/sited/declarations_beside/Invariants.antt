use Rattle.std.proofs.Common.{◌≡◌, ◌++◌, drop, map}
use Rattle.std.specs.Option.{option_copied}
use Rattle.vital_typed_declarations.specs.Declarations.{lent_sited}
use Rattle.vital_uses.specs.Sited.{beside}
use Rattle.vital_typed_declarations.proofs.sited.declarations_beside.Given as goal

abbrev pub invariant-loop-declaration : goal.invariant-loop-declaration
invariant-loop-declaration g l =
    map lent_sited l.all.items ++ beside l.unit (option_copied l.process) l.places (drop l.declaration-index l.declarations)
    ≡ beside l.unit (option_copied l.process) l.viewpoints l.declarations
