use Rattle.std.proofs.Common.{◌≡◌, map, take}
use Rattle.std.specs.List.{filter_map}
use Rattle.vital_uses.specs.Asked.{lent_asked}
use Rattle.vital_uses.specs.NamesAt.{lent_name}
use Rattle.vital_variables.specs.Variables.{use_of}
use Rattle.vital_variables.proofs.variables.uses.Given as goal

abbrev pub invariant-loop-one : goal.invariant-loop-one
invariant-loop-one l = map lent_name l.uses.items ≡ filter_map use_of (map lent_asked (take l.one-index l.asked))
