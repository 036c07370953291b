use Rattle.std.proofs.Common.{◌≡◌, map, take}
use Rattle.std.specs.Prelude.{filter, is_some}
use Rattle.vital_names.specs.FirstNames.{first_in}
use Rattle.vital_uses.specs.NamesAt.{lent_name}
use Rattle.vital_variables.proofs.second_uses.among.Given as goal

abbrev pub invariant-loop-one : goal.invariant-loop-one
invariant-loop-one l = map lent_name l.among.items ≡ filter (λ u. is_some (first_in l.names u.name)) (map lent_name (take l.one-index l.uses))
