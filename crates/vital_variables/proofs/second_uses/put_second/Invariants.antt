use Rattle.std.proofs.Common.{◌≡◌, map, take, ◌++◌}
use Rattle.std.specs.Prelude.{filter}
use Rattle.vital_names.specs.FirstNames.{first_in}
use Rattle.vital_uses.specs.NamesAt.{lent_name}
use Rattle.vital_variables.specs.SecondUses.{is_elsewhere}
use Rattle.vital_variables.proofs.second_uses.put_second.Given as goal

abbrev pub invariant-loop-one : goal.invariant-loop-one
invariant-loop-one l = l.places.items ≡ l.initial.places.items ++ map (λ u. u.place) (filter (λ u. is_elsewhere u.place (first_in l.firsts u.name)) (map lent_name (take l.one-index l.uses)))
