use Rattle.std.proofs.Common.{◌≡◌, ℕ, List, map, take}
use Rattle.vital_names.specs.FirstNames.{first_in}
use Rattle.vital_uses.specs.NamesAt.{first_place, lent_name}
use Rattle.vital_uses.proofs.names_at.first_places.Given as goal

abbrev pub invariant-loop-one : goal.invariant-loop-one
invariant-loop-one l = (name : List ℕ) → first_in l.places name ≡ first_place (map lent_name (take l.one-index l.names)) name
