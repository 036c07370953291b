use Rattle.std.proofs.Common.{◌≡◌, ℕ, List, map, take}
use Rattle.std.specs.Option.{option_map}
use Rattle.vital_names.specs.Declarations.{first_named, lent}
use Rattle.vital_names.specs.FirstNames.{first_in}
use Rattle.vital_names.proofs.first_names.first_names.Given as goal

abbrev pub invariant-loop-one : goal.invariant-loop-one
invariant-loop-one l = (name : List ℕ) → option_map lent (first_in l.names name) ≡ first_named name (map lent (take l.one-index l.declared))
