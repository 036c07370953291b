use Rattle.std.proofs.Common.{◌≡◌, [], map, take}
use Rattle.std.specs.Prelude.{filter}
use Rattle.vital_annotate.specs.Keyed.{fits_at}
use Rattle.vital_annotate.proofs.instances.CellInstances.at_path.Given as goal

abbrev pub invariant-loop-number : goal.invariant-loop-number
invariant-loop-number l = filter (fits_at l.self (map (λ part. part.now) l.parts)) (take l.number-index l.numbers) ≡ []
