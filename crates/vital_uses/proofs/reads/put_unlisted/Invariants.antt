use Rattle.std.proofs.Common.{◌≡◌, map, take, ◌++◌}
use Rattle.std.specs.Prelude.{filter, is_some}
use Rattle.vital_names.specs.FirstNames.{first_in}
use Rattle.vital_uses.specs.Asked.{lent_asked}
use Rattle.vital_uses.specs.Reads.{is_unlisted}
use Rattle.vital_uses.proofs.reads.put_unlisted.Given as goal

abbrev pub invariant-loop-one : goal.invariant-loop-one
invariant-loop-one l = l.places.items ≡ l.initial.places.items ++ map (λ a. a.identifier.place) (filter (is_unlisted (λ name. is_some (first_in l.listed name))) (map lent_asked (take l.one-index l.asked)))
