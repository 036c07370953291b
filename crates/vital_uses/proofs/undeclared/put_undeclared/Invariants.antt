use Rattle.std.proofs.Common.{◌≡◌, map, take, ◌++◌}
use Rattle.vital_uses.specs.Asked.{lent_asked}
use Rattle.vital_uses.specs.Undeclared.{undeclared}
use Rattle.vital_uses.proofs.undeclared.put_undeclared.Given as goal

abbrev pub invariant-loop-one : goal.invariant-loop-one
invariant-loop-one l = l.places.items ≡ l.initial.places.items ++ undeclared (map lent_asked (take l.one-index l.asked))
