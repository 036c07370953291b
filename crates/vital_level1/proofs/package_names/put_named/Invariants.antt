use Rattle.std.proofs.Common.{◌≡◌, ◌++◌, map, take}
use Rattle.std.specs.List.{filter_map}
use Rattle.vital_level1.specs.Packages.{named_by}
use Rattle.vital_uses.specs.Asked.{lent_asked}
use Rattle.vital_level1.proofs.package_names.put_named.Given as goal

abbrev pub invariant-loop-one : goal.invariant-loop-one
invariant-loop-one l = l.named.items ≡ l.initial.named.items ++ filter_map (named_by) (map lent_asked (take l.one-index l.asked))
