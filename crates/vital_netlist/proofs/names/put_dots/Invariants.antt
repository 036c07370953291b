use Rattle.std.proofs.Common.{◌≡◌, ◌++◌, map, take}
use Rattle.vital_netlist.specs.Names.{with_dots}
use Rattle.vital_netlist.proofs.names.put_dots.Given as goal

abbrev pub invariant-loop-label : goal.invariant-loop-label
invariant-loop-label l = l.text.items ≡ l.initial.text.items ++ with_dots (map (λ n. n.now) (take l.label-index l.labels))
