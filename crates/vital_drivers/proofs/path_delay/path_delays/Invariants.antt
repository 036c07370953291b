use Rattle.std.proofs.Common.{◌≡◌, map, take}
use Rattle.std.specs.List.{flat_map}
use Rattle.vital_drivers.specs.PathDelays.{lent, path_delays_in}
use Rattle.vital_drivers.proofs.path_delay.path_delays.Given as goal

abbrev pub invariant-loop-conc : goal.invariant-loop-conc
invariant-loop-conc l = map lent l.delays.items ≡ flat_map (path_delays_in l.names) (map (λ c. c.now) (take l.conc-index l.conc-items))
