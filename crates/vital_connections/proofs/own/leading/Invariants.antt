use Rattle.std.proofs.Common.{◌≡◌, ◌+◌, drop}
use Rattle.vital_connections.specs.Own.{leading}
use Rattle.vital_connections.proofs.own.leading.Given as goal

abbrev pub invariant-loop-count : goal.invariant-loop-count
invariant-loop-count l = leading l.port l.spans ≡ l.count + leading l.port (drop l.count l.spans)
