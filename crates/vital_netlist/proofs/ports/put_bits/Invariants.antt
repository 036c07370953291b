use Rattle.std.proofs.Common.{◌≡◌, ◌≤◌, ◌-◌, ◌++◌}
use Rattle.vital_connections.specs.Objects.{lent}
use Rattle.vital_netlist.specs.Ports.{first_bits}
use Rattle.vital_netlist.proofs.ports.put_bits.Given as goal

abbrev pub invariant-loop-alloc : goal.invariant-loop-alloc
invariant-loop-alloc l = record {
  put : l.ports.items ≡ l.initial.ports.items ++ first_bits (lent l.object) l.mode l.offset;
  within : l.offset ≤ l.count;
}

abbrev pub decreases-loop-alloc : goal.decreases-loop-alloc
decreases-loop-alloc l = l.count - l.offset
