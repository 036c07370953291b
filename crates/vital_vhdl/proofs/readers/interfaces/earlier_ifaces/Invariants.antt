use Rattle.std.proofs.Common.{◌≡◌, ◌++◌, map}
use Rattle.vital_vhdl.specs.Together.{earlier_iface}
use Rattle.vital_vhdl.proofs.readers.interfaces.earlier_ifaces.Given as goal

abbrev pub invariant-loop-identifier : goal.invariant-loop-identifier
invariant-loop-identifier l = l.found ≡ l.fn.found ++ map (earlier_iface l.parts) l.yielded
