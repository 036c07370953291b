use Rattle.std.proofs.Common.{take}
use Rattle.vital_netlist.specs.Netlists.{HasUnits}
use Rattle.vital_netlist.proofs.unit_table.units_of.Given as goal

abbrev pub invariant-loop-instance : goal.invariant-loop-instance
invariant-loop-instance l = HasUnits l.parts.library.now (take l.instance-index l.parts.instances.now) l.units.items
