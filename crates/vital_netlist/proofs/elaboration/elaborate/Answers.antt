use Rattle.std.proofs.Common.{◌≤◌, length, arith}
use Rattle.vital_netlist.proofs.DesignLemmas.{design-is, design-sound}
use Rattle.vital_netlist.proofs.elaboration.elaborate.Goals as goal

pub new-requires-4 : goal.new-requires-4
new-requires-4 c =
    let parts = c.args.parts.now in
    let netlist = c.in_ok-netlist.netlist in
    let drivers = c.in_ok-wiring.field-0.drivers in
    let room : length drivers.items ≤ 2147483647 = omega (arith, drivers.ok.0, c.len.ensures, c.if-len-gt-MOST_DRIVERS.false) in
    design-sound parts.library.now parts.instances.now netlist _ drivers.items
    c.designs_are_sound.ensures c.requires.read c.requires.entered c.in_ok-netlist.ensures c.in_ok-signals.ensures.0 c.in_ok-wiring.ensures.drivers room
    (design-is parts.library.now parts.instances.now netlist parts.cells.now _
    c.in_ok-netlist.ensures c.requires.cells c.in_ok-instances_of.ensures c.in_ok-signals_of.ensures c.in_ok-wiring.ensures.drivers c.in_ok-ports_of.ensures
    c.all.ensures c.in_ok-wiring.ensures.wiring)
