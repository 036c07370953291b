use Rattle.std.proofs.Common.{◌≡◌, length, arith}
use Rattle.vital_connections.specs.Objects.{lent}
use Rattle.vital_netlist.specs.Nets.{most_signals}
use Rattle.vital_netlist.proofs.SignalLemmas.{told_one}
use Rattle.vital_netlist.proofs.signals.put.Goals as goal

pub returns-in-Some-clause-told : goal.returns-in-Some-clause-told
returns-in-Some-clause-told c =
    let netlist = c.args.netlist.now in
    let bits = c.args.bits.now.items in
    let full : length bits ≡ most_signals = omega (arith, c.len.ensures, c.args.bits.now.ok.0) in
    told_one netlist.files netlist.instances bits c.args.bit (lent c.in-Some.object) full c.in-Some.ensures
