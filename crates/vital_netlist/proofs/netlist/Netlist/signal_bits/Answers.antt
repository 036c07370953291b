use Rattle.std.proofs.Common.{map, subst}
use Rattle.vital_netlist.specs.Cells.{Netlist as Netlist'}
use Rattle.vital_netlist.specs.Netlists.{IsNetlist}
use Rattle.vital_netlist.proofs.ConnectionLemmas.{own_signals}
use Rattle.vital_netlist.proofs.netlist.Netlist.signal_bits.Goals as goal

pub returns-clause-own : goal.returns-clause-own
returns-clause-own c =
    let s = c.self.inside in
    let self = c.args.self.now in
    let units = s.units.items in
    let kept = map (λ ks. ks.items) s.connections.items in
    let P : Netlist' → Type 0 = λ n. IsNetlist n.files n.instances units kept in
    own_signals self.files self.instances units kept (subst P c.self.view_is c.self.invariant) c.args.instance c.in-Some.unit.now c.deref.result.now c.in-Some.ensures c.deref.ensures.value
