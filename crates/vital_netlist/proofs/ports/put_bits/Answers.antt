use Rattle.std.proofs.Common.{◌≡◌, ◌+◌, true, arith}
use Rattle.std.specs.Prelude.{nat_lt, Some}
use Rattle.vital_connections.specs.Objects.{lent}
use Rattle.vital_netlist.specs.Elaboration.{port_bit_in}
use Rattle.vital_netlist.specs.Bits.{bit}
use Rattle.vital_netlist.proofs.PortLemmas.{bits-turn, within-next}
use Rattle.vital_netlist.proofs.ports.put_bits.Goals as goal

pub loop-alloc-preserved : goal.loop-alloc-preserved
loop-alloc-preserved c =
    let k = c.loop-alloc.offset in
    let next = c.in_ok-offset.offset in
    let one : next ≡ k + 1 = omega arith in
    let less : nat_lt k c.args.count.now ≡ true = cc in
    let here : port_bit_in (bit 0 (0, k)) (lent c.args.object) (Some c.args.mode) ≡ Some c.in_ok-port_bit.field-0 = c.in_ok-port_bit.ensures (bit 0 (0, k)) (cc) in
    record {
      put = bits-turn (lent c.args.object) c.args.mode k next c.in_ok-port_bit.field-0 c.args.ports.now.items c.loop-alloc.ports.items c.push.new.self.items one here c.loop-alloc.invariant.put c.in_ok-push.ensures.items;
      within = within-next k next c.args.count.now one less;
    }
