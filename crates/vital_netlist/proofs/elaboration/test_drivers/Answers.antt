use Rattle.std.proofs.Common.{◌≡◌, ◌<◌, length, subst, arith}
use Rattle.std.proofs.lemmas.Result.{err_from_is_err_and}
use Rattle.std.specs.Prelude.{Option}
use Rattle.vital_netlist.specs.DesignDrivers.{driver_count}
use Rattle.vital_netlist.specs.Elaboration.{Fault}
use Rattle.vital_netlist.specs.Refusals.{IsFaultIn}
use Rattle.vital_netlist.proofs.CountLemmas.{count-at, count-there, fault-here, none-all, none-past}
use Rattle.vital_netlist.proofs.elaboration.test_drivers.Goals as goal

pub index-requires : goal.index-requires
index-requires c =
    let counts = c.in_ok-counts.counts in
    let there : c.loop-number.number < length counts.items =
    count-there c.bits.result.now c.bits-bit-items.result.now c.args.signals.now c.args.drivers.now counts.items c.loop-number.number
    c.bits.ensures c.bits-bit-items.ensures c.in_ok-counts.ensures c.loop-number-test.true in
    omega (arith, counts.ok.0)

pub loop-number-preserved : goal.loop-number-preserved
loop-number-preserved c =
    let files = c.args.netlist.now.files in
    let is = c.args.netlist.now.instances in
    let k = c.loop-number.number in
    let counted : c.index.result.now ≡ driver_count files is k =
    count-at files is c.bits.result.now c.bits-bit-items.result.now c.args.signals.now c.args.drivers.now c.in_ok-counts.counts.items k c.index.result.now
    c.requires.drivers c.bits.ensures c.bits-bit-items.ensures c.in_ok-counts.ensures c.loop-number-test.true c.index.ensures in
    none-past files is c.bits-bit-items.result.now c.args.signals.now k c.index.result.now c.bit-item.result
    c.bits-bit-items.ensures c.loop-number-test.true c.bit-item.is counted c.loop-number.invariant c.in_ok-test_signal.ensures.one

pub returns-in_err-test_signal-clause-fault : goal.returns-in_err-test_signal-clause-fault
returns-in_err-test_signal-clause-fault c =
    let files = c.args.netlist.now.files in
    let is = c.args.netlist.now.instances in
    let k = c.loop-number.number in
    let counted : c.index.result.now ≡ driver_count files is k =
    count-at files is c.bits.result.now c.bits-bit-items.result.now c.args.signals.now c.args.drivers.now c.in_ok-counts.counts.items k c.index.result.now
    c.requires.drivers c.bits.ensures c.bits-bit-items.ensures c.in_ok-counts.ensures c.loop-number-test.true c.index.ensures in
    let here =
    fault-here files is c.bits-bit-items.result.now c.args.signals.now k c.index.result.now c.bit-item.result
    c.requires.signals c.bits-bit-items.ensures c.loop-number-test.true c.bit-item.is counted c.loop-number.invariant c.in_err-test_signal.ensures.two in
    let p = err_from_is_err_and c.from_residual-in_err-test_signal.result c.from_residual-in_err-test_signal.ensures.1 in
    rw (p.1, p.2) (subst (λ (f : Option Fault). IsFaultIn f c.in_err-test_signal.field-0.0) here c.in_err-test_signal.ensures.fault)

pub returns-clause-none : goal.returns-clause-none
returns-clause-none c =
    none-all c.args.netlist.now.files c.args.netlist.now.instances c.bits-bit-items.result.now c.args.signals.now c.loop-number.number
    c.requires.signals c.bits-bit-items.ensures c.loop-number-test.false c.loop-number.invariant
