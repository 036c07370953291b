use Rattle.std.proofs.Common.{ap, subst, sym, ◌∙◌}
use Rattle.std.specs.Prelude.{List, Err}
use Rattle.std.proofs.lemmas.Result.{err_from_is_err_and}
use Rattle.vital_netlist.specs.declared.bit.Bit.{Bit}
use Rattle.vital_netlist.specs.Orders.{AreOrdered}
use Rattle.vital_netlist.proofs.SignalLemmas.{answered_error, few_signals, signals_ordered}
use Rattle.vital_netlist.proofs.signals.Signals.new.Goals as goal

pub invariant_of-result : goal.invariant_of-result
invariant_of-result c =
    let P : List Bit → Type 0 = AreOrdered in
    subst P (sym c.in_ok-bits.ensures.all) (signals_ordered c.args.netlist.now.files c.args.netlist.now.instances)

pub returns : goal.returns
returns c = (few_signals c.args.netlist.now.files c.args.netlist.now.instances c.in_ok-bits.bits.items c.in_ok-bits.ensures.all c.in_ok-bits.ensures.room, c.in_ok-bits.ensures.all)

pub returns-in_err-bits : goal.returns-in_err-bits
returns-in_err-bits c =
    let p = err_from_is_err_and c.from_residual.result c.from_residual.ensures.1 in
    answered_error c.args.netlist.now.files c.args.netlist.now.instances _ _ (p.1 ∙ ap Err p.2) c.in_err-bits.ensures.told
