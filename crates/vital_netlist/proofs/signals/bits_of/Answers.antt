use Rattle.std.proofs.Common.{◌+◌, ◌++◌, ap, sym, ◌∙◌, arith, rules}
use Rattle.std.specs.Prelude.{Err}
use Rattle.std.proofs.lemmas.Result.{err_from_is_err_and}
use Rattle.vital_netlist.specs.Nets.{signals}
use Rattle.vital_netlist.specs.Put.{IsTold, own_of_number}
use Rattle.vital_netlist.proofs.SignalLemmas.{put_more, rest, rest_all, rest_more, told_error, told_more}
use Rattle.vital_netlist.proofs.signals.bits_of.Goals as goal

pub loop-instance-init : goal.loop-instance-init
loop-instance-init c =
    let netlist = c.args.netlist.now in
    record {
      total = ap (λ bs. bs ++ rest netlist.files netlist.instances 0) c.new-bits.ensures.items ∙ rest_all netlist.files netlist.instances;
      room = rw c.new-bits.ensures.items (omega arith);
    }

pub loop-instance-preserved : goal.loop-instance-preserved
loop-instance-preserved c =
    let netlist = c.args.netlist.now in
    let k = c.loop-instance.instance in
    let now = c.loop-instance.bits.items in
    record {
      total =
          put_more now (own_of_number netlist.files netlist.instances k) (rest netlist.files netlist.instances (k + 1)) (signals netlist.files netlist.instances) c.put_instance.new.bits.items
          (sym (ap (λ bs. now ++ bs) (rest_more netlist.files netlist.instances k (search rules))) ∙ c.loop-instance.invariant.total) c.in_ok-put_instance.ensures.put;
      room = c.in_ok-put_instance.ensures.room;
    }

pub returns-in_err-put_instance-clause-told : goal.returns-in_err-put_instance-clause-told
returns-in_err-put_instance-clause-told c =
    let netlist = c.args.netlist.now in
    let k = c.loop-instance.instance in
    let now = c.loop-instance.bits.items in
    let p = err_from_is_err_and c.from_residual.result c.from_residual.ensures.1 in
    told_error (IsTold netlist.files netlist.instances (signals netlist.files netlist.instances)) _ _ (p.1 ∙ ap Err p.2)
    (told_more netlist.files netlist.instances now (own_of_number netlist.files netlist.instances k) (rest netlist.files netlist.instances (k + 1)) (signals netlist.files netlist.instances) c.in_err-put_instance.field-0.0
    (sym (ap (λ bs. now ++ bs) (rest_more netlist.files netlist.instances k (search rules))) ∙ c.loop-instance.invariant.total) c.in_err-put_instance.ensures.told)
