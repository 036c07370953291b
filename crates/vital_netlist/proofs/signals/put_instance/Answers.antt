use Rattle.std.proofs.Common.{◌++◌, map, ap, sym, ◌∙◌, append_assoc}
use Rattle.std.specs.Prelude.{Err}
use Rattle.std.proofs.lemmas.Result.{err_from_is_err_and, on_ok_weaker}
use Rattle.vital_connections.specs.Runs.{bits_of_runs}
use Rattle.vital_netlist.specs.Bits.{bit}
use Rattle.vital_netlist.specs.Put.{IsTold, own_of_number}
use Rattle.vital_netlist.proofs.SignalLemmas.{own_number, told_error, told_more, told_same}
use Rattle.vital_netlist.proofs.signals.put_instance.Goals as goal

pub returns-in_err-put_runs-clause-told : goal.returns-in_err-put_runs-clause-told
returns-in_err-put_runs-clause-told c =
    let netlist = c.args.netlist.now in
    let n = c.args.instance in
    let ports = map (bit n) (bits_of_runs c.own_port_bits-ports.result.now) in
    let behind = map (bit n) (bits_of_runs c.signal_bits-signals.result.now) in
    let now = c.args.bits.now.items in
    let own = own_number netlist.files netlist.instances n c.own_port_bits-ports.result.now c.signal_bits-signals.result.now c.own_port_bits-ports.ensures c.signal_bits-signals.ensures.bits c.signal_bits-signals.ensures.own in
    let p = err_from_is_err_and c.from_residual.result c.from_residual.ensures.1 in
    told_error (IsTold netlist.files netlist.instances (now ++ own_of_number netlist.files netlist.instances n)) _ _ (p.1 ∙ ap Err p.2)
    (told_more netlist.files netlist.instances now ports behind (now ++ own_of_number netlist.files netlist.instances n) c.in_err-put_runs.field-0.0 (ap (λ bs. now ++ bs) (sym own)) c.in_err-put_runs.ensures.told)

pub returns-clause-put : goal.returns-clause-put
returns-clause-put c =
    let netlist = c.args.netlist.now in
    let n = c.args.instance in
    let ports = map (bit n) (bits_of_runs c.own_port_bits-ports.result.now) in
    let behind = map (bit n) (bits_of_runs c.signal_bits-signals.result.now) in
    let now = c.args.bits.now.items in
    let own = own_number netlist.files netlist.instances n c.own_port_bits-ports.result.now c.signal_bits-signals.result.now c.own_port_bits-ports.ensures c.signal_bits-signals.ensures.bits c.signal_bits-signals.ensures.own in
    on_ok_weaker c.put_runs-2.result
    (λ put. put ∙ ap (λ bs. bs ++ behind) c.in_ok-put_runs.ensures.put ∙ append_assoc now ports behind ∙ ap (λ bs. now ++ bs) (sym own))
    c.put_runs-2.ensures.put

pub returns-clause-told : goal.returns-clause-told
returns-clause-told c =
    let netlist = c.args.netlist.now in
    let n = c.args.instance in
    let ports = map (bit n) (bits_of_runs c.own_port_bits-ports.result.now) in
    let behind = map (bit n) (bits_of_runs c.signal_bits-signals.result.now) in
    let now = c.args.bits.now.items in
    let own = own_number netlist.files netlist.instances n c.own_port_bits-ports.result.now c.signal_bits-signals.result.now c.own_port_bits-ports.ensures c.signal_bits-signals.ensures.bits c.signal_bits-signals.ensures.own in
    told_same netlist.files netlist.instances _ (now ++ own_of_number netlist.files netlist.instances n) c.put_runs-2.result
    (ap (λ bs. bs ++ behind) c.in_ok-put_runs.ensures.put ∙ append_assoc now ports behind ∙ ap (λ bs. now ++ bs) (sym own))
    c.put_runs-2.ensures.told
