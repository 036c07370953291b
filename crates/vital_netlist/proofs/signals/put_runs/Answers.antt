use Rattle.std.proofs.Common.{◌+◌, ◌++◌, drop, map, ap, sym, ◌∙◌, arith}
use Rattle.std.specs.Prelude.{Err}
use Rattle.std.proofs.lemmas.Result.{err_from_is_err_and}
use Rattle.vital_connections.specs.Runs.{bits_of_run, bits_of_runs}
use Rattle.vital_netlist.specs.Bits.{bit}
use Rattle.vital_netlist.specs.Put.{IsTold}
use Rattle.vital_netlist.proofs.SignalLemmas.{put_more, runs_more, told_error, told_more}
use Rattle.vital_netlist.proofs.signals.put_runs.Goals as goal

pub loop-run-preserved : goal.loop-run-preserved
loop-run-preserved c =
    let n = c.args.instance in
    let runs = c.args.runs.now in
    let k = c.loop-run.run-index in
    let r = c.run-item.result in
    let now = c.loop-run.bits.items in
    let total = c.args.bits.now.items ++ map (bit n) (bits_of_runs runs) in
    record {
      total =
          put_more now (map (bit n) (bits_of_run r)) (map (bit n) (bits_of_runs (drop (k + 1) runs))) total c.put_run.new.bits.items
          (sym (ap (λ bs. now ++ bs) (runs_more n runs k r (omega arith) c.run-item.is)) ∙ c.loop-run.invariant.total) c.in_ok-put_run.ensures.put;
      room = c.in_ok-put_run.ensures.room;
    }

pub returns-in_err-put_run-clause-told : goal.returns-in_err-put_run-clause-told
returns-in_err-put_run-clause-told c =
    let netlist = c.args.netlist.now in
    let n = c.args.instance in
    let runs = c.args.runs.now in
    let k = c.loop-run.run-index in
    let r = c.run-item.result in
    let now = c.loop-run.bits.items in
    let total = c.args.bits.now.items ++ map (bit n) (bits_of_runs runs) in
    let p = err_from_is_err_and c.from_residual.result c.from_residual.ensures.1 in
    told_error (IsTold netlist.files netlist.instances total) _ _ (p.1 ∙ ap Err p.2)
    (told_more netlist.files netlist.instances now (map (bit n) (bits_of_run r)) (map (bit n) (bits_of_runs (drop (k + 1) runs))) total c.in_err-put_run.field-0.0
    (sym (ap (λ bs. now ++ bs) (runs_more n runs k r (omega arith) c.run-item.is)) ∙ c.loop-run.invariant.total) c.in_err-put_run.ensures.told)
