use Rattle.std.proofs.Common.{◌+◌, [], ◌∷◌, ◌++◌, map, ap, sym, ◌∙◌, rules}
use Rattle.std.specs.Prelude.{Err}
use Rattle.std.proofs.lemmas.Result.{err_from_is_err_and}
use Rattle.vital_connections.specs.Runs.{bits_between, bits_of_run}
use Rattle.vital_netlist.specs.Bits.{bit}
use Rattle.vital_netlist.specs.Put.{IsTold}
use Rattle.vital_netlist.proofs.SignalLemmas.{put_more, run_more, told_error, told_more}
use Rattle.vital_netlist.proofs.signals.put_run.Goals as goal

pub loop-alloc-init : goal.loop-alloc-init
loop-alloc-init c = record {
  total = ap (λ first. c.args.bits.now.items ++ map (bit c.args.instance) (bits_between c.args.run.now.object first c.args.run.now.end)) c.in_ok-offset.ensures;
  room = c.requires;
}

pub loop-alloc-preserved : goal.loop-alloc-preserved
loop-alloc-preserved c =
    let n = c.args.instance in
    let k = c.args.run.now.object in
    let end = c.args.run.now.end in
    let offset = c.loop-alloc.offset in
    let now = c.loop-alloc.bits.items in
    let rest = map (bit n) (bits_between k (offset + 1) end) in
    let total = c.args.bits.now.items ++ map (bit n) (bits_of_run c.args.run.now) in
    record {
      total =
          ap (λ next. c.put.new.bits.items ++ map (bit n) (bits_between k next end)) c.in_ok-next.ensures
          ∙ put_more now (bit n (k, offset) ∷ []) rest total c.put.new.bits.items
          (sym (ap (λ bs. now ++ bs) (run_more n k offset end (search rules))) ∙ c.loop-alloc.invariant.total) c.in_ok-put.ensures.put;
      room = c.in_ok-put.ensures.room;
    }

pub returns-in_err-put-clause-told : goal.returns-in_err-put-clause-told
returns-in_err-put-clause-told c =
    let netlist = c.args.netlist.now in
    let n = c.args.instance in
    let k = c.args.run.now.object in
    let end = c.args.run.now.end in
    let offset = c.loop-alloc.offset in
    let now = c.loop-alloc.bits.items in
    let rest = map (bit n) (bits_between k (offset + 1) end) in
    let total = c.args.bits.now.items ++ map (bit n) (bits_of_run c.args.run.now) in
    let p = err_from_is_err_and c.from_residual-in_err-put.result c.from_residual-in_err-put.ensures.1 in
    told_error (IsTold netlist.files netlist.instances total) _ _ (p.1 ∙ ap Err p.2)
    (told_more netlist.files netlist.instances now (bit n (k, offset) ∷ []) rest total c.in_err-put.field-0.0
    (sym (ap (λ bs. now ++ bs) (run_more n k offset end (search rules))) ∙ c.loop-alloc.invariant.total) c.in_err-put.ensures.told)
