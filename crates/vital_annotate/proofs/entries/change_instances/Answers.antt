use Rattle.std.proofs.Common.{ap, arith, get_or, sym, ◌∙◌}
use Rattle.std.proofs.lemmas.Result.{err_from_is_err_and}
use Rattle.vital_annotate.specs.Annotations.{change_instance}
use Rattle.vital_annotate.specs.Names.{Change}
use Rattle.vital_annotate.specs.Tries.{tried}
use Rattle.vital_annotate.proofs.OutcomeLemmas.{go-on, other, stopped}
use Rattle.vital_annotate.proofs.entries.change_instances.Goals as goal

pub returns-in_err-change_instance : goal.returns-in_err-change_instance
returns-in_err-change_instance c =
    let p = err_from_is_err_and c.from_residual.result c.from_residual.ensures.1 in
    let step = change_instance c.args.meant.now.instances.now c.args.meant.now.how in
    let change : Change = record { names = tried c.args.name.now.items c.args.edges; values = c.args.values.now } in
    let here = get_or c.args.meant.now.numbers.now c.loop-instance.instance-index 0 in
    rw (p.1, p.2)
    (stopped (step change) c.args.meant.now.numbers.now c.loop-instance.instance-index 0 _ c.loop-instance.annotations _ c.in_err-change_instance.field-0.0 (omega arith) c.loop-instance.invariant.made
    (other _ _ _ _ (ap (λ t. step (record { names = tried t c.args.edges; values = c.args.values.now }) here c.loop-instance.annotations) c.loop-instance.invariant.same)
    c.in_err-change_instance.ensures.outcome))

pub loop-instance-preserved : goal.loop-instance-preserved
loop-instance-preserved c =
    let step = change_instance c.args.meant.now.instances.now c.args.meant.now.how in
    let change : Change = record { names = tried c.args.name.now.items c.args.edges; values = c.args.values.now } in
    let here = get_or c.args.meant.now.numbers.now c.loop-instance.instance-index 0 in
    record {
      same = c.in_ok-change_instance.ensures.same ∙ c.loop-instance.invariant.same;
      made =
          go-on (step change) c.args.meant.now.numbers.now c.loop-instance.instance-index 0 _ c.loop-instance.annotations _ (omega arith) c.loop-instance.invariant.made
          (sym (ap (λ t. step (record { names = tried t c.args.edges; values = c.args.values.now }) here c.loop-instance.annotations) c.loop-instance.invariant.same) ∙ c.in_ok-change_instance.ensures.outcome.done);
    }
