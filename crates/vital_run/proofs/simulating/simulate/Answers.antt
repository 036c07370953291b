use Rattle.std.proofs.Common.{◌≡◌, Err, sym, ap, subst, ◌∙◌}
use Rattle.vital_annotate.specs.Annotations.{Outcome}
use Rattle.vital_annotate.specs.declared.annotate_error.AnnotateError.{AnnotateError}
use Rattle.vital_answers.specs.Outcome.{Stage}
use Rattle.vital_run.specs.Simulations.{IsAnnotatedAnswer}
use Rattle.vital_run.proofs.simulating.simulate.Goals as goal

pub returns-in-Ok : goal.returns-in-Ok
returns-in-Ok g c =
    let asked = c.args.asked in
    subst (λ (o : Outcome). Stage (IsAnnotatedAnswer asked.sim.now asked.files.now asked.name.now asked.text.now c.args.design.now o) c.simulate_annotated.result c.args.printer.now c.simulate_annotated.new.printer)
    (sym c.in-Ok.ensures.annotated) c.simulate_annotated.ensures

pub returns-in-Err-Limit : goal.returns-in-Err-Limit
returns-in-Err-Limit g c =
    let asked = c.args.asked in
    let place = c.in-Err-Limit.place in
    let limited = c.annotate.ensures.limit place (c.in-Err-Limit.is ∙ ap (λ (e : AnnotateError). Err e) c.in-Err-Limit.field-0-is) in
    subst (λ (o : Outcome). Stage (IsAnnotatedAnswer asked.sim.now asked.files.now asked.name.now asked.text.now c.args.design.now o) c.refuse_files.result c.args.printer.now c.refuse_files.new.printer)
    (sym limited) (rw c.in-Err-Limit.field-0-is at c.refuse_files.ensures)
