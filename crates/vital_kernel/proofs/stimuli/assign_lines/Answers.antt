use Rattle.std.proofs.Common.{◌≡◌, ◌∙◌, ◌+◌, ◌-◌, ◌<◌, ◌≤◌, List, Some, length, drop, get_or, sym, ap, subst, arith}
use Rattle.std.specs.List.{fold}
use Rattle.std.specs.Prelude.{slice_get}
use Rattle.std.proofs.lemmas.Option.{slice_get-get_or}
use Rattle.vital_agenda.specs.Driver.{Driver}
use Rattle.vital_base.specs.declared.kind.Kind.TheVariants.{Transport}
use Rattle.vital_kernel.specs.Activations.{KeepsValues}
use Rattle.vital_kernel.specs.Handing.{stimulated_by}
use Rattle.vital_kernel.proofs.Handing.{sent_then}
use Rattle.vital_kernel.proofs.Keeping.{keeps_assigned, keeps_then}
use Rattle.vital_kernel.proofs.Steps.{fold_at}
use Rattle.vital_logic.specs.declared.level.Level.TheVariants.{U}
use Rattle.vital_stim.specs.declared.stimuli.StimLine.{StimLine}
use Rattle.vital_kernel.proofs.stimuli.assign_lines.Goals as goal

pub loop-line-preserved : goal.loop-line-preserved
loop-line-preserved g c =
    let begun = g.A.Agenda.content c.args.agenda.now in
    let old = g.A.Agenda.content c.loop-line.agenda in
    let new = g.A.Agenda.content c.assign.new.self in
    let lines = c.args.lines.now in
    let numbers = c.args.numbers.now in
    let i = c.loop-line.line-index in
    let none : StimLine = record { time = 0; port = 0; value = U } in
    let line = get_or lines i none in
    let within : i < length lines = omega (arith, c.loop-line-test.true) in
    let here : slice_get lines i ≡ Some line = slice_get-get_or lines i none within in
    let delay = line.time - c.now-now.result in
    let from : begun.now ≤ line.time = c.requires.later i none within in
    let at : old.now + delay ≡ 0 + line.time = omega (arith, c.loop-line.invariant.keeps.now, c.now-now.ensures.now, from) in
    let f = stimulated_by numbers in
    let drivers : new.drivers ≡ f old.drivers line = sent_then (get_or numbers line.port 0) delay line old new c.in_ok-assign.ensures.ok at in
    record {
      sent = ap (λ (ds : List Driver). fold f ds (drop (i + 1) lines)) drivers ∙ sym (fold_at f old.drivers lines i line here) ∙ c.loop-line.invariant.sent;
      keeps = keeps_then begun old new c.loop-line.invariant.keeps
          (subst (KeepsValues old) (sym c.in_ok-assign.ensures.ok) (keeps_assigned c.assignments_keep_values.ensures (get_or numbers line.port 0) Transport line.value delay old));
    }
