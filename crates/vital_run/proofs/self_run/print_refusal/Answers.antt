use Rattle.std.proofs.Common.{◌≡◌, ◌∙◌, ℕ, List, [], sym, ap}
use Rattle.vital_base.specs.MemSinks.{MemSinkState}
use Rattle.vital_report.specs.Lines.{made_before}
use Rattle.vital_answers.specs.Answer.{refused}
use Rattle.vital_run.specs.Selves.{last_line, last_text}
use Rattle.vital_answers.proofs.Printing.{stage_for, stage_without_memory}
use Rattle.vital_run.proofs.Selves.{memory_holds}
use Rattle.vital_run.proofs.self_run.print_refusal.Goals as goal

pub returns-then-is_failure : goal.returns-then-is_failure
returns-then-is_failure g c = stage_without_memory _ c.args.printer.now c.requires.goes_on

pub returns : goal.returns
returns g c =
    let well = sym c.is_failure.ensures ∙ c.if-is_failure.false in
    let none = ap (λ (s : MemSinkState). s.bytes) c.new-sink.ensures in
    let text = c.last_text-text.ensures ∙ ap last_text c.bytes.ensures in
    stage_for _ _ _ _ _ c.end_with.ensures
    (λ answer (inner, is, e).
    let kept = memory_holds inner c.run_over-again.result c.new-sink.result.bytes c.run_over-again.new.sink.bytes none well (c.run_over-again.ensures.gives inner is) in
    e ∙ ap (λ (bytes : List ℕ). refused (made_before bytes) c.args.refused_so) (ap last_text (sym kept) ∙ sym text))
