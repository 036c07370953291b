use Rattle.std.proofs.Common.{◌∙◌}
use Rattle.vital_answers.proofs.Printing.{stage_for}
use Rattle.vital_run.proofs.Selves.{done_told, is_refused, refusal_told}
use Rattle.vital_run.proofs.self_run.run_drawn.Goals as goal

pub returns-in-Done : goal.returns-in-Done
returns-in-Done g c =
    stage_for _ _ _ _ _ c.print_tally.ensures
    (λ answer (inner, is, e). e ∙ done_told c.args.run inner c.new-tally.result c.run_over-status.new.sink c.new-tally.ensures (c.in-Done.ensures.gives inner is))

pub returns-in_default : goal.returns-in_default
returns-in_default g c =
    let other = c.in_default in
    let refused = is_refused c.run_over-status.result other.not-Done other.not-ReadFault other.not-WriteFault other.not-NoMemory in
    stage_for _ _ _ _ _ c.print_refusal.ensures
    (λ answer (inner, is, e). (inner, is, e ∙ refusal_told c.args.run inner c.run_over-status.result _ _ refused (c.run_over-status.ensures.gives inner is)))
