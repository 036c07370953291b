use Rattle.std.proofs.Common.{◌≡◌, ◌∙◌, List, length, sym, ap, subst}
use Rattle.vital_agenda.specs.Agendas.{Content}
use Rattle.vital_agenda.specs.Driver.{next_time}
use Rattle.vital_kernel.specs.Handing.{AreLeft, due_lines, later_lines, with_lines}
use Rattle.vital_kernel.proofs.Handing.{both_parts, drivers_of, due_left, later_of, next_handed, ports_of, times_of}
use Rattle.vital_stim.specs.declared.stimuli.StimLine.{StimLine}
use Rattle.vital_kernel.proofs.stimuli.hand_due.Goals as goal

pub assign_lines-requires : goal.assign_lines-requires
assign_lines-requires g c =
    let numbers = c.args.numbers.now in
    let content = g.A.Agenda.content c.args.agenda.now in
    let due : AreLeft numbers (length content.drivers) content.now c.split_due.result.0.now =
    subst (AreLeft numbers (length content.drivers) content.now) (sym c.split_due.ensures.due) (due_left numbers (length content.drivers) content.now c.args.time c.args.left.now c.requires.left) in
    record {
      ports = ports_of numbers (length content.drivers) content.now c.split_due.result.0.now due;
      drivers = drivers_of numbers (length content.drivers) content.now c.split_due.result.0.now due;
      times = times_of numbers (length content.drivers) content.now c.split_due.result.0.now due;
      later = later_of numbers (length content.drivers) content.now c.split_due.result.0.now due;
    }

pub returns-clause-same : goal.returns-clause-same
returns-clause-same g c =
    let numbers = c.args.numbers.now in
    let left = c.args.left.now in
    let old = g.A.Agenda.content c.args.agenda.now in
    let new = g.A.Agenda.content c.assign_lines.new.agenda in
    let drivers : new.drivers ≡ with_lines numbers (due_lines c.args.time left) old.drivers =
    ap (λ (x : Content). x.drivers) c.in_ok-assign_lines.ensures.assigned ∙ ap (λ (xs : List StimLine). with_lines numbers xs old.drivers) c.split_due.ensures.due in
    ap (λ (xs : List StimLine). with_lines numbers xs new.drivers) c.split_due.ensures.later ∙ ap (with_lines numbers (later_lines c.args.time left)) drivers ∙ both_parts numbers c.args.time left old.drivers

pub returns-clause-next : goal.returns-clause-next
returns-clause-next g c =
    let numbers = c.args.numbers.now in
    let left = c.args.left.now in
    let old = g.A.Agenda.content c.args.agenda.now in
    let new = g.A.Agenda.content c.assign_lines.new.agenda in
    let drivers : new.drivers ≡ with_lines numbers (due_lines c.args.time left) old.drivers =
    ap (λ (x : Content). x.drivers) c.in_ok-assign_lines.ensures.assigned ∙ ap (λ (xs : List StimLine). with_lines numbers xs old.drivers) c.split_due.ensures.due in
    ap next_time drivers ∙ next_handed numbers old.now c.args.time left old.drivers c.requires.left c.requires.next
