use Rattle.std.proofs.Common.{List, map, ap, subst, ◌≡◌}
use Rattle.vital_report.specs.Lines.{Said, text_of}
use Rattle.vital_report.specs.Reporters.{Printed, Stopped}
use Rattle.vital_annotate.specs.declared.note.Note.{Note}
use Rattle.vital_timing.specs.declared.delay.Delay.{Delay}
use Rattle.vital_answers.specs.Outcome.{Stage}
use Rattle.vital_run.specs.Simulations.{IsTimedAnswer, note_line}
use Rattle.vital_answers.proofs.Printing.{stage_after, stage_stops_before}
use Rattle.vital_run.proofs.simulating.simulate_annotated.Goals as goal

pub returns-in-Ok : goal.returns-in-Ok
returns-in-Ok g c =
    let asked = c.args.asked in
    let line = note_line asked.files.now in
    let design = c.args.design.now in
    let printed = subst (λ (ns : List Note). Printed (text_of (map line ns)) c.args.printer.now c.print_notes.new.printer) c.as_slice.ensures c.in-Ok.ensures in
    let run = subst (λ (vs : List (List Delay)). Stage (IsTimedAnswer asked.sim.now asked.name.now asked.text.now design vs) c.simulate_timed.result c.print_notes.new.printer c.simulate_timed.new.printer) c.as_slice-in-Ok.ensures c.simulate_timed.ensures in
    stage_after (map line c.args.annotated.now.notes) (IsTimedAnswer asked.sim.now asked.name.now asked.text.now design c.args.annotated.now.values) c.simulate_timed.result
    c.args.printer.now c.print_notes.new.printer c.simulate_timed.new.printer printed run

pub returns-in-Err : goal.returns-in-Err
returns-in-Err g c =
    let asked = c.args.asked in
    let line = note_line asked.files.now in
    let stopped = subst (λ (ns : List Note). Stopped (text_of (map line ns)) c.args.printer.now c.print_notes.new.printer) c.as_slice.ensures c.in-Err.ensures in
    stage_stops_before (map line c.args.annotated.now.notes) (IsTimedAnswer asked.sim.now asked.name.now asked.text.now c.args.design.now c.args.annotated.now.values)
    c.args.printer.now c.print_notes.new.printer c.requires.goes_on stopped
