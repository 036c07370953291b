use Rattle.std.proofs.Common.{◌≡◌, ℕ, List, ◌+◌, ◌<◌, ◌++◌, drop, get_or, length, map, ap, subst}
use Rattle.std.proofs.lemmas.List.{drop_more}
use Rattle.vital_annotate.specs.declared.note.Note.{Note}
use Rattle.vital_report.specs.Lines.{Said, bytes_of, note, text_of}
use Rattle.vital_report.specs.Reporters.{Printed, Stopped}
use Rattle.vital_run.specs.Simulations.{note_line}
use Rattle.vital_answers.proofs.Parts.{Part, part_goes_on, part_stops, prints_failed}
use Rattle.vital_run.proofs.simulating.print_notes.Goals as goal

pub returns-in_err-print : goal.returns-in_err-print
returns-in_err-print g c =
    let line = note_line c.args.files.now in
    let notes = c.args.notes.now in
    let i = c.loop-note.note-index in
    let next = ap (λ (left : List Note). text_of (map line left)) (drop_more notes i _ c.loop-note-test.true) in
    let part = subst (λ (left : List ℕ). Part c.args.printer.now (text_of (map line notes)) left c.loop-note.printer) next c.loop-note.invariant in
    let failed = subst (λ (l : Said). Stopped (bytes_of l) c.loop-note.printer c.print.new.self) (λ i. note (c.printed_note-why.ensures i) (c.position_of-at.ensures i)) c.in_err-print.ensures.prints in
    prints_failed _ c.from_residual.result (text_of (map line notes)) c.args.printer.now c.print.new.self c.from_residual.ensures.1
    (part_stops c.args.printer.now (text_of (map line notes)) _ (text_of (map line (drop (i + 1) notes))) c.loop-note.printer c.print.new.self part failed)

pub loop-note-preserved : goal.loop-note-preserved
loop-note-preserved g c =
    let line = note_line c.args.files.now in
    let notes = c.args.notes.now in
    let i = c.loop-note.note-index in
    let next = ap (λ (left : List Note). text_of (map line left)) (drop_more notes i _ c.loop-note-test.true) in
    let part = subst (λ (left : List ℕ). Part c.args.printer.now (text_of (map line notes)) left c.loop-note.printer) next c.loop-note.invariant in
    let written = subst (λ (l : Said). Printed (bytes_of l) c.loop-note.printer c.print.new.self) (λ i. note (c.printed_note-why.ensures i) (c.position_of-at.ensures i)) c.in_ok-print.ensures.prints in
    part_goes_on c.args.printer.now (text_of (map line notes)) _ (text_of (map line (drop (i + 1) notes))) c.loop-note.printer c.print.new.self part written
