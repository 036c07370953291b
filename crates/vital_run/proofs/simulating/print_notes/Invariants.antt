use Rattle.std.proofs.Common.{drop, map}
use Rattle.vital_report.specs.Lines.{text_of}
use Rattle.vital_run.specs.Simulations.{note_line}
use Rattle.vital_answers.proofs.Parts.{Part}
use Rattle.vital_run.proofs.simulating.print_notes.Given as goal

abbrev pub invariant-loop-note : goal.invariant-loop-note
invariant-loop-note g l =
    Part l.fn.printer (text_of (map (note_line l.files) l.notes)) (text_of (map (note_line l.files) (drop l.note-index l.notes))) l.printer
