use Rattle.std.proofs.Common.{ℕ, List, [], ◌++◌, map, sym, subst, append-nil}
use Rattle.vital_report.specs.Lines.{bytes_of, text_of}
use Rattle.vital_report.specs.Reporters.{Printed, Prints}
use Rattle.vital_answers.specs.Cells.{level_lines, limit_line, limit_lines}
use Rattle.vital_answers.specs.Kept.{lent}
use Rattle.vital_answers.proofs.Parts.{prints_both, prints_failed}
use Rattle.vital_answers.proofs.Texts.{stopped_within}
use Rattle.vital_answers.proofs.cells.print_cells.Goals as goal

pub returns-in_err-print_levels : goal.returns-in_err-print_levels
returns-in_err-print_levels g c = λ library.
    let first = text_of (level_lines c.args.files.now (map (lent library) c.args.cells.now) c.args.levels.now) in
    let second = text_of (limit_lines c.args.files.now c.args.limit) in
    prints_failed _ c.from_residual.result (first ++ second) c.args.printer.now c.print_levels.new.printer c.from_residual.ensures.1
    (stopped_within first second c.args.printer.now c.print_levels.new.printer (c.in_err-print_levels.ensures library))

pub returns-in-Some : goal.returns-in-Some
returns-in-Some g c = λ library.
    let first = text_of (level_lines c.args.files.now (map (lent library) c.args.cells.now) c.args.levels.now) in
    let piece = bytes_of (limit_line c.args.files.now c.in-Some.passed) in
    let printed = rw c.limit_line.ensures at c.print.ensures.prints in
    let last = subst (λ (text : List ℕ). Prints c.print.result text c.print_levels.new.printer c.print.new.self) (sym (append-nil piece)) printed in
    rw c.in-Some.is (prints_both c.print.result first (piece ++ []) c.args.printer.now c.print_levels.new.printer c.print.new.self (c.in_ok-print_levels.ensures library) last)

pub returns-in-None : goal.returns-in-None
returns-in-None g c = λ library.
    let first = text_of (level_lines c.args.files.now (map (lent library) c.args.cells.now) c.args.levels.now) in
    rw c.in-None.is (subst (λ (text : List ℕ). Printed text c.args.printer.now c.print_levels.new.printer) (sym (append-nil first)) (c.in_ok-print_levels.ensures library))
