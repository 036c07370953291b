use Rattle.std.proofs.Common.{List, ℕ, ◌+◌, ◌++◌, drop, map, subst}
use Rattle.vital_report.specs.Lines.{bytes_of, said, text_of}
use Rattle.vital_answers.proofs.Parts.{Part, part_goes_on, part_stops, prints_failed}
use Rattle.vital_run.proofs.Selves.{next_line}
use Rattle.vital_run.proofs.self_run.print_lines.Goals as goal

pub returns-in_err-print : goal.returns-in_err-print
returns-in_err-print g c =
    let start = c.args.printer.now in
    let lines = c.args.lines.now in
    let i = c.loop-line.line-index in
    let line = c.line-item.result in
    let whole = text_of (map said lines) in
    let rest = text_of (map said (drop (i + 1) lines)) in
    let part = subst (λ (left : List ℕ). Part start whole left c.loop-line.printer) (next_line lines i line c.loop-line-test.true c.line-item.is) c.loop-line.invariant in
    prints_failed _ c.from_residual.result whole start c.print.new.self c.from_residual.ensures.1
    (part_stops start whole (bytes_of (said line)) rest c.loop-line.printer c.print.new.self part c.in_err-print.ensures.prints)

pub loop-line-preserved : goal.loop-line-preserved
loop-line-preserved g c =
    let start = c.args.printer.now in
    let lines = c.args.lines.now in
    let i = c.loop-line.line-index in
    let line = c.line-item.result in
    let whole = text_of (map said lines) in
    let rest = text_of (map said (drop (i + 1) lines)) in
    let part = subst (λ (left : List ℕ). Part start whole left c.loop-line.printer) (next_line lines i line c.loop-line-test.true c.line-item.is) c.loop-line.invariant in
    part_goes_on start whole (bytes_of (said line)) rest c.loop-line.printer c.print.new.self part c.in_ok-print.ensures.prints
