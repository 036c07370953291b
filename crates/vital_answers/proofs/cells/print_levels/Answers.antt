use Rattle.std.proofs.Common.{◌+◌, ◌<◌, drop, get_or, length, map, arith}
use Rattle.std.proofs.lemmas.Option.{slice_get-get_or}
use Rattle.vital_level1.specs.declared.level.CellLevel.TheVariants.{Level1}
use Rattle.vital_report.specs.Lines.{bytes_of, text_of}
use Rattle.vital_answers.specs.Cells.{level_line, level_lines}
use Rattle.vital_answers.specs.Kept.{lent}
use Rattle.vital_answers.proofs.CellLines.{none_left, one_line, seen_at}
use Rattle.vital_answers.proofs.Parts.{part_ends, part_goes_on, part_stops, prints_failed}
use Rattle.vital_answers.proofs.cells.print_levels.Goals as goal

pub returns-in_err-print : goal.returns-in_err-print
returns-in_err-print g c = λ library.
    let files = c.args.files.now in
    let levels = c.args.levels.now in
    let cells = map (lent library) c.args.cells.now in
    let i = c.loop-number.number in
    let cell = lent library c.index-cells-number.result in
    let level = get_or levels i Level1 in
    let within : i < length levels = c.loop-number-test.true in
    let there : i < length c.args.cells.now = omega (arith, within, c.requires.within) in
    let whole = text_of (level_lines files cells levels) in
    let piece = bytes_of (level_line files cell level) in
    let rest = text_of (level_lines files (drop (i + 1) cells) (drop (i + 1) levels)) in
    let one = one_line files cells levels i cell level (seen_at (lent library) c.args.cells.now i c.index-cells-number.result there c.index-cells-number.is) (slice_get-get_or levels i Level1 within) in
    let failed = rw (c.level_line-line.ensures library) at c.in_err-print.ensures.prints in
    prints_failed _ c.from_residual.result whole c.args.printer.now c.print.new.self c.from_residual.ensures.1
    (part_stops c.args.printer.now whole piece rest c.loop-number.printer c.print.new.self (rw one at (c.loop-number.invariant library)) failed)

pub loop-number-preserved : goal.loop-number-preserved
loop-number-preserved g c = λ library.
    let files = c.args.files.now in
    let levels = c.args.levels.now in
    let cells = map (lent library) c.args.cells.now in
    let i = c.loop-number.number in
    let cell = lent library c.index-cells-number.result in
    let level = get_or levels i Level1 in
    let within : i < length levels = c.loop-number-test.true in
    let there : i < length c.args.cells.now = omega (arith, within, c.requires.within) in
    let whole = text_of (level_lines files cells levels) in
    let piece = bytes_of (level_line files cell level) in
    let rest = text_of (level_lines files (drop (i + 1) cells) (drop (i + 1) levels)) in
    let one = one_line files cells levels i cell level (seen_at (lent library) c.args.cells.now i c.index-cells-number.result there c.index-cells-number.is) (slice_get-get_or levels i Level1 within) in
    let written = rw (c.level_line-line.ensures library) at c.in_ok-print.ensures.prints in
    part_goes_on c.args.printer.now whole piece rest c.loop-number.printer c.print.new.self (rw one at (c.loop-number.invariant library)) written

pub returns : goal.returns
returns g c = λ library.
    let levels = c.args.levels.now in
    let cells = map (lent library) c.args.cells.now in
    let none = none_left c.args.files.now cells levels c.loop-number.number c.loop-number-test.false in
    part_ends c.args.printer.now (text_of (level_lines c.args.files.now cells levels)) c.loop-number.printer (rw none at (c.loop-number.invariant library))
