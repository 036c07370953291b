use Rattle.std.proofs.Common.{length, map, ap, arith}
use lib.ListN.{length-map}
use Rattle.vital_answers.specs.Kept.{lent}
use Rattle.vital_answers.proofs.Checked.{cells_printed, cells_stopped}
use Rattle.vital_answers.proofs.Judged.{at_most}
use Rattle.vital_answers.proofs.Printing.{stage_without_memory}
use Rattle.vital_answers.proofs.cells.check_cells.Goals as goal

pub returns-in_default-judge : goal.returns-in_default-judge
returns-in_default-judge g c = stage_without_memory _ c.args.printer.now c.requires.goes_on

pub print_cells-requires-clause-within : goal.print_cells-requires-clause-within
print_cells-requires-clause-within g c =
    let see = lent c.args.library.now in
    let judged = c.in-Ok-judge.judged in
    let few = at_most (map see c.deref.result.now) judged.levels.items judged.limit c.in-Ok-judge.ensures in
    omega (arith, few, length-map c.deref.result.now see, ap length c.deref.ensures.value, ap length c.deref-2.ensures.value, ap length c.deref-3.ensures.value)

pub returns-in-Ok-print_cells : goal.returns-in-Ok-print_cells
returns-in-Ok-print_cells g c =
    let library = c.args.library.now in
    let judged = c.in-Ok-judge.judged in
    let are = rw (c.deref.ensures.value, c.in-Ok.ensures) at c.in-Ok-judge.ensures in
    let printed = rw (c.deref-2.ensures.value, c.deref-3.ensures.value, c.in-Ok.ensures) at (c.in-Ok-print_cells.ensures library) in
    rw c.status_of.ensures (cells_printed c.one_first_breach.ensures c.args.files.now library judged.levels.items judged.limit are c.args.printer.now c.print_cells.new.printer printed)

pub returns : goal.returns
returns g c =
    let library = c.args.library.now in
    let judged = c.in-Ok-judge.judged in
    let are = rw (c.deref.ensures.value, c.in-Ok.ensures) at c.in-Ok-judge.ensures in
    let stopped = rw (c.deref-2.ensures.value, c.deref-3.ensures.value, c.in-Ok.ensures) at (c.in-Err.ensures library) in
    cells_stopped c.one_first_breach.ensures c.args.files.now library judged.levels.items judged.limit are c.args.printer.now c.print_cells.new.printer c.requires.goes_on stopped
