use Rattle.vital_report.specs.Lines.{text_of}
use Rattle.vital_answers.specs.Answer.{Answer}
use Rattle.vital_answers.specs.Trees.{tree_lines}
use Rattle.vital_answers.specs.declared.status.Status.TheVariants.{Done}
use Rattle.vital_answers.proofs.Printing.{stage_breaks, stage_prints, stage_stops}
use Rattle.vital_run.proofs.elaborating.answer_tree.Goals as goal

pub returns-in-Ok : goal.returns-in-Ok
returns-in-Ok g c =
    let told : Answer = record { bytes = text_of (tree_lines c.args.design.now); status = Done } in
    stage_prints told c.args.printer.now c.print_design.new.printer (λ e. absurd cc) (λ e. absurd cc) c.in-Ok.ensures

pub returns-in-Err-WriteFault : goal.returns-in-Err-WriteFault
returns-in-Err-WriteFault g c =
    let told : Answer = record { bytes = text_of (tree_lines c.args.design.now); status = Done } in
    let stopped = rw c.in-Err-WriteFault.field-0-is at c.in-Err-WriteFault.ensures in
    stage_stops told c.args.printer.now c.print_design.new.printer c.requires.goes_on stopped

pub returns-in-Err-NoMemory : goal.returns-in-Err-NoMemory
returns-in-Err-NoMemory g c =
    let told : Answer = record { bytes = text_of (tree_lines c.args.design.now); status = Done } in
    let broken = rw c.in-Err-NoMemory.field-0-is at c.in-Err-NoMemory.ensures in
    stage_breaks told c.args.printer.now c.print_design.new.printer broken
