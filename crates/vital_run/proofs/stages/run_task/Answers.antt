use Rattle.vital_answers.specs.Answer.{nothing_told}
use Rattle.vital_answers.proofs.Printing.{stage_prints}
use Rattle.vital_answers.proofs.Texts.{printed_none}
use Rattle.vital_run.proofs.stages.run_task.Goals as goal

pub returns-in-Check : goal.returns-in-Check
returns-in-Check g c = rw c.in-Check.is (rw c.as_slice-in-Check.ensures at c.check_cells.ensures)

pub returns-in-Tree : goal.returns-in-Tree
returns-in-Tree g c = rw c.in-Tree.is (rw (c.as_slice-files.ensures, c.as_slice-top.ensures) at c.elaborate_top.ensures)

pub returns-in-SelfRun : goal.returns-in-SelfRun
returns-in-SelfRun g c =
    let old = c.args.printer.now in
    rw c.in-SelfRun.is (stage_prints nothing_told old old (λ e. absurd cc) (λ e. absurd cc) (printed_none old c.requires.goes_on))
