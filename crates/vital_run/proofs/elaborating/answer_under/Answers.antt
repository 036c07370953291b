use Rattle.vital_run.specs.Aims.{IsAimAnswer}
use Rattle.vital_run.proofs.Elaborated.{answer_of_fault, answer_of_instances, instances_entered}
use Rattle.vital_answers.proofs.Printing.{stage_for, stage_without_memory}
use Rattle.vital_run.proofs.elaborating.answer_under.Goals as goal

pub answer_entered-requires-clause-entered : goal.answer_entered-requires-clause-entered
answer_entered-requires-clause-entered g c =
    let asked = c.args.asked in
    rw c.as_slice-entered.ensures (instances_entered c.args.of.now.library.now asked.top.now c.in-Ok.found c.in-Ok.ensures)

pub returns-in-Ok : goal.returns-in-Ok
returns-in-Ok g c =
    let asked = c.args.asked in
    stage_for _ _ _ _ _ (rw c.as_slice-entered.ensures at c.answer_entered.ensures)
    (answer_of_instances c.one_judge.ensures.only (IsAimAnswer asked.aim) asked.files.now c.args.of.now.library.now asked.top.now c.in-Ok.found c.in-Ok.ensures)

pub returns-in-Err-Fault : goal.returns-in-Err-Fault
returns-in-Err-Fault g c =
    let asked = c.args.asked in
    let told = rw c.in-Err-Fault.field-0-is at c.in-Err-Fault.ensures in
    let refused = rw c.in-Err-Fault.field-0-is at c.refusal_of.ensures in
    stage_for _ _ _ _ _ (rw refused at c.refuse_design.ensures)
    (answer_of_fault c.one_judge.ensures.only (IsAimAnswer asked.aim) asked.files.now c.args.of.now.library.now asked.top.now c.in-Err-Fault.fault told)

pub returns-in-Err-NoMemory : goal.returns-in-Err-NoMemory
returns-in-Err-NoMemory g c = stage_without_memory _ c.args.printer.now c.requires.goes_on
