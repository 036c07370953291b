use Rattle.vital_netlist.specs.Elaboration.{designed}
use Rattle.vital_run.specs.Aims.{IsAimAnswer}
use Rattle.vital_run.proofs.Elaborated.{answer_of_design, answer_of_error}
use Rattle.vital_answers.proofs.Printing.{stage_for}
use Rattle.vital_run.proofs.elaborating.answer_parts.Goals as goal

pub returns-in-Ok : goal.returns-in-Ok
returns-in-Ok g c =
    let asked = c.args.asked in
    let wanted = designed c.args.parts.now.library.now c.args.parts.now.instances.now in
    stage_for _ _ _ _ _ c.answer_found.ensures (answer_of_design (IsAimAnswer asked.aim) asked.files.now asked.top.now wanted c.in-Ok.design c.in-Ok.ensures)

pub returns-in-Err : goal.returns-in-Err
returns-in-Err g c =
    let asked = c.args.asked in
    let wanted = designed c.args.parts.now.library.now c.args.parts.now.instances.now in
    stage_for _ _ _ _ _ c.refuse_design.ensures (answer_of_error (IsAimAnswer asked.aim) asked.files.now asked.top.now wanted c.in-Err.error c.in-Err.ensures)
