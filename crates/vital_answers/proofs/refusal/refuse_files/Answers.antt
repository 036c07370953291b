use Rattle.std.proofs.Common.{ap, ◌∙◌}
use Rattle.vital_report.specs.Lines.{spot}
use Rattle.vital_answers.specs.Refusals.{spot_of}
use Rattle.vital_answers.proofs.Printing.{stage_for}
use Rattle.vital_answers.proofs.RefusalPlaces.{lexical_is, syntax_is, limit_is, library_is, sdf_is}
use Rattle.vital_answers.proofs.refusal.refuse_files.Goals as goal

pub returns-in-Lexical : goal.returns-in-Lexical
returns-in-Lexical g c =
    let at = c.position_of-at.ensures ∙ ap (spot_of c.args.files.now) c.place.ensures in
    stage_for _ _ _ _ _ c.end_with.ensures (λ answer is. is ∙ lexical_is c.args.files.now c.args.refusal c.in-Lexical.place c.in-Lexical.why (spot c.position_of-at.result) c.in-Lexical.is at)

pub returns-in-Syntax : goal.returns-in-Syntax
returns-in-Syntax g c =
    let at = c.position_of-at.ensures ∙ ap (spot_of c.args.files.now) c.place.ensures in
    stage_for _ _ _ _ _ c.end_with-in-Syntax.ensures (λ answer is. is ∙ syntax_is c.args.files.now c.args.refusal c.in-Syntax.place (spot c.position_of-at.result) c.in-Syntax.is at)

pub returns-in-Limit : goal.returns-in-Limit
returns-in-Limit g c =
    let at = c.position_of-at.ensures ∙ ap (spot_of c.args.files.now) c.place.ensures in
    stage_for _ _ _ _ _ c.end_with-in-Limit.ensures (λ answer is. is ∙ limit_is c.args.files.now c.args.refusal c.in-Limit.limit c.in-Limit.place (spot c.position_of-at.result) c.in-Limit.is at)

pub returns-in-Library : goal.returns-in-Library
returns-in-Library g c =
    let at = c.position_of-at.ensures ∙ ap (spot_of c.args.files.now) c.place.ensures in
    stage_for _ _ _ _ _ c.end_with-in-Library.ensures (λ answer is. is ∙ library_is c.args.files.now c.args.refusal c.in-Library.why c.in-Library.place (spot c.position_of-at.result) c.in-Library.is at)

pub returns-in-Sdf : goal.returns-in-Sdf
returns-in-Sdf g c =
    let at = c.position_of-at.ensures ∙ ap (spot_of c.args.files.now) c.place.ensures in
    stage_for _ _ _ _ _ c.end_with-in-Sdf.ensures (λ answer is. is ∙ sdf_is c.args.files.now c.args.refusal c.in-Sdf.why c.in-Sdf.place (spot c.position_of-at.result) c.in-Sdf.is at)
