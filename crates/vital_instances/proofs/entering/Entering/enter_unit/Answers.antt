use Rattle.std.proofs.Common.{[], ◌∷◌, ◌++◌, sym, ap, ◌∙◌}
use Rattle.std.proofs.lemmas.Result.{err_from_is_err_and}
use Rattle.std.specs.Prelude.{Err}
use Rattle.vital_instances.specs.Faults.{IsError}
use Rattle.vital_instances.specs.Frames.{entered_all, resumed_all}
use Rattle.vital_instances.specs.Instances.{instance_of, lent, opened}
use Rattle.vital_instances.specs.Judges.{IsJudge, Judge}
use Rattle.vital_instances.specs.Units as of_units
use Rattle.vital_instances.proofs.EnterLemmas.{good-is, placed, wrong-is}
use Rattle.vital_instances.proofs.ErrorLemmas.{error-follows, told-error}
use Rattle.vital_instances.proofs.entering.Entering.enter_unit.Goals as goal

pub returns-clause-entered : goal.returns-clause-entered
returns-clause-entered c = λ judge judges.
    let files = c.args.units.now in
    let fs = c.args.self.now.frames.items in
    let found = c.args.self.now.found.items in
    let e = lent c.args.entry in
    good-is judge files fs e found _ (placed fs found e c.requires.placed) c.requires.unit (c.in_ok-open.ensures.opened judge judges)
    ∙ ap (λ gs. resumed_all judge files gs (found ++ instance_of e ∷ [])) (sym c.in_ok-put.ensures.frames)
    ∙ ap (resumed_all judge files c.put.new.self.frames.items) (sym c.in_ok-put.ensures.found)

pub returns-in_err-open-clause-fault : goal.returns-in_err-open-clause-fault
returns-in_err-open-clause-fault c =
    let files = c.args.units.now in
    let fs = c.args.self.now.frames.items in
    let found = c.args.self.now.found.items in
    let e = lent c.args.entry in
    let u = of_units.lent c.args.unit in
    let p = err_from_is_err_and c.from_residual.result c.from_residual.ensures.1 in
    told-error (λ x. (judge : Judge) → IsJudge judge → IsError (entered_all judge files fs e found) x) _ _ (p.1 ∙ ap Err p.2)
    (λ judge judges. error-follows (opened judge files u) (entered_all judge files fs e found)
    (λ f wrong. wrong-is judge files fs e found u f (placed fs found e c.requires.placed) c.requires.unit wrong) _ (c.in_err-open.ensures.opened judge judges))
