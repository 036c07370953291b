use Rattle.std.proofs.Common.{List, [], ◌∷◌, ◌++◌, sym, ap, subst, ◌∙◌}
use Rattle.std.proofs.lemmas.Result.{err_from_is_err_and}
use Rattle.std.specs.Prelude.{Result, Err}
use Rattle.vital_instances.specs.declared.instance.Instance.{Instance}
use Rattle.vital_instances.specs.Faults.{Fault, IsError}
use Rattle.vital_instances.specs.Frames.{behind, next, resumed_all}
use Rattle.vital_instances.specs.Instances.{lent}
use Rattle.vital_instances.specs.Judges.{IsJudge, Judge}
use Rattle.vital_instances.proofs.EnterLemmas.{done-is, less-done}
use Rattle.vital_instances.proofs.ErrorLemmas.{told-error}
use Rattle.vital_instances.proofs.StepLemmas.{few-pushed, few-put, less-put, next-entered, pushed-is}
use Rattle.vital_instances.proofs.entering.Entering.step.Goals as goal

pub enter-requires : goal.enter-requires
enter-requires c =
    let fs = c.args.self.now.frames.items in
    let pushed = pushed-is fs _ c.args.frame _ c.in_ok-push-in-Some.ensures.items c.behind.ensures in
    few-pushed fs c.push.new.self.items (behind c.args.frame) c.requires pushed

pub returns-in_err-enter-in-Some-clause-fault : goal.returns-in_err-enter-in-Some-clause-fault
returns-in_err-enter-in-Some-clause-fault c =
    let files = c.args.units.now in
    let fs = c.args.self.now.frames.items in
    let found = c.args.self.now.found.items in
    let f = c.args.frame in
    let e = lent c.in-Some.entry in
    let pushed = pushed-is fs c.push.new.self.items f _ c.in_ok-push-in-Some.ensures.items c.behind.ensures in
    let p = err_from_is_err_and c.from_residual-in_err-enter-in-Some.result c.from_residual-in_err-enter-in-Some.ensures.1 in
    told-error (λ x. (judge : Judge) → IsJudge judge → IsError (resumed_all judge files (fs ++ f ∷ []) found) x) _ _ (p.1 ∙ ap Err p.2)
    (λ judge judges. subst (λ (r : Result (List Instance) Fault). IsError r c.in_err-enter-in-Some.field-0.0)
    (sym (next-entered judge files _ fs c.push.new.self.items f e found c.requires c.net_units.ensures c.in-Some.ensures.entry pushed))
    (c.in_err-enter-in-Some.ensures.fault judge judges))

pub returns-in_ok-enter-in-Some-clause-resumed : goal.returns-in_ok-enter-in-Some-clause-resumed
returns-in_ok-enter-in-Some-clause-resumed c = λ judge judges.
    let files = c.args.units.now in
    let fs = c.args.self.now.frames.items in
    let found = c.args.self.now.found.items in
    let f = c.args.frame in
    let e = lent c.in-Some.entry in
    let pushed = pushed-is fs c.push.new.self.items f _ c.in_ok-push-in-Some.ensures.items c.behind.ensures in
    next-entered judge files _ fs c.push.new.self.items f e found c.requires c.net_units.ensures c.in-Some.ensures.entry pushed
    ∙ c.in_ok-enter-in-Some.ensures.entered judge judges

pub returns-in_ok-enter-in-Some-clause-less : goal.returns-in_ok-enter-in-Some-clause-less
returns-in_ok-enter-in-Some-clause-less c =
    let fs = c.args.self.now.frames.items in
    let f = c.args.frame in
    let pushed = pushed-is fs c.push.new.self.items f _ c.in_ok-push-in-Some.ensures.items c.behind.ensures in
    let ok = c.in_ok-enter-in-Some.ensures in
    less-put fs c.push.new.self.items c.enter.new.self.frames.items (behind f) _ f c.args.self.now.found.items c.enter.new.self.found.items _ (lent c.in-Some.entry) ok.placed pushed ok.frames ok.found

pub returns-in_ok-enter-in-Some-clause-most_frames : goal.returns-in_ok-enter-in-Some-clause-most_frames
returns-in_ok-enter-in-Some-clause-most_frames c =
    let ok = c.in_ok-enter-in-Some.ensures in
    few-put c.push.new.self.items c.enter.new.self.frames.items _ c.args.self.now.found.items (lent c.in-Some.entry) ok.placed ok.frames

pub returns-in-None-clause-resumed : goal.returns-in-None-clause-resumed
returns-in-None-clause-resumed c = λ judge judges.
    let same = ap (λ files. next files c.args.frame) (sym c.net_units.ensures) in
    done-is judge c.args.units.now c.args.self.now.frames.items c.args.frame c.args.self.now.found.items c.requires (same ∙ sym c.in-None.ensures.entry)

pub returns-in-None-clause-less : goal.returns-in-None-clause-less
returns-in-None-clause-less c = less-done c.args.self.now.frames.items c.args.frame c.args.self.now.found.items
