use Rattle.std.proofs.Common.{◌≡◌, ◌-◌, ◌<◌, ℕ, List, [], ◌++◌, take, sym, ap, subst, ◌∙◌}
use Rattle.std.proofs.lemmas.Result.{err_from_is_err_and}
use Rattle.std.specs.Prelude.{Result, Err}
use Rattle.vital_nodes.specs.declared.unit.Units.{Units}
use Rattle.vital_instances.specs.declared.frame.Frame.{Frame}
use Rattle.vital_instances.specs.declared.instance.Instance.{Instance}
use Rattle.vital_instances.specs.Faults.{Fault, IsError}
use Rattle.vital_instances.specs.Frames.{resumed_all, work}
use Rattle.vital_instances.specs.Judges.{IsJudge, Judge}
use Rattle.vital_instances.proofs.ErrorLemmas.{told-error}
use Rattle.vital_instances.proofs.StepLemmas.{few-popped, popped-is}
use Rattle.vital_instances.proofs.entering.Entering.finish.Goals as goal

pub step-requires : goal.step-requires
step-requires c = few-popped c.loop-frame.self.frames.items c.pop.new.self.items c.in-Some.frame c.loop-frame.invariant.few c.in-Some.ensures.items

pub loop-frame-smaller : goal.loop-frame-smaller
loop-frame-smaller c =
    subst (λ (fs : List Frame). work c.step.new.self.frames.items c.step.new.self.found.items < work fs c.loop-frame.self.found.items) (sym c.in-Some.ensures.items) c.in_ok-step.ensures.less

pub loop-frame-preserved : goal.loop-frame-preserved
loop-frame-preserved c =
    let l = c.loop-frame in
    let start = c.args.units.now in
    record {
      few = c.in_ok-step.ensures.most_frames;
      same = c.in_ok-step.ensures.same ∙ l.invariant.same;
      left = λ judge judges.
          l.invariant.left judge judges
          ∙ popped-is judge start l.units l.self.frames.items c.pop.new.self.items c.in-Some.frame l.self.found.items l.invariant.same c.in-Some.ensures.items
          ∙ c.in_ok-step.ensures.resumed judge judges
          ∙ ap (λ (files : List Units). resumed_all judge files c.step.new.self.frames.items c.step.new.self.found.items) l.invariant.same;
    }

pub returns-in_err-step-clause-fault : goal.returns-in_err-step-clause-fault
returns-in_err-step-clause-fault c =
    let l = c.loop-frame in
    let start = c.args.units.now in
    let all = c.args.self.now.frames.items in
    let found = c.args.self.now.found.items in
    let p = err_from_is_err_and c.from_residual.result c.from_residual.ensures.1 in
    told-error (λ x. (judge : Judge) → IsJudge judge → IsError (resumed_all judge start all found) x) _ _ (p.1 ∙ ap Err p.2)
    (λ judge judges. subst (λ (r : Result (List Instance) Fault). IsError r c.in_err-step.field-0.0)
    (sym (l.invariant.left judge judges ∙ popped-is judge start l.units l.self.frames.items c.pop.new.self.items c.in-Some.frame l.self.found.items l.invariant.same c.in-Some.ensures.items))
    (c.in_err-step.ensures.fault judge judges))

pub returns-clause-resumed : goal.returns-clause-resumed
returns-clause-resumed c = λ judge judges.
    let l = c.loop-frame in
    let all = l.self.frames.items in
    let rest : c.pop.new.self.items ≡ [] = c.pop.ensures.rest ∙ ap (λ (n : ℕ). take (n - 1) all) c.in_default.ensures.cases.0 in
    let none : all ≡ [] = c.in_default.ensures.items ∙ ap (λ (fs : List Frame). fs ++ []) rest in
    l.invariant.left judge judges ∙ ap (λ (fs : List Frame). resumed_all judge c.args.units.now fs l.self.found.items) none
