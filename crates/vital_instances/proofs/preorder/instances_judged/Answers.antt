use Rattle.std.proofs.Common.{List, ap, subst, sym, ◌∙◌}
use Rattle.std.proofs.lemmas.Result.{err_from_is_err_and}
use Rattle.std.specs.Prelude.{Result, Ok, Err}
use Rattle.vital_nodes.specs.declared.unit.Units.{Units}
use Rattle.vital_instances.specs.declared.instance.Instance.{Instance}
use Rattle.vital_instances.specs.Faults.{Fault, IsError}
use Rattle.vital_instances.specs.Frames.{resumed_all}
use Rattle.vital_instances.specs.Instances.{instances_under}
use Rattle.vital_instances.proofs.ErrorLemmas.{answered-error}
use Rattle.vital_instances.proofs.TopLemmas.{top-is}
use Rattle.vital_instances.proofs.preorder.instances_judged.Goals as goal

pub returns-in_default : goal.returns-in_default
returns-in_default c = λ judge judges. ap (instances_under judge c.args.library.now) (sym c.in_default.ensures.number)

pub returns-in_err-enter : goal.returns-in_err-enter
returns-in_err-enter c = λ judge judges.
    let new = c.new-entering in
    let p = err_from_is_err_and c.from_residual-in_err-enter.result c.from_residual-in_err-enter.ensures.1 in
    let top = top-is judge c.args.library.now c.in_ok-units.units c.args.top.now c.in-Some.number c.entity.result.now new.result.frames.items new.result.found.items (sym c.in-Some.ensures.number) c.entity.ensures c.in_ok-units.ensures new.ensures.frames new.ensures.found in
    answered-error (λ is. is) _ _ _ (p.1 ∙ ap Err p.2)
    (subst (λ (r : Result (List Instance) Fault). IsError r c.in_err-enter.field-0.0) (sym top) (c.in_err-enter.ensures.fault judge judges))

pub returns-in_err-finish : goal.returns-in_err-finish
returns-in_err-finish c = λ judge judges.
    let new = c.new-entering in
    let p = err_from_is_err_and c.from_residual-in_err-finish.result c.from_residual-in_err-finish.ensures.1 in
    let top = top-is judge c.args.library.now c.in_ok-units.units c.args.top.now c.in-Some.number c.entity.result.now new.result.frames.items new.result.found.items (sym c.in-Some.ensures.number) c.entity.ensures c.in_ok-units.ensures new.ensures.frames new.ensures.found in
    let entered =
    top
    ∙ c.in_ok-enter.ensures.entered judge judges
    ∙ ap (λ (files : List Units). resumed_all judge files c.enter.new.self.frames.items c.enter.new.self.found.items) (sym c.in_ok-enter.ensures.same) in
    answered-error (λ is. is) _ _ _ (p.1 ∙ ap Err p.2)
    (subst (λ (r : Result (List Instance) Fault). IsError r c.in_err-finish.field-0.0) (sym entered) (c.in_err-finish.ensures.fault judge judges))

pub returns : goal.returns
returns c = λ judge judges.
    let new = c.new-entering in
    let top = top-is judge c.args.library.now c.in_ok-units.units c.args.top.now c.in-Some.number c.entity.result.now new.result.frames.items new.result.found.items (sym c.in-Some.ensures.number) c.entity.ensures c.in_ok-units.ensures new.ensures.frames new.ensures.found in
    top
    ∙ c.in_ok-enter.ensures.entered judge judges
    ∙ ap (λ (files : List Units). resumed_all judge files c.enter.new.self.frames.items c.enter.new.self.found.items) (sym c.in_ok-enter.ensures.same)
    ∙ c.in_ok-finish.ensures.resumed judge judges
    ∙ ap Ok (sym c.new-2.ensures)
