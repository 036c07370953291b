use Rattle.std.proofs.Common.{◌≤◌, length, subst, sym, take, take_all, arith}
use Rattle.std.proofs.lemmas.List.Elements.{All-more, All-same, All-weaker}
use Rattle.vital_machine.specs.declared.steps.PathDelayStep.{PathDelayStep}
use Rattle.vital_machine.proofs.program.paths_of_delays.Goals as goal

pub loop-delay-preserved : goal.loop-delay-preserved
loop-delay-preserved c =
    let IsFew : PathDelayStep → Type 0 = λ d. length d.paths ≤ c.max-most.result in
    All-more IsFew c.args.delays.now c.loop-delay.delay-index c.delay-item.result (omega arith)
    (All-weaker (λ (d : PathDelayStep). length d.paths ≤ c.loop-delay.most) IsFew (λ d few. omega arith) (take c.loop-delay.delay-index c.args.delays.now) c.loop-delay.invariant)
    (subst IsFew c.delay-item.is (omega arith))

pub returns : goal.returns
returns c =
    let IsFew : PathDelayStep → Type 0 = λ d. length d.paths ≤ c.loop-delay.most in
    All-same IsFew c.args.delays.now (take c.loop-delay.delay-index c.args.delays.now) (sym (take_all c.loop-delay.delay-index c.args.delays.now (omega arith))) c.loop-delay.invariant
