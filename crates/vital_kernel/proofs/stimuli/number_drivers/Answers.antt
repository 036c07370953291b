use Rattle.std.proofs.Common.{◌≡◌, ℕ, drop, subst, arith}
use Rattle.vital_kernel.proofs.StimulusLemmas.{AreNumbered}
use Rattle.vital_kernel.proofs.stimuli.number_drivers.Goals as goal

pub returns : goal.returns
returns c =
    λ port h.
    let none : c.loop-number.number ≡ 0 = omega arith in
    let done : AreNumbered 0 c.loop-number.numbers c.args.drivers.now = subst (λ (k : ℕ). AreNumbered k c.loop-number.numbers (drop k c.args.drivers.now)) none c.loop-number.invariant in
    omega (arith, done port h)
