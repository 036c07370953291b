-- From a state on there is one run.
use Rattle.std.proofs.Common.{◌≡◌, ℕ, List, ◌++◌, refl, ap, subst, ◌∙◌}
use Rattle.vital_kernel.specs.Cycles.{Happening}
use Rattle.vital_kernel.specs.Networks.{Network}
use Rattle.vital_kernel.specs.Runs.{DeltaPassed, End, IsRun, ends, goes_on, passes}
use Rattle.vital_kernel.specs.States.{State}

-- what happens in two runs from one state is the same, and so are the states that they come to and their ends
pub one_run : {n : Network} {until limit : ℕ} {s last other : State} {happened others : List Happening} {end another : End}
    → IsRun n until limit s happened last end → IsRun n until limit s others other another → (happened ≡ others) × (last ≡ other) × (end ≡ another)
one_run (ends e) (ends f) = (refl, refl, refl)
one_run (ends e) (passes f) = absurd cc
one_run (ends e) (goes_on f later) = absurd cc
one_run (passes {time = t} e) (passes {time = u} f) =
    let same : t ≡ u = cc in
    (refl, refl, ap (λ (time : ℕ). DeltaPassed time) same)
one_run (passes e) (ends f) = absurd cc
one_run (passes e) (goes_on f later) = absurd cc
one_run (goes_on e later) (ends f) = absurd cc
one_run (goes_on e later) (passes f) = absurd cc
one_run {n} {until} {limit} (goes_on {next = s} {happened = h} {later = l} e later) (goes_on {next = t} {last = o} {happened = k} {later = r} {end = x} f rest) =
    let states : t ≡ s = cc in
    let now : h ≡ k = cc in
    let all = one_run later (subst (λ (u : State). IsRun n until limit u r o x) states rest) in
    (ap (λ (front : List Happening). front ++ l) now ∙ ap (λ (back : List Happening). k ++ back) all.0, all.1, all.2)
