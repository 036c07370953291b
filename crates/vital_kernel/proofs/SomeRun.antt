-- What the plain program gives is a run, and it gives one.
use Rattle.std.proofs.Common.{◌≡◌, ℕ, zero, suc, ◌+◌, ◌-◌, ◌*◌, ◌<◌, ◌≤◌, leb, cond, inl, inr, List, [], Option, Some, None, refl, sym, ap, subst, ◌∙◌, arith}
use Rattle.std.specs.Option.{option_and_then, option_map}
use Rattle.std.proofs.Math.Nat.{add-mul}
use Rattle.std.proofs.lemmas.Bool.{cases_Bool, cases_eq, cases_lt, eq-eqb, le-leb, leb-true, lt-leb, ne_eqb}
use Rattle.std.proofs.lemmas.Nat.{mul-le}
use Rattle.vital_agenda.specs.Driver.{AllRise, next_time}
use Rattle.vital_stim.specs.declared.stimuli.StimLine.{StimLine}
use Rattle.vital_kernel.specs.Cycles.{Happening, Part, cycle_at, initial_run}
use Rattle.vital_kernel.specs.Networks.{Network}
use Rattle.vital_kernel.specs.Runs.{DeltaPassed, End, Ended, HasOneRun, HasOneRunFrom, IsRun, Run, Step, behind, cycle, delta_at, ended, ends, goes_on, going_on, passed, passes, run_within, step, step_at, up_to}
use Rattle.vital_kernel.specs.States.{State}
use Rattle.vital_kernel.proofs.Kept.{Keeps, cycle_keeps, initial_keeps}
use Rattle.vital_kernel.proofs.Least.{all_rise_next, next_is_above}
use Rattle.vital_kernel.proofs.OneRun.{one_run}

-- ---- what the program gives is a run

abbrev Gives : ℕ → Network → ℕ → ℕ → Type 0
Gives most n until limit = (s : State) (r : Run) → run_within most n until limit s ≡ Some r → IsRun n until limit s r.happened r.last r.end

by_later : (most : ℕ) (n : Network) (until limit : ℕ) (s next : State) (happened : List Happening) (r : Run) (o : Option Run) → Gives most n until limit → step n until limit s ≡ cycle happened next
    → run_within most n until limit next ≡ o → option_map (behind happened) o ≡ Some r → IsRun n until limit s r.happened r.last r.end
by_later most n until limit s next happened r None later is found e = absurd cc
by_later most n until limit s next happened r (Some q) later is found e =
    let same : behind happened q ≡ r = cc in
    subst (λ (x : Run). IsRun n until limit s x.happened x.last x.end) same (goes_on is (later next q found))

by_step : (most : ℕ) (n : Network) (until limit : ℕ) (s : State) (r : Run) (x : Step) → Gives most n until limit → step n until limit s ≡ x
    → going_on s (run_within most n until limit) x ≡ Some r → IsRun n until limit s r.happened r.last r.end
by_step most n until limit s r ended later is e =
    let whole : Run = record { happened = []; last = s; end = Ended } in
    let same : whole ≡ r = cc in
    subst (λ (x : Run). IsRun n until limit s x.happened x.last x.end) same (ends is)
by_step most n until limit s r (passed time) later is e =
    let whole : Run = record { happened = []; last = s; end = DeltaPassed time } in
    let same : whole ≡ r = cc in
    subst (λ (x : Run). IsRun n until limit s x.happened x.last x.end) same (passes is)
by_step most n until limit s r (cycle happened next) later is e =
    by_later most n until limit s next happened r (run_within most n until limit next) later is refl e

pub is_run : (most : ℕ) (n : Network) (until limit : ℕ) → Gives most n until limit
is_run zero n until limit s r e = absurd cc
is_run (suc most) n until limit s r e = by_step most n until limit s r (step n until limit s) (is_run most n until limit) refl e

-- ---- it gives one

-- more steps than these are not left
abbrev pub steps_left : ℕ → ℕ → ℕ → ℕ → ℕ
steps_left until limit now delta = (until - now) * (limit + 1) + (limit - delta) + 1

abbrev Finds : ℕ → Network → ℕ → ℕ → Type 0
Finds most n until limit = (s : State) → AllRise s.now s.drivers → steps_left until limit s.now s.delta ≤ most → (r : Run) × (run_within most n until limit s ≡ Some r)

none_left : (times deltas : ℕ) → times + deltas + 1 ≤ 0 → ⊥
none_left times deltas enough = omega (arith, enough)

-- the next cycle has the present time, or a later one
pub fewer_left : (until limit now time delta most : ℕ) → now ≤ time → time ≤ until → delta_at time now delta < limit → steps_left until limit now delta ≤ suc most
    → steps_left until limit time (delta_at time now delta) ≤ most
fewer_left until limit now time delta most le within next enough =
    elim (cases_eq time now) [
      | inl same ↦
          let more : delta + 1 < limit = rw (eq-eqb time now same) at next in
          rw (eq-eqb time now same) (rw same (same_time ((until - now) * (limit + 1)) limit delta most more enough))
      | inr other ↦
          rw (ne_eqb time now other)
          (later_time ((until - now) * (limit + 1)) ((until - time) * (limit + 1)) limit delta most enough
          (later_product (until - now) (until - time) (limit + 1) (omega (arith, le, within, other))))
    ]
  where
    same_time : (times limit delta most : ℕ) → delta + 1 < limit → times + (limit - delta) + 1 ≤ suc most → times + (limit - (delta + 1)) + 1 ≤ most
    same_time times limit delta most more enough = omega (arith, more, enough)

    later_time : (times others limit delta most : ℕ) → times + (limit - delta) + 1 ≤ suc most → others + (limit + 1) ≤ times → others + (limit - 0) + 1 ≤ most
    later_time times others limit delta most enough less = omega (arith, enough, less)

    later_product : (a b each : ℕ) → b + 1 ≤ a → b * each + each ≤ a * each
    later_product a b each le =
        let one : b * each + 1 * each ≤ a * each = subst (λ (x : ℕ). x ≤ a * each) (add-mul b 1 each) (mul-le (b + 1) each a each le (omega arith)) in
        omega (arith, one)

-- the time of the next cycle
pub record Next (until : ℕ) (s : State) (time : ℕ) : Type 0 where
  pub is : next_time s.drivers ≡ Some time
  pub within : time ≤ until

pub next_in : (until : ℕ) (s : State) (time : ℕ) (o : Option ℕ) → next_time s.drivers ≡ o → option_and_then (λ t. cond (leb t until) (Some t) None) o ≡ Some time → Next until s time
next_in until s time None is e = absurd cc
next_in until s time (Some t) is e =
    elim (cases_Bool (leb t until)) [
      | inl within ↦
          let some : Some t ≡ Some time = rw within at e in
          let same : t ≡ time = cc in
          record { is = is ∙ some; within = subst (λ (x : ℕ). x ≤ until) same (leb-true t until within) }
      | inr past ↦ let none : None ≡ Some time = rw past at e in absurd cc
    ]

one_more : (most : ℕ) (n : Network) (until limit : ℕ) (s : State) (x : Step) → step n until limit s ≡ x → run_within (suc most) n until limit s ≡ going_on s (run_within most n until limit) x
one_more most n until limit s x e = ap (going_on s (run_within most n until limit)) e

-- where a cycle comes
by_cycle : (most : ℕ) (n : Network) (until limit : ℕ) (s : State) (time : ℕ) → Finds most n until limit → AllRise s.now s.drivers → steps_left until limit s.now s.delta ≤ suc most → Next until s time
    → step n until limit s ≡ step_at n limit s (Some time) → (r : Run) × (run_within (suc most) n until limit s ≡ Some r)
by_cycle most n until limit s time later rise enough next is =
    let delta = delta_at time s.now s.delta in
    elim (cases_lt delta limit) [
      | inr past ↦
          let step_is : step_at n limit s (Some time) ≡ passed time = rw (le-leb limit delta past) refl in
          (record { happened = []; last = s; end = DeltaPassed time }, one_more most n until limit s (passed time) (is ∙ step_is))
      | inl within ↦
          let part : Part = cycle_at n time delta s in
          let step_is : step_at n limit s (Some time) ≡ cycle part.happened part.state = rw (lt-leb limit delta within) refl in
          let kept : Keeps time delta part = cycle_keeps n time delta s (all_rise_next s.now time s.drivers rise next.is) in
          let left = fewer_left until limit s.now time s.delta most (next_is_above s.now time s.drivers rise next.is) next.within within enough in
          let found =
          later part.state
          (subst (λ (t : ℕ). AllRise t part.state.drivers) (sym kept.now_is) kept.rise)
          (subst (λ (d : ℕ). steps_left until limit part.state.now d ≤ most) (sym kept.delta_is) (subst (λ (t : ℕ). steps_left until limit t delta ≤ most) (sym kept.now_is) left)) in
          (behind part.happened found.0, one_more most n until limit s (cycle part.happened part.state) (is ∙ step_is) ∙ ap (option_map (behind part.happened)) found.1)
    ]

by_next : (most : ℕ) (n : Network) (until limit : ℕ) (s : State) (o : Option ℕ) → Finds most n until limit → AllRise s.now s.drivers → steps_left until limit s.now s.delta ≤ suc most
    → up_to until (next_time s.drivers) ≡ o → (r : Run) × (run_within (suc most) n until limit s ≡ Some r)
by_next most n until limit s None later rise enough e =
    (record { happened = []; last = s; end = Ended }, one_more most n until limit s ended (ap (step_at n limit s) e))
by_next most n until limit s (Some time) later rise enough e =
    by_cycle most n until limit s time later rise enough (next_in until s time (next_time s.drivers) refl e) (ap (step_at n limit s) e)

some_run : (most : ℕ) (n : Network) (until limit : ℕ) → Finds most n until limit
some_run zero n until limit s rise enough = absurd (none_left ((until - s.now) * (limit + 1)) (limit - s.delta) enough)
some_run (suc most) n until limit s rise enough = by_next most n until limit s (up_to until (next_time s.drivers)) (some_run most n until limit) rise enough refl

-- ---- there is one run

same_run : (r q : Run) → r.happened ≡ q.happened → r.last ≡ q.last → r.end ≡ q.end → r ≡ q
same_run r q happened last end =
    ap (λ (h : List Happening). let it : Run = record { happened = h; last = r.last; end = r.end } in it) happened
    ∙ ap (λ (s : State). let it : Run = record { happened = q.happened; last = s; end = r.end } in it) last
    ∙ ap (λ (e : End). let it : Run = record { happened = q.happened; last = q.last; end = e } in it) end

enough_steps : (until limit now delta : ℕ) → steps_left until limit now delta ≤ (until + 1) * (limit + 1)
enough_steps until limit now delta =
    let all = add-mul until 1 (limit + 1) in
    let fewer = mul-le (until - now) (limit + 1) until (limit + 1) (omega arith) (omega arith) in
    omega (arith, all, fewer)

pub one_run_from : (n : Network) (until limit : ℕ) (s : State) → AllRise s.now s.drivers → HasOneRunFrom n until limit s
one_run_from n until limit s rise =
    let most = (until + 1) * (limit + 1) in
    let found = some_run most n until limit s rise (enough_steps until limit s.now s.delta) in
    let is = is_run most n until limit s found.0 found.1 in
    record {
      run = found.0;
      given = found.1;
      is = is;
      only = λ other run. let same = one_run run is in same_run other found.0 same.0 same.1 same.2;
    }

pub one_whole_run : (n : Network) (lines : List StimLine) (until limit : ℕ) → HasOneRun n lines until limit
one_whole_run n lines until limit =
    let first = initial_run n lines in
    let kept = initial_keeps n lines in
    let later = one_run_from n until limit first.state (subst (λ (t : ℕ). AllRise t first.state.drivers) (sym kept.now_is) kept.rise) in
    record {
      run = behind first.happened later.run;
      given = ap (option_map (behind first.happened)) later.given;
      is = (later.run, later.is, refl);
      only = λ other whole. whole.2 ∙ ap (behind first.happened) (later.only whole.0 whole.1);
    }
