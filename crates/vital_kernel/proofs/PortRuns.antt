-- The run of ports alone ends.
use Rattle.std.proofs.Common.{◌≡◌, ◌∙◌, ℕ, ◌+◌, ◌<◌, ◌⊎◌, inl, inr, List, [], map, Option, Some, None, refl, sym, ap, subst, arith}
use Rattle.std.specs.List.{enumerate_from, filter, flat_map}
use Rattle.std.proofs.lemmas.Bool.{cases_eq, eq-eqb, ne_eqb}
use Rattle.vital_agenda.specs.Driver.{AllRise, advance, next_time}
use Rattle.vital_base.specs.declared.ports.PortBit.{PortBit}
use Rattle.vital_stim.specs.declared.stimuli.StimLine.{StimLine}
use Rattle.vital_kernel.specs.Cycles.{Happening, Part, all_activated, cycle_at, initial_run, is_sensitive_to, new_values, updated}
use Rattle.vital_kernel.specs.PortRuns.{IsPortRun}
use Rattle.vital_kernel.specs.Runs.{End, Ended, IsRun, Run, cycle, delta_at, ended, ends, goes_on, passed, passes, step, step_at, up_to}
use Rattle.vital_kernel.specs.States.{State}
use Rattle.vital_kernel.proofs.Kept.{initial_keeps}
use Rattle.vital_kernel.proofs.Least.{all_rise_after, all_rise_lower, all_rise_next, next_is_above}
use Rattle.vital_kernel.proofs.RunLemmas.{step_cycle}
use Rattle.vital_kernel.proofs.SomeRun.{Next, next_in, one_whole_run}
use Rattle.vital_kernel.specs.Networks.{NetCell, NetProcess, Network, processes, processes_of}
use Rattle.vital_kernel.specs.PortNetworks.{port_network}

-- only the first cycle can come at the present time
record IsAt (s : State) : Type 0 where
  pub rise : AllRise s.now s.drivers
  pub first_or_later : (s.delta ≡ 0) ⊎ AllRise (s.now + 1) s.drivers

-- ---- a cycle of a network without cells

cycle_is : (n : Network) (time delta : ℕ) (s : State) → n.cells ≡ [] → cycle_at n time delta s ≡ updated n time delta s
cycle_is n time delta s none =
    let no_processes : processes n ≡ [] = ap (λ (cells : List NetCell). flat_map processes_of (enumerate_from 0 cells)) none in
    ap (λ (ps : List NetProcess). all_activated (filter (is_sensitive_to (new_values n time s)) ps) (updated n time delta s)) no_processes

at_after : (n : Network) (time delta : ℕ) (s : State) → n.cells ≡ [] → IsAt s → next_time s.drivers ≡ Some time → IsAt (cycle_at n time delta s).state
at_after n time delta s none at next =
    let later = all_rise_after time s.drivers (all_rise_next s.now time s.drivers at.rise next) in
    let updated_at : IsAt (updated n time delta s).state =
    record { rise = all_rise_lower time (time + 1) (map (advance time) s.drivers) (omega arith) later; first_or_later = inr later } in
    subst (λ (part : Part). IsAt part.state) (sym (cycle_is n time delta s none)) updated_at

-- a cycle at the present time is the first one
few_deltas : (limit time now delta : ℕ) → 1 < limit → (time ≡ now → delta ≡ 0) → delta_at time now delta < limit
few_deltas limit time now delta more first =
    elim (cases_eq time now) [
      | inl same ↦ rw (eq-eqb time now same) (omega (arith, first same, more))
      | inr other ↦ rw (ne_eqb time now other) (omega (arith, more))
    ]

first_of_time : (s : State) (time : ℕ) → (s.delta ≡ 0) ⊎ AllRise (s.now + 1) s.drivers → next_time s.drivers ≡ Some time → time ≡ s.now → s.delta ≡ 0
first_of_time s time (inl zeroth) next same = zeroth
first_of_time s time (inr later) next same = absurd (omega (arith, same, next_is_above (s.now + 1) time s.drivers later next))

-- ---- the steps

-- it ends, or a cycle comes
data Goes (n : Network) (until limit : ℕ) (s : State) : Type 0 where
  stops : step n until limit s ≡ ended → Goes n until limit s
  comes : (time delta : ℕ) → next_time s.drivers ≡ Some time → step n until limit s ≡ cycle (cycle_at n time delta s).happened (cycle_at n time delta s).state → Goes n until limit s

goes_by : (n : Network) (until limit : ℕ) (s : State) (o : Option ℕ) → 1 < limit → IsAt s → o ≡ up_to until (next_time s.drivers) → Goes n until limit s
goes_by n until limit s None more at e = stops (sym (ap (step_at n limit s) e))
goes_by n until limit s (Some time) more at e =
    let next : Next until s time = next_in until s time (next_time s.drivers) refl (sym e) in
    let few = few_deltas limit time s.now s.delta more (first_of_time s time at.first_or_later next.is) in
    comes time (delta_at time s.now s.delta) next.is (step_cycle n until limit s time e few)

goes : (n : Network) (until limit : ℕ) (s : State) → 1 < limit → IsAt s → Goes n until limit s
goes n until limit s more at = goes_by n until limit s (up_to until (next_time s.drivers)) more at refl

at_next : (n : Network) (until limit : ℕ) (s next : State) (happened : List Happening) → n.cells ≡ [] → IsAt s → step n until limit s ≡ cycle happened next → Goes n until limit s → IsAt next
at_next n until limit s next happened none at e (stops f) = absurd cc
at_next n until limit s next happened none at e (comes time delta is f) =
    let same : (cycle_at n time delta s).state ≡ next = cc in
    subst IsAt same (at_after n time delta s none at is)

never_passes : (n : Network) (until limit time : ℕ) (s : State) → step n until limit s ≡ passed time → Goes n until limit s → ⊥
never_passes n until limit time s e (stops f) = cc
never_passes n until limit time s e (comes t delta is f) = cc

run_ends : {n : Network} {until limit : ℕ} {s last : State} {happened : List Happening} {end : End} → IsRun n until limit s happened last end → 1 < limit → n.cells ≡ [] → IsAt s → end ≡ Ended
run_ends (ends e) more none at = refl
run_ends {n} {until} {limit} {s} (passes {time = time} e) more none at = absurd (never_passes n until limit time s e (goes n until limit s more at))
run_ends {n} {until} {limit} {s} (goes_on {next = next} {happened = happened} e later) more none at =
    run_ends later more none (at_next n until limit s next happened none at e (goes n until limit s more at))

-- ---- the whole run

at_first : (n : Network) (lines : List StimLine) → IsAt (initial_run n lines).state
at_first n lines =
    let kept = initial_keeps n lines in
    let s = (initial_run n lines).state in
    record { rise = subst (λ (t : ℕ). AllRise t s.drivers) (sym kept.now_is) kept.rise; first_or_later = inl kept.delta_is }

pub port_run : (ports : List PortBit) (lines : List StimLine) (until limit : ℕ) → 1 < limit → (r : Run) × IsPortRun ports lines until limit r
port_run ports lines until limit more =
    let n = port_network ports in
    let one = one_whole_run n lines until limit in
    (one.run, record { is = one.is; ends = ap (λ (r : Run). r.end) one.is.2 ∙ run_ends one.is.1 more refl (at_first n lines) })
