-- The next part of a run: the initial run, where it is still to come, or else the next cycle.
use Rattle.std.proofs.Common.{◌≡◌, ◌∙◌, ℕ, ◌+◌, ◌-◌, ◌^◌, ◌<◌, ◌≤◌, Bool, true, false, IsSome, IsSomeAnd, [], Option, Some, None, Result, Ok, Err, OnOk, inl, inr, is_err, refl, ap, sym, subst, arith}
use Rattle.std.specs.Option.{option_map_or}
use Rattle.std.proofs.lemmas.Bool.{cases_eq, eq-eqb, ne_eqb}
use Rattle.vital_agenda.specs.Driver.{next_time}
use Rattle.vital_kernel.specs.Activations.{from_state, text_in}
use Rattle.vital_kernel.specs.Cycles.{Part, cycle_at, initial_run}
use Rattle.vital_kernel.specs.Kernels.{Simulation, after_next, begun, begun_text, next_cycle, next_delta, next_part, next_text}
use Rattle.vital_kernel.specs.Lines.{run_lines}
use Rattle.vital_kernel.specs.Networks.{Network}
use Rattle.vital_kernel.specs.Runs.{delta_at}
use Rattle.vital_kernel.specs.States.{State}
use Rattle.vital_report.specs.Lines.{text_of}

-- ---- the initial run, where it is done and where it is still to come

pub begun_as_it_is : (k : Simulation) → k.is_begun ≡ true → begun k ≡ k
begun_as_it_is k e = rw e refl

pub text_as_it_is : (k : Simulation) → k.is_begun ≡ true → begun_text k ≡ []
text_as_it_is k e = rw e refl

pub begun_first : (k : Simulation) → k.is_begun ≡ false → begun k ≡ after_next k
begun_first k e = rw e refl

pub text_first : (k : Simulation) → k.is_begun ≡ false → begun_text k ≡ next_text k
text_first k e = rw e refl

-- the next part is the initial run
pub after_initial : (k : Simulation) → k.is_begun ≡ false → record k { is_begun = true; state = (initial_run k.network k.lines).state } ≡ after_next k
after_initial k e = rw e refl

pub text_of_initial : (k : Simulation) → k.is_begun ≡ false → text_of (run_lines k.network (initial_run k.network k.lines).happened) ≡ next_text k
text_of_initial k e = rw e refl

-- ---- the next part is a cycle

part_is : (k : Simulation) (n : Network) (time : ℕ) → k.network ≡ n → k.is_begun ≡ true → next_time k.state.drivers ≡ Some time
    → next_part k ≡ cycle_at n time (delta_at time k.state.now k.state.delta) k.state
part_is k n time same is next =
    let s = k.state in
    let cycle : next_part k ≡ next_cycle k.network s = rw is refl in
    cycle ∙ ap (λ (o : Option ℕ). option_map_or (λ t. cycle_at k.network t (delta_at t s.now s.delta) s) o (from_state s)) next
    ∙ ap (λ (m : Network). cycle_at m time (delta_at time s.now s.delta) s) same

pub state_is : (k : Simulation) (n : Network) (time : ℕ) → k.network ≡ n → k.is_begun ≡ true → next_time k.state.drivers ≡ Some time
    → (next_part k).state ≡ (cycle_at n time (delta_at time k.state.now k.state.delta) k.state).state
state_is k n time same is next = ap (λ (p : Part). p.state) (part_is k n time same is next)

pub text_is : (k : Simulation) (n : Network) (time : ℕ) → k.network ≡ n → k.is_begun ≡ true → next_time k.state.drivers ≡ Some time
    → next_text k ≡ text_in n (cycle_at n time (delta_at time k.state.now k.state.delta) k.state).happened
text_is k n time same is next =
    let told : next_text k ≡ text_in k.network (next_part k).happened = rw is refl in
    told ∙ ap (λ (m : Network). text_in m (next_part k).happened) same ∙ ap (λ (p : Part). text_in n p.happened) (part_is k n time same is next)

-- a simulation after it
pub after_cycle : (k : Simulation) (time delta : ℕ) → k.is_begun ≡ true → next_time k.state.drivers ≡ Some time → delta ≡ delta_at time k.state.now k.state.delta
    → record k { state = (cycle_at k.network time delta k.state).state } ≡ after_next k
after_cycle k time delta is next counted =
    ap (λ (d : ℕ). let it : Simulation = record k { state = (cycle_at k.network time d k.state).state } in it) counted
    ∙ ap (λ (s : State). let it : Simulation = record k { state = s } in it) (sym (state_is k k.network time refl is next))
    ∙ ap (λ (b : Bool). let it : Simulation = record k { is_begun = b; state = (next_part k).state } in it) is

pub text_of_cycle : (k : Simulation) (time delta : ℕ) → k.is_begun ≡ true → next_time k.state.drivers ≡ Some time → delta ≡ delta_at time k.state.now k.state.delta
    → text_in k.network (cycle_at k.network time delta k.state).happened ≡ next_text k
text_of_cycle k time delta is next counted =
    ap (λ (d : ℕ). text_in k.network (cycle_at k.network time d k.state).happened) counted ∙ sym (text_is k k.network time refl is next)

-- ---- the time of the next cycle

pub is_there : (o : Option ℕ) → IsSomeAnd o (λ time. time ≤ 2 ^ 60) → IsSome o
is_there None comes = absurd comes
is_there (Some time) comes = refl

pub is_early : (o : Option ℕ) (time : ℕ) → IsSomeAnd o (λ time. time ≤ 2 ^ 60) → o ≡ Some time → time ≤ 2 ^ 60
is_early o time comes is = subst (λ (x : Option ℕ). IsSomeAnd x (λ time. time ≤ 2 ^ 60)) is comes

-- ---- the delta number of the next cycle

pub delta_is : (s : State) (time : ℕ) → next_time s.drivers ≡ Some time → next_delta s ≡ delta_at time s.now s.delta
delta_is s time next = ap (λ (o : Option ℕ). option_map_or (λ t. delta_at t s.now s.delta) o 0) next

pub delta_more : (time now delta : ℕ) → time ≡ now → delta + 1 ≡ delta_at time now delta
delta_more time now delta same = rw (eq-eqb time now same) refl

pub delta_anew : (time now read delta : ℕ) → (time ≡ read → ⊥) → read ≡ now → 0 ≡ delta_at time now delta
delta_anew time now read delta other is = rw (ne_eqb time now (λ e. other (e ∙ sym is))) refl

-- where the present one can be counted on
pub delta_few : (s : State) → s.delta < 2 ^ 32 - 1 → next_delta s < 2 ^ 64 - 1
delta_few s few = by (next_time s.drivers)
  where
    by : (o : Option ℕ) → option_map_or (λ time. delta_at time s.now s.delta) o 0 < 2 ^ 64 - 1
    by None = omega arith
    by (Some time) = elim (cases_eq time s.now) [
      | inl same ↦ let more = delta_more time s.now s.delta same in omega (arith, more, few)
      | inr other ↦ let anew = delta_anew time s.now s.now s.delta other refl in omega (arith, anew)
    ]

-- ---- the mark of a failure

pub marked : {E : Type 0} (result : Result Unit E) (mark : Bool) (old new : Simulation) → mark ≡ is_err result → old.is_given_up ≡ false → OnOk result (new ≡ after_next old)
    → OnOk result ((let it : Simulation = record new { is_given_up = mark } in it) ≡ after_next old)
marked (Ok x) mark old new is none after =
    ap (λ (k : Simulation). let it : Simulation = record k { is_given_up = mark } in it) after
    ∙ ap (λ (b : Bool). let it : Simulation = record (after_next old) { is_given_up = b } in it) (is ∙ sym none)
marked (Err e) mark old new is none after = tt

-- Where nothing failed, it is as it was.
pub unmarked : {E : Type 0} (result : Result Unit E) (mark : Bool) (k : Simulation) → mark ≡ is_err result → k.is_given_up ≡ false → OnOk result ((let it : Simulation = record k { is_given_up = mark } in it) ≡ k)
unmarked (Ok x) mark k is none = ap (λ (b : Bool). let it : Simulation = record k { is_given_up = b } in it) (is ∙ sym none)
unmarked (Err e) mark k is none = tt
