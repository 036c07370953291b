-- A cycle as its parts.
use Rattle.std.proofs.Common.{◌≡◌, ◌∙◌, ℕ, ◌<◌, List, ◌++◌, length, map, Ok, Err, Result, OnOk, ap, sym, subst, arith}
use Rattle.std.specs.List.{enumerate_from, filter, filter_map, flat_map}
use Rattle.std.specs.Prelude.{All, slice_get}
use Rattle.std.proofs.lemmas.List.{length-map}
use Rattle.std.proofs.lemmas.List.FromFn.{length-enumerate_from}
use Rattle.vital_agenda.specs.Agendas.{Content, advanced}
use Rattle.vital_agenda.specs.Driver.{Driver, advance}
use Rattle.vital_cell.specs.Variables.{Slot}
use Rattle.vital_kernel.specs.Activations.{event_text_at, from_state, state_of, text_in}
use Rattle.vital_kernel.specs.Cycles.{Part, all_activated, cycle_at, is_sensitive_to, new_values, updated}
use Rattle.vital_kernel.specs.States.{State, values}
use Rattle.vital_kernel.proofs.Activations.{all_from, behind_part, text_in-append}
use Rattle.vital_kernel.proofs.EventLemmas.{event_texts, events_rise}
use Rattle.vital_kernel.proofs.Picked.{picked, triggered_below}
use Rattle.vital_kernel.specs.Triggered.{triggered_by}
use Rattle.vital_logic.specs.declared.level.Level.{Level}
use Rattle.vital_kernel.specs.Networks.{NetProcess, Network, all_drivers, processes, sensitivity}
use Rattle.vital_signals.specs.Events.{new_values as new_events, with_values}
use Rattle.vital_signals.specs.Lists.{AreRising}
use Rattle.vital_signals.specs.SignalStates.{AreCurrent, SignalState, updated as renewed}
use Rattle.vital_signals.specs.Values.{values as given}
use Rattle.vital_signals.specs.declared.signal.Signal.{Signal}

-- what is only for an `Ok`
pub on_ok : {T E P Q : Type 0} (r : Result T E) → OnOk r P → (P → Q) → OnOk r Q
on_ok (Ok x) h f = f h
on_ok (Err e) h f = tt

pub on_ok_always : {T E P : Type 0} (r : Result T E) → P → OnOk r P
on_ok_always (Ok x) h = h
on_ok_always (Err e) h = tt

-- there are as many signals as in the network
pub as_many_signals : (n : Network) (s : SignalState) (ds : List Driver) → s.defaults ≡ map (λ x. x.initial) n.signals → AreCurrent s ds → length s.signals ≡ length n.signals
as_many_signals n s ds defaults current =
    sym (length-map s.signals (λ x. x.value)) ∙ ap length current.given
    ∙ length-map (enumerate_from 0 s.defaults) _ ∙ length-enumerate_from 0 s.defaults ∙ ap length defaults ∙ length-map n.signals (λ x. x.initial)

-- as many drivers, too
pub as_many_drivers : (n : Network) (s : SignalState) (ds : List Driver) → s.signals_of ≡ map (λ x. x.signal) (all_drivers n) → AreCurrent s ds → length ds ≡ length (all_drivers n)
as_many_drivers n s ds signals_of current = current.one_each ∙ ap length signals_of ∙ length-map (all_drivers n) (λ x. x.signal)

-- ---- what the signals are after the first half of a cycle

-- the values that the drivers give
abbrev Given : Network → ℕ → State → List Level
Given n time s = values n (map (advance time) s.drivers)

-- a cycle at a time has advanced the agenda and the signals
pub record IsUpdated (n : Network) (time : ℕ) (old new : Content) (s t : SignalState) : Type 0 where
  pub defaults : s.defaults ≡ map (λ x. x.initial) n.signals
  pub signals_of : s.signals_of ≡ map (λ x. x.signal) (all_drivers n)
  pub content : new ≡ advanced time old
  pub signals : t ≡ renewed new s

pub updated_is : (n : Network) (time delta before : ℕ) (old new : Content) (s t : SignalState) (variables : List (List (List Slot))) → IsUpdated n time old new s t
    → state_of new delta t.signals variables ≡ (updated n time delta (state_of old before s.signals variables)).state
updated_is n time delta before old new s t variables h =
    ap (λ (x : SignalState). state_of new delta x.signals variables) h.signals
    ∙ ap (λ (c : Content). state_of c delta (with_values c.now s.signals (given s.defaults s.signals_of c.drivers)) variables) h.content
    ∙ ap (λ (d : List Level). state_of (advanced time old) delta (with_values time s.signals (given d s.signals_of (map (advance time) old.drivers))) variables) h.defaults
    ∙ ap (λ (of : List ℕ). state_of (advanced time old) delta (with_values time s.signals (given (map (λ x. x.initial) n.signals) of (map (advance time) old.drivers))) variables) h.signals_of

-- the signals and their events
signals_are : (n : Network) (time before : ℕ) (old new : Content) (s t : SignalState) (variables : List (List (List Slot))) → IsUpdated n time old new s t
    → t.signals ≡ with_values time s.signals (Given n time (state_of old before s.signals variables))
signals_are n time before old new s t variables h = ap (λ (x : State). x.signals) (updated_is n time 0 before old new s t variables h)

pub events_are : (n : Network) (time before : ℕ) (old new : Content) (s t : SignalState) (variables : List (List (List Slot))) → IsUpdated n time old new s t
    → t.events ≡ map (λ x. x.0) (new_values n time (state_of old before s.signals variables))
events_are n time before old new s t variables h =
    ap (λ (x : SignalState). x.events) h.signals
    ∙ ap (λ (c : Content). (renewed c s).events) h.content
    ∙ ap (λ (d : List Level). map (λ x. x.0) (new_events s.signals (given d s.signals_of (map (advance time) old.drivers)))) h.defaults
    ∙ ap (λ (of : List ℕ). map (λ x. x.0) (new_events s.signals (given (map (λ x. x.initial) n.signals) of (map (advance time) old.drivers)))) h.signals_of

-- they rise and are there
pub events_there : (n : Network) (time before : ℕ) (old new : Content) (s t : SignalState) (variables : List (List (List Slot))) → IsUpdated n time old new s t
    → length s.signals ≡ length n.signals → AreRising 0 (length n.signals) t.events
events_there n time before old new s t variables h as_many =
    let st = state_of old before s.signals variables in
    subst (AreRising 0 (length n.signals)) (sym (events_are n time before old new s t variables h))
    (events_rise 0 (length n.signals) s.signals (Given n time st) (omega (arith, as_many)))

-- what is printed of them
pub events_told : (n : Network) (time delta before : ℕ) (old new : Content) (s t : SignalState) (variables : List (List (List Slot))) → IsUpdated n time old new s t
    → flat_map (event_text_at time delta n.signals t.signals) t.events ≡ text_in n (updated n time delta (state_of old before s.signals variables)).happened
events_told n time delta before old new s t variables h =
    let st = state_of old before s.signals variables in
    ap (λ (xs : List Signal). flat_map (event_text_at time delta n.signals xs) t.events) (signals_are n time before old new s t variables h)
    ∙ ap (flat_map (event_text_at time delta n.signals (with_values time s.signals (Given n time st)))) (events_are n time before old new s t variables h)
    ∙ event_texts n time delta s.signals (Given n time st)

-- the processes that they make run
pub processes_are : (n : Network) (time before : ℕ) (old new : Content) (s t : SignalState) (variables : List (List (List Slot))) (triggered : List ℕ) (sensitivities : List (List ℕ)) → IsUpdated n time old new s t
    → sensitivities ≡ map sensitivity (processes n) → triggered ≡ triggered_by t.events sensitivities
    → filter_map (slice_get (processes n)) triggered ≡ filter (is_sensitive_to (new_values n time (state_of old before s.signals variables))) (processes n)
processes_are n time before old new s t variables triggered sensitivities h same is =
    let found = new_values n time (state_of old before s.signals variables) in
    ap (filter_map (slice_get (processes n))) (is ∙ ap (triggered_by t.events) same ∙ ap (λ (es : List ℕ). triggered_by es (map sensitivity (processes n))) (events_are n time before old new s t variables h))
    ∙ picked found (processes n)

pub processes_there : (n : Network) (events triggered : List ℕ) (sensitivities : List (List ℕ)) → sensitivities ≡ map sensitivity (processes n) → triggered ≡ triggered_by events sensitivities
    → All (λ number. number < length (processes n)) triggered
processes_there n events triggered sensitivities same is =
    let whole : triggered ≡ triggered_by events (map sensitivity (processes n)) = is ∙ ap (triggered_by events) same in
    subst (λ (xs : List ℕ). All (λ number. number < length (processes n)) xs) (sym whole) (triggered_below events (processes n))

-- ---- the second half

pub record CycleIs (n : Network) (time delta : ℕ) (s : State) (ps : List NetProcess) (middle : State) : Type 0 where
  pub state : (all_activated ps (from_state middle)).state ≡ (cycle_at n time delta s).state
  pub text : text_in n (updated n time delta s).happened ++ text_in n (all_activated ps (from_state middle)).happened ≡ text_in n (cycle_at n time delta s).happened

pub cycle_is : (n : Network) (time delta : ℕ) (s : State) (ps : List NetProcess) (middle : State) → ps ≡ filter (is_sensitive_to (new_values n time s)) (processes n)
    → middle ≡ (updated n time delta s).state → CycleIs n time delta s ps middle
cycle_is n time delta s ps middle same is =
    let part = updated n time delta s in
    let qs = filter (is_sensitive_to (new_values n time s)) (processes n) in
    let runs : all_activated ps (from_state middle) ≡ all_activated qs (from_state part.state) =
    ap (λ (xs : List NetProcess). all_activated xs (from_state middle)) same ∙ ap (λ (x : State). all_activated qs (from_state x)) is in
    let whole : cycle_at n time delta s ≡ behind_part part.happened (all_activated qs (from_state part.state)) = all_from qs part in
    record {
      state = ap (λ (x : Part). x.state) runs ∙ sym (ap (λ (x : Part). x.state) whole);
      text =
          ap (λ (x : Part). text_in n part.happened ++ text_in n x.happened) runs
          ∙ sym (text_in-append n part.happened (all_activated qs (from_state part.state)).happened) ∙ sym (ap (λ (x : Part). text_in n x.happened) whole);
    }
