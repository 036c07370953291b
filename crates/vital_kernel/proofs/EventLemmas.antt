-- The events of a cycle.
use Rattle.std.proofs.Common.{◌≡◌, ◌∙◌, ℕ, ◌+◌, ◌<◌, ◌≤◌, suc, zero, true, false, cond, List, [], ◌∷◌, ◌++◌, length, map, Some, None, Option, refl, ap, sym, subst, inl, inr, arith}
use Rattle.std.specs.List.{enumerate_from, filter_map, flat_map, zip}
use Rattle.std.specs.Option.{option_map_or}
use Rattle.std.specs.Prelude.{All, slice_get}
use Rattle.std.proofs.lemmas.Bool.{cases_Bool}
use Rattle.std.proofs.lemmas.List.{append-nil}
use Rattle.std.proofs.lemmas.List.Elements.{All-cons}
use Rattle.vital_agenda.specs.Driver.{same_level}
use Rattle.vital_kernel.specs.Activations.{event_text, event_text_at, init_text, text_in, value_at}
use Rattle.vital_kernel.specs.Cycles.{Event, event_at}
use Rattle.vital_kernel.specs.Lines.{event_line, init_line, lines_of}
use Rattle.vital_logic.specs.declared.level.Level.{Level}
use Rattle.vital_kernel.specs.Networks.{Network}
use Rattle.vital_kernel.specs.declared.network.NetSignal.{NetSignal}
use Rattle.vital_report.specs.Lines.{bytes_of, event, init, text_of}
use Rattle.std.proofs.lemmas.List.Concat.{flat_map-append}
use Rattle.vital_signals.specs.Events.{new_value, quiet_signal, with_value}
use Rattle.vital_signals.specs.Lists.{AreRising}
use Rattle.vital_signals.specs.declared.signal.Signal.{Signal}

-- the signals that have an event, where the first of all has a number
abbrev pub changed_from : ℕ → List Signal → List Level → List (ℕ × Level)
changed_from first signals given = filter_map new_value (enumerate_from first (zip signals given))

-- ---- their numbers

rising_lower : (low higher high : ℕ) (numbers : List ℕ) → low ≤ higher → AreRising higher high numbers → AreRising low high numbers
rising_lower low higher high [] le h = tt
rising_lower low higher high (number ∷ numbers) le h = (omega (arith, le, h.0), h.1, h.2)

pub events_rise : (first high : ℕ) (signals : List Signal) (given : List Level) → first + length signals ≤ high → AreRising first high (map (λ x. x.0) (changed_from first signals given))
events_rise first high [] given le = tt
events_rise first high (s ∷ ss) [] le = tt
events_rise first high (s ∷ ss) (v ∷ vs) le =
    let rest = events_rise (first + 1) high ss vs (omega (arith, le)) in
    elim (cases_Bool (same_level s.value v)) [
      | inl same ↦ rw same (rising_lower first (first + 1) high (map (λ x. x.0) (changed_from (first + 1) ss vs)) (omega arith) rest)
      | inr other ↦ rw other (omega arith, omega (arith, le), rest)
    ]

pub rising_below : (low high : ℕ) (numbers : List ℕ) → AreRising low high numbers → All (λ number. number < high) numbers
rising_below low high [] h = λ k d lt. absurd (omega (arith, lt))
rising_below low high (number ∷ numbers) h = All-cons (λ n. n < high) number numbers h.1 (rising_below (number + 1) high numbers h.2)

-- ---- their values

-- each is the value that its signal has
abbrev AreValues : List Signal → List (ℕ × Level) → Type 0
AreValues all [] = Unit {0}
AreValues all (e ∷ es) = (value_at all e.0 ≡ e.1) × AreValues all es

values_are : (time : ℕ) (all : List Signal) (first : ℕ) (signals : List Signal) (given : List Level)
    → ((k : ℕ) → slice_get all (first + k) ≡ slice_get (map (with_value time) (zip signals given)) k) → AreValues all (changed_from first signals given)
values_are time all first [] given there = tt
values_are time all first (s ∷ ss) [] there = tt
values_are time all first (s ∷ ss) (v ∷ vs) there =
    let rest = values_are time all (first + 1) ss vs (λ k. subst (λ (i : ℕ). slice_get all i ≡ slice_get (map (with_value time) (zip ss vs)) k) (omega arith) (there (suc k))) in
    let here : slice_get all first ≡ Some (with_value time (s, v)) = subst (λ (i : ℕ). slice_get all i ≡ Some (with_value time (s, v))) (omega arith) (there 0) in
    elim (cases_Bool (same_level s.value v)) [
      | inl same ↦ rw same rest
      | inr other ↦
          let new : Signal = record { value = v; last_value = s.value; last_event = Some time } in
          let is : slice_get all first ≡ Some new = here ∙ rw other refl in
          rw other (rw is refl, rest)
    ]

-- ---- their texts

line_text : (time delta : ℕ) (value : Level) (signal : NetSignal) → text_of (event_line time delta value signal) ≡ event_text time delta value signal
line_text time delta value signal =
    elim signal.is_watched as (λ b. text_of (cond b (event time delta signal.name value ∷ []) []) ≡ cond b (bytes_of (event time delta signal.name value)) []) [
      | true ↦ append-nil (bytes_of (event time delta signal.name value))
      | false ↦ refl
    ]

lines_text : (time delta : ℕ) (value : Level) (signal : Option NetSignal)
    → text_of (option_map_or (event_line time delta value) signal []) ≡ option_map_or (event_text time delta value) signal []
lines_text time delta value None = refl
lines_text time delta value (Some signal) = line_text time delta value signal

texts_are : (n : Network) (time delta : ℕ) (all : List Signal) (es : List (ℕ × Level)) → AreValues all es
    → flat_map (event_text_at time delta n.signals all) (map (λ x. x.0) es) ≡ text_in n (map (event_at time delta) es)
texts_are n time delta all [] h = refl
texts_are n time delta all (e ∷ es) h =
    let rest = texts_are n time delta all es h.1 in
    let one : event_text_at time delta n.signals all e.0 ≡ text_of (option_map_or (event_line time delta e.1) (slice_get n.signals e.0) []) =
    ap (λ (v : Level). option_map_or (event_text time delta v) (slice_get n.signals e.0) []) h.0 ∙ sym (lines_text time delta e.1 (slice_get n.signals e.0)) in
    let many = map (event_at time delta) es in
    ap (λ (text : List ℕ). text ++ flat_map (event_text_at time delta n.signals all) (map (λ x. x.0) es)) one
    ∙ ap (λ (text : List ℕ). text_of (lines_of n (Event time delta e.0 e.1)) ++ text) rest
    ∙ sym (flat_map-append bytes_of (lines_of n (Event time delta e.0 e.1)) (flat_map (lines_of n) many))

pub event_texts : (n : Network) (time delta : ℕ) (signals : List Signal) (given : List Level)
    → flat_map (event_text_at time delta n.signals (map (with_value time) (zip signals given))) (map (λ x. x.0) (changed_from 0 signals given))
    ≡ text_in n (map (event_at time delta) (changed_from 0 signals given))
event_texts n time delta signals given =
    let all = map (with_value time) (zip signals given) in
    texts_are n time delta all (changed_from 0 signals given) (values_are time all 0 signals given (λ k. ap (slice_get all) (omega arith)))

-- ---- first values

init_text_is : (signal : NetSignal) (value : Level) → text_of (init_line (signal, value)) ≡ init_text (signal, value)
init_text_is signal value =
    elim signal.is_watched as (λ b. text_of (cond b (init signal.name value ∷ []) []) ≡ cond b (bytes_of (init signal.name value)) []) [
      | true ↦ append-nil (bytes_of (init signal.name value))
      | false ↦ refl
    ]

pub init_texts : (signals : List NetSignal) (values : List Level) → flat_map init_text (zip signals values) ≡ text_of (flat_map init_line (zip signals values))
init_texts [] values = refl
init_texts (s ∷ ss) [] = refl
init_texts (s ∷ ss) (v ∷ vs) =
    ap (λ (text : List ℕ). text ++ flat_map init_text (zip ss vs)) (sym (init_text_is s v))
    ∙ ap (λ (text : List ℕ). text_of (init_line (s, v)) ++ text) (init_texts ss vs)
    ∙ sym (flat_map-append bytes_of (init_line (s, v)) (flat_map init_line (zip ss vs)))

pub quiet_values : (values : List Level) → map (λ s. s.value) (map quiet_signal values) ≡ values
quiet_values [] = refl
quiet_values (v ∷ vs) = ap (λ (xs : List Level). v ∷ xs) (quiet_values vs)

-- ---- the value of one signal

pub value_is : (signals : List Signal) (k : ℕ) (v : Level) → slice_get (map (λ s. s.value) signals) k ≡ Some v → value_at signals k ≡ v
value_is [] k v e = absurd cc
value_is (s ∷ ss) zero v e = let same : s.value ≡ v = cc in same
value_is (s ∷ ss) (suc k) v e = value_is ss k v e

pub event_here : (time delta : ℕ) (watched : List NetSignal) (signals : List Signal) (k : ℕ) (p : NetSignal) (v : Level) → slice_get watched k ≡ Some p → slice_get (map (λ s. s.value) signals) k ≡ Some v
    → event_text_at time delta watched signals k ≡ event_text time delta v p
event_here time delta watched signals k p v there is =
    ap (λ (o : Option NetSignal). option_map_or (event_text time delta (value_at signals k)) o []) there ∙ ap (λ (x : Level). event_text time delta x p) (value_is signals k v is)
