-- Where the signals of some numbers get their values, and all others have theirs already, it is as if all got them.
use Rattle.std.proofs.Common.{◌≡◌, ℕ, ◌+◌, ◌<◌, Bool, true, false, cond, ◌||◌, List, [], ◌∷◌, ◌++◌, length, map, get_or, set, take, not, Some, inl, inr, refl, ap, subst, sym, ◌∙◌, arith}
use Rattle.std.specs.List.{enumerate_from, filter_map, slice_get, zip}
use Rattle.std.proofs.lemmas.Bool.{cases_Bool, cases_eq, ne_eqb}
use Rattle.std.proofs.lemmas.List.{append-nil, append_assoc, get_or_at, length-append, set_at}
use Rattle.std.proofs.lemmas.List.Sums.{fold_more}
use Rattle.vital_agenda.specs.Driver.{same_level}
use Rattle.vital_logic.specs.declared.level.Level.{Level}
use Rattle.vital_logic.specs.declared.level.Level.TheVariants.{U}
use Rattle.vital_signals.specs.Events.{events_of, new_value, quiet_signal, with_value, with_values}
use Rattle.vital_signals.specs.Lists.{AreRising, is_listed}
use Rattle.vital_signals.specs.Rounds.{Round, with_signal, with_signals}
use Rattle.vital_signals.specs.declared.signal.Signal.{Signal}
use Rattle.vital_signals.proofs.SourceLemmas.{got}

-- Each of these signals, of which the first has the number n, has its value already unless its number is listed.
abbrev pub KeepUnless : ℕ → List ℕ → List Signal → List Level → Type 0
KeepUnless n numbers [] given = Unit {0}
KeepUnless n numbers (s ∷ signals) [] = Unit {0}
KeepUnless n numbers (s ∷ signals) (v ∷ given) = (is_listed n numbers ≡ false → same_level s.value v ≡ true) × KeepUnless (n + 1) numbers signals given

-- a number below all of these signals need not be listed
keep_without : (n number : ℕ) (numbers : List ℕ) (signals : List Signal) (given : List Level) → number < n → KeepUnless n (number ∷ numbers) signals given → KeepUnless n numbers signals given
keep_without n number numbers [] given lt h = tt
keep_without n number numbers (s ∷ signals) [] lt h = tt
keep_without n number numbers (s ∷ signals) (v ∷ given) lt h =
    (λ none. h.0 (ap (λ (b : Bool). b || is_listed n numbers) (ne_eqb number n (λ same. omega arith)) ∙ none), keep_without (n + 1) number numbers signals given (omega arith) h.1)

-- a number below all that are listed is not listed
not_listed : (n low high : ℕ) (numbers : List ℕ) → n < low → AreRising low high numbers → is_listed n numbers ≡ false
not_listed n low high [] lt h = refl
not_listed n low high (number ∷ numbers) lt h =
    ap (λ (b : Bool). b || is_listed n numbers) (ne_eqb number n (λ same. omega (arith, h.0))) ∙ not_listed n (number + 1) high numbers (omega (arith, h.0)) h.2

-- ---- one signal after the other

-- after all signals from the one with the number n on got their values
abbrev all_from : ℕ → ℕ → List Signal → List Signal → List Level → List ℕ → Round
all_from time n done signals given events = record {
  signals = done ++ with_values time signals given;
  events = events ++ map (λ x. x.0) (filter_map new_value (enumerate_from n (zip signals given)));
}

abbrev events_with : ℕ → Signal → Level → List ℕ → List ℕ
events_with n s v events = cond (same_level s.value v) events (events ++ n ∷ [])

one_done : (time n : ℕ) (done : List Signal) (s : Signal) (signals : List Signal) (v : Level) (given : List Level) (events : List ℕ)
    → all_from time (n + 1) (done ++ with_value time (s, v) ∷ []) signals given (events_with n s v events) ≡ all_from time n done (s ∷ signals) (v ∷ given) events
one_done time n done s signals v given events =
    ap (λ (ss : List Signal). let r : Round = record { signals = ss; events = events_with n s v events ++ map (λ x. x.0) (filter_map new_value (enumerate_from (n + 1) (zip signals given))) } in r)
    (append_assoc done (with_value time (s, v) ∷ []) (with_values time signals given))
    ∙ ap (λ (es : List ℕ). let r : Round = record { signals = done ++ with_value time (s, v) ∷ with_values time signals given; events = es } in r) listed
  where
    later : List ℕ
    later = map (λ x. x.0) (filter_map new_value (enumerate_from (n + 1) (zip signals given)))

    listed : events_with n s v events ++ map (λ x. x.0) (filter_map new_value (enumerate_from (n + 1) (zip signals given)))
        ≡ events ++ map (λ x. x.0) (filter_map new_value (enumerate_from n (zip (s ∷ signals) (v ∷ given))))
    listed = elim (cases_Bool (same_level s.value v)) [
      | inl same ↦ rw same refl
      | inr other ↦ rw other (append_assoc events (n ∷ []) (map (λ x. x.0) (filter_map new_value (enumerate_from (n + 1) (zip signals given)))))
    ]

-- the signal of the number n gets its value
at_number : (time n : ℕ) (done : List Signal) (s : Signal) (signals : List Signal) (before : List Level) (v : Level) (given : List Level) (events : List ℕ) → length done ≡ n → length before ≡ n
    → with_signal time (before ++ v ∷ given) (record { signals = done ++ s ∷ signals; events = events }) n
    ≡ record { signals = done ++ with_value time (s, v) ∷ signals; events = events_with n s v events }
at_number time n done s signals before v given events long same_long =
    ap (λ (x : Signal). let value = get_or (before ++ v ∷ given) n U in let r : Round = record {
      signals = set (done ++ s ∷ signals) n (with_value time (x, value));
      events = events_with n x value events;
    } in r) (get_or_at done s signals (quiet_signal U) n long)
    ∙ ap (λ (x : Level). let r : Round = record { signals = set (done ++ s ∷ signals) n (with_value time (s, x)); events = events_with n s x events } in r)
    (get_or_at before v given U n same_long)
    ∙ ap (λ (ss : List Signal). let r : Round = record { signals = ss; events = events_with n s v events } in r) (set_at done s signals (with_value time (s, v)) n long)

-- a signal that has its value already may be passed over
passed : (time n : ℕ) (done : List Signal) (s : Signal) (signals : List Signal) (before : List Level) (v : Level) (given : List Level) (numbers events : List ℕ) → same_level s.value v ≡ true
    → with_signals time (before ++ v ∷ given) numbers (record { signals = done ++ s ∷ signals; events = events })
    ≡ with_signals time ((before ++ v ∷ []) ++ given) numbers (record { signals = (done ++ with_value time (s, v) ∷ []) ++ signals; events = events_with n s v events })
passed time n done s signals before v given numbers events same =
    ap (λ (vs : List Level). with_signals time vs numbers (record { signals = done ++ s ∷ signals; events = events })) (sym (append_assoc before (v ∷ []) given))
    ∙ ap (λ (ss : List Signal). with_signals time ((before ++ v ∷ []) ++ given) numbers (record { signals = ss; events = events })) (sym (append_assoc done (s ∷ []) signals))
    ∙ ap (λ (b : Bool). with_signals time ((before ++ v ∷ []) ++ given) numbers (record {
      signals = (done ++ cond b s (record { value = v; last_value = s.value; last_event = Some time }) ∷ []) ++ signals;
      events = cond b events (events ++ n ∷ []);
    })) (sym same)

longer : {A : Type 0} (xs : List A) (x : A) (k : ℕ) → length xs ≡ k → length (xs ++ x ∷ []) ≡ k + 1
longer xs x k e = length-append xs (x ∷ []) ∙ ap (λ (m : ℕ). m + 1) e

-- ---- all of them

given_from : (time n high : ℕ) (done signals : List Signal) (before given : List Level) (numbers events : List ℕ) → length done ≡ n → length before ≡ n → length given ≡ length signals
    → high ≡ n + length signals → AreRising n high numbers → KeepUnless n numbers signals given
    → with_signals time (before ++ given) numbers (record { signals = done ++ signals; events = events }) ≡ all_from time n done signals given events
given_from time n high done [] before given [] events long same_long all top rising keep =
    ap (λ (es : List ℕ). let r : Round = record { signals = done ++ []; events = es } in r) (sym (append-nil events))
given_from time n high done [] before given (number ∷ numbers) events long same_long all top rising keep = absurd (omega (arith, rising.0, rising.1))
given_from time n high done (s ∷ signals) before [] numbers events long same_long all top rising keep = absurd (omega arith)
given_from time n high done (s ∷ signals) before (v ∷ given) [] events long same_long all top rising keep =
    passed time n done s signals before v given [] events (keep.0 refl)
    ∙ given_from time (n + 1) high (done ++ with_value time (s, v) ∷ []) signals (before ++ v ∷ []) given [] (events_with n s v events)
    (longer done (with_value time (s, v)) n long) (longer before v n same_long) (omega arith) (omega arith) tt keep.1
    ∙ one_done time n done s signals v given events
given_from time n high done (s ∷ signals) before (v ∷ given) (number ∷ numbers) events long same_long all top rising keep =
    let s' = with_value time (s, v) in
    let events' = events_with n s v events in
    let long' : length (done ++ s' ∷ []) ≡ n + 1 = longer done s' n long in
    let same_long' : length (before ++ v ∷ []) ≡ n + 1 = longer before v n same_long in
    let all' : length given ≡ length signals = omega arith in
    let top' : high ≡ n + 1 + length signals = omega arith in
    elim (cases_eq number n) [
      | inl same ↦
          ap (λ (k : ℕ). with_signals time (before ++ v ∷ given) numbers (with_signal time (before ++ v ∷ given) (record { signals = done ++ s ∷ signals; events = events }) k)) same
          ∙ ap (with_signals time (before ++ v ∷ given) numbers) (at_number time n done s signals before v given events long same_long)
          ∙ ap (λ (vs : List Level). with_signals time vs numbers (record { signals = done ++ s' ∷ signals; events = events' })) (sym (append_assoc before (v ∷ []) given))
          ∙ ap (λ (ss : List Signal). with_signals time ((before ++ v ∷ []) ++ given) numbers (record { signals = ss; events = events' })) (sym (append_assoc done (s' ∷ []) signals))
          ∙ given_from time (n + 1) high (done ++ s' ∷ []) signals (before ++ v ∷ []) given numbers events' long' same_long' all' top'
          (subst (λ (k : ℕ). AreRising (k + 1) high numbers) same rising.2)
          (keep_without (n + 1) number numbers signals given (omega arith) keep.1)
          ∙ one_done time n done s signals v given events
      | inr apart ↦
          let later : n < number = omega (arith, rising.0) in
          let none : is_listed n (number ∷ numbers) ≡ false = not_listed n number high (number ∷ numbers) later (omega arith, rising.1, rising.2) in
          passed time n done s signals before v given (number ∷ numbers) events (keep.0 none)
          ∙ given_from time (n + 1) high (done ++ s' ∷ []) signals (before ++ v ∷ []) given (number ∷ numbers) events' long' same_long' all' top' (omega arith, rising.1, rising.2) keep.1
          ∙ one_done time n done s signals v given events
    ]

-- as many values as signals, and the numbers rise: those that are not listed have their values
pub all_given : (time : ℕ) (signals : List Signal) (given : List Level) (numbers : List ℕ) → length given ≡ length signals → AreRising 0 (length signals) numbers → KeepUnless 0 numbers signals given
    → with_signals time given numbers (record { signals = signals; events = [] }) ≡ record { signals = with_values time signals given; events = events_of signals given }
all_given time signals given numbers all rising keep = given_from time 0 (length signals) [] signals [] given numbers [] refl refl all (omega arith) rising keep

-- ---- a turn of the loop

listed_if : (same : Bool) (events more : List ℕ) → cond (not same) more events ≡ cond same events more
listed_if true events more = refl
listed_if false events more = refl

-- one more signal gets its value, and its number is listed where that is an event
pub one_more_given : (time k number : ℕ) (given : List Level) (numbers : List ℕ) (start : Round) (signals : List Signal) (events later : List ℕ) (value : Level) (new : Signal) (event : Bool)
    → k < length numbers → number ≡ get_or numbers k 0 → slice_get given number ≡ Some value
    → new ≡ with_value time (get_or signals number (quiet_signal U), value) → event ≡ not (same_level (get_or signals number (quiet_signal U)).value value)
    → later ≡ cond event (events ++ number ∷ []) events
    → record { signals = signals; events = events } ≡ with_signals time given (take k numbers) start
    → record { signals = set signals number new; events = later } ≡ with_signals time given (take (k + 1) numbers) start
one_more_given time k number given numbers start signals events later value new event lt is read gave test listed before =
    let old = get_or signals number (quiet_signal U) in
    let now_listed : later ≡ events_with number old value events =
    listed ∙ ap (λ (b : Bool). cond b (events ++ number ∷ []) events) test ∙ listed_if (same_level old.value value) events (events ++ number ∷ []) in
    ap (λ (s : Signal). let r : Round = record { signals = set signals number s; events = later } in r) gave
    ∙ ap (λ (es : List ℕ). let r : Round = record { signals = set signals number (with_value time (old, value)); events = es } in r) now_listed
    ∙ ap (λ (v : Level). let r : Round = record { signals = set signals number (with_value time (old, v)); events = events_with number old v events } in r) (sym (got given number value U read))
    ∙ ap (λ (r : Round). with_signal time given r number) before
    ∙ ap (with_signal time given (with_signals time given (take k numbers) start)) is
    ∙ sym (fold_more (with_signal time given) start numbers k 0 lt)
