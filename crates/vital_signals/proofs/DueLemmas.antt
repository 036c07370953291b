-- The signals of the drivers that are due, and those of other drivers.
use Rattle.std.proofs.Common.{◌≡◌, ℕ, suc, zero, ◌+◌, ◌<◌, ◌≤◌, Bool, true, false, cond, eqb, List, [], ◌∷◌, ◌++◌, length, map, get_or, Option, Some, None, inl, inr, refl, ap, subst, sym, ◌∙◌, arith}
use Rattle.std.specs.Prelude.{◌==◌, filter, find, is_some}
use Rattle.std.specs.List.{enumerate_from, zip}
use Rattle.std.specs.Option.{option_map_or}
use Rattle.std.proofs.lemmas.Bool.{cases_Bool, eq-eqb, or_parts}
use Rattle.std.proofs.lemmas.List.{append_assoc, get_or_at, length-append, length-map}
use Rattle.vital_agenda.specs.Agendas.{Content, due_from, is_due}
use Rattle.vital_agenda.specs.Driver.{Driver, advance, currents, is_at, same_level}
use Rattle.vital_agenda.specs.declared.transaction.Transaction.{Transaction}
use Rattle.vital_logic.specs.Levels.{byte_of}
use Rattle.vital_logic.specs.declared.level.Level.{Level}
use Rattle.vital_signals.specs.Lists.{is_listed}
use Rattle.vital_signals.specs.SignalStates.{IsAdvanced, SignalState}
use Rattle.vital_signals.specs.Values.{driven, value_of, values, values_driving}
use Rattle.vital_signals.specs.declared.signal.Signal.{Signal}
use Rattle.vital_signals.proofs.RoundLemmas.{KeepUnless}

-- ---- the signals of the drivers that are due

-- the numbers of the signals of the drivers that are due, in the order of the drivers
abbrev signals_due : ℕ → List ℕ → List Driver → List ℕ
signals_due time [] drivers = []
signals_due time (signal ∷ signals_of) [] = []
signals_due time (signal ∷ signals_of) (driver ∷ drivers) =
    cond (is_due time driver) (signal ∷ signals_due time signals_of drivers) (signals_due time signals_of drivers)

longer : {A : Type 0} (xs : List A) (x : A) (k : ℕ) → length xs ≡ k → length (xs ++ x ∷ []) ≡ suc k
longer xs x k e = let more = length-append xs (x ∷ []) in omega (arith, more, e)

due_are : (time n : ℕ) (before signals_of : List ℕ) (drivers : List Driver) → length before ≡ n → length drivers ≡ length signals_of
    → map (λ driver. get_or (before ++ signals_of) driver 0) (due_from n time drivers) ≡ signals_due time signals_of drivers
due_are time n before [] [] long same = refl
due_are time n before [] (driver ∷ drivers) long same = absurd (omega arith)
due_are time n before (signal ∷ signals_of) [] long same = absurd (omega arith)
due_are time n before (signal ∷ signals_of) (driver ∷ drivers) long same =
    let rest = due_are time (suc n) (before ++ signal ∷ []) signals_of drivers (longer before signal n long) (omega arith) in
    let later =
    ap (λ (ss : List ℕ). map (λ driver. get_or ss driver 0) (due_from (suc n) time drivers)) (sym (append_assoc before (signal ∷ []) signals_of)) ∙ rest in
    elim (is_due time driver) as (λ b. map (λ driver. get_or (before ++ signal ∷ signals_of) driver 0) (cond b (n ∷ due_from (suc n) time drivers) (due_from (suc n) time drivers))
    ≡ cond b (signal ∷ signals_due time signals_of drivers) (signals_due time signals_of drivers)) [
      | true ↦
          ap (λ (s : ℕ). s ∷ map (λ driver. get_or (before ++ signal ∷ signals_of) driver 0) (due_from (suc n) time drivers)) (get_or_at before signal signals_of 0 n long)
          ∙ ap (λ (ss : List ℕ). signal ∷ ss) later
      | false ↦ later
    ]

-- ---- a signal of which no driver is due

stays : (time : ℕ) (driver : Driver) → is_due time driver ≡ false → driver.current ≡ (advance time driver).current
stays time driver h = kept (find (is_at time) driver.pending) driver.current h
  where
    kept : (found : Option Transaction) (current : Level) → is_some found ≡ false → current ≡ option_map_or (λ x. x.value) found current
    kept None current h = refl
    kept (Some x) current h = cc

drive_the_same : (time number : ℕ) (signals_of : List ℕ) (drivers : List Driver) → is_listed number (signals_due time signals_of drivers) ≡ false
    → values_driving number signals_of (currents drivers) ≡ values_driving number signals_of (currents (map (advance time) drivers))
drive_the_same time number [] drivers h = refl
drive_the_same time number (signal ∷ signals_of) [] h = refl
drive_the_same time number (signal ∷ signals_of) (driver ∷ drivers) h = elim (cases_Bool (is_due time driver)) [
  | inl due ↦
      let listed : is_listed number (signal ∷ signals_due time signals_of drivers) ≡ false =
      ap (λ (b : Bool). is_listed number (cond b (signal ∷ signals_due time signals_of drivers) (signals_due time signals_of drivers))) (sym due) ∙ h in
      let parts = or_parts (eqb signal number) (is_listed number (signals_due time signals_of drivers)) listed in
      rw parts.0 (drive_the_same time number signals_of drivers parts.1)
  | inr idle ↦
      let listed : is_listed number (signals_due time signals_of drivers) ≡ false =
      ap (λ (b : Bool). is_listed number (cond b (signal ∷ signals_due time signals_of drivers) (signals_due time signals_of drivers))) (sym idle) ∙ h in
      let later = drive_the_same time number signals_of drivers listed in
      elim (eqb signal number) as (λ b. map (λ (d : ℕ × Level). d.1) (cond b ((signal, driver.current) ∷ filter (λ d. d.0 == number) (zip signals_of (currents drivers))) (filter (λ d. d.0 == number) (zip signals_of (currents drivers))))
      ≡ map (λ (d : ℕ × Level). d.1) (cond b ((signal, (advance time driver).current) ∷ filter (λ d. d.0 == number) (zip signals_of (currents (map (advance time) drivers)))) (filter (λ d. d.0 == number) (zip signals_of (currents (map (advance time) drivers)))))) [
        | true ↦ ap (λ (v : Level). v ∷ values_driving number signals_of (currents drivers)) (stays time driver idle) ∙ ap (λ (vs : List Level). (advance time driver).current ∷ vs) later
        | false ↦ later
      ]
]

-- ---- signals that were current

same_itself : (a : Level) → same_level a a ≡ true
same_itself a = eq-eqb (byte_of a) (byte_of a) refl

keep_values : (n : ℕ) (numbers : List ℕ) (signals : List Signal) (defaults : List Level) (signals_of : List ℕ) (before after : List Driver)
    → map (λ signal. signal.value) signals ≡ map (value_of signals_of before) (enumerate_from n defaults)
    → ((number : ℕ) → is_listed number numbers ≡ false → values_driving number signals_of (currents before) ≡ values_driving number signals_of (currents after))
    → KeepUnless n numbers signals (map (value_of signals_of after) (enumerate_from n defaults))
keep_values n numbers [] defaults signals_of before after h same = tt
keep_values n numbers (s ∷ signals) [] signals_of before after h same = tt
keep_values n numbers (s ∷ signals) (d ∷ defaults) signals_of before after h same =
    let here : s.value ≡ value_of signals_of before (n, d) = cc in
    let rest : map (λ signal. signal.value) signals ≡ map (value_of signals_of before) (enumerate_from (n + 1) defaults) = cc in (
      λ none.
          ap (λ (v : Level). same_level v (value_of signals_of after (n, d))) (here ∙ ap (driven d) (same n none))
          ∙ same_itself (value_of signals_of after (n, d)),
      keep_values (n + 1) numbers signals defaults signals_of before after rest same,
    )

-- the signals of which no driver is due have the values that they get
pub kept_unless_due : (s : SignalState) (due : List ℕ) (content : Content) (numbers : List ℕ) → IsAdvanced s due content
    → ((number : ℕ) → is_listed number numbers ≡ is_listed number (map (λ driver. get_or s.signals_of driver 0) due))
    → KeepUnless 0 numbers s.signals (values s.defaults s.signals_of content.drivers)
kept_unless_due s due content numbers h listed =
    keep_values 0 numbers s.signals s.defaults s.signals_of h.before.drivers content.drivers h.current.given
    (λ number none.
    let not_due : is_listed number (signals_due content.now s.signals_of h.before.drivers) ≡ false =
    ap (is_listed number) (sym (due_are content.now 0 [] s.signals_of h.before.drivers refl h.current.one_each))
    ∙ ap (λ (ds : List ℕ). is_listed number (map (λ driver. get_or s.signals_of driver 0) ds)) (sym h.due_then) ∙ sym (listed number) ∙ none in
    drive_the_same content.now number s.signals_of h.before.drivers not_due
    ∙ ap (λ (c : Content). values_driving number s.signals_of (currents c.drivers)) (sym h.after))

-- there are as many drivers as before
pub one_each_after : (s : SignalState) (due : List ℕ) (content : Content) → IsAdvanced s due content → length content.drivers ≡ length s.signals_of
one_each_after s due content h = ap (λ (c : Content). length c.drivers) h.after ∙ length-map h.before.drivers (advance content.now) ∙ h.current.one_each

-- those that are due are there
first_below : (n more : ℕ) (later : List ℕ) (k : ℕ) → ((i : ℕ) → i < length later → get_or later i 0 < suc n + more) → k < length (n ∷ later) → get_or (n ∷ later) k 0 < n + suc more
first_below n more later zero h less = omega arith
first_below n more later (suc k) h less = omega (arith, h k (omega arith))

due_below : (time n : ℕ) (drivers : List Driver) (k : ℕ) → k < length (due_from n time drivers) → get_or (due_from n time drivers) k 0 < n + length drivers
due_below time n [] k lt = absurd (omega arith)
due_below time n (driver ∷ drivers) k lt =
    let later : (i : ℕ) → i < length (due_from (suc n) time drivers) → get_or (due_from (suc n) time drivers) i 0 < suc n + length drivers = λ i. due_below time (suc n) drivers i in
    let cases = elim (is_due time driver) as (λ b. k < length (cond b (n ∷ due_from (suc n) time drivers) (due_from (suc n) time drivers))
    → get_or (cond b (n ∷ due_from (suc n) time drivers) (due_from (suc n) time drivers)) k 0 < n + suc (length drivers)) [
      | true ↦ first_below n (length drivers) (due_from (suc n) time drivers) k later
      | false ↦ λ less. omega (arith, later k less)
    ] in
    cases lt

pub due_are_there : (s : SignalState) (due : List ℕ) (content : Content) → IsAdvanced s due content → (k : ℕ) → k < length due → get_or due k 0 < length s.signals_of
due_are_there s due content h k lt =
    let less = subst (λ (ds : List ℕ). k < length ds) h.due_then lt in
    let same = ap (λ (ds : List ℕ). get_or ds k 0) h.due_then in
    omega (arith, due_below content.now 0 h.before.drivers k less, same, h.current.one_each)

-- no more are due than there are drivers
due_fewer : (time n : ℕ) (drivers : List Driver) → length (due_from n time drivers) ≤ length drivers
due_fewer time n [] = omega arith
due_fewer time n (driver ∷ drivers) =
    elim (is_due time driver) as (λ b. length (cond b (n ∷ due_from (suc n) time drivers) (due_from (suc n) time drivers)) ≤ suc (length drivers)) [
      | true ↦ omega (arith, due_fewer time (suc n) drivers)
      | false ↦ omega (arith, due_fewer time (suc n) drivers)
    ]

pub fewer_are_due : (s : SignalState) (due : List ℕ) (content : Content) → IsAdvanced s due content → length due ≤ length s.signals_of
fewer_are_due s due content h = omega (arith, ap length h.due_then, due_fewer content.now 0 h.before.drivers, h.current.one_each)
