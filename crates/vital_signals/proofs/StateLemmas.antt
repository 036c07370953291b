-- The states of signals before and after a cycle.
use Rattle.std.proofs.Common.{◌≡◌, ℕ, suc, zero, ◌+◌, ◌<◌, Bool, true, cond, List, [], ◌∷◌, ◌++◌, length, map, take, get_or, Some, inl, inr, refl, ap, subst, sym, ◌∙◌, arith}
use Rattle.std.specs.List.{enumerate_from, slice_get}
use Rattle.std.proofs.lemmas.Bool.{cases_Bool, eqb-true}
use Rattle.std.proofs.lemmas.List.{length-map, map_more}
use Rattle.std.proofs.lemmas.List.FromFn.{length-enumerate_from}
use Rattle.vital_agenda.specs.Agendas.{Content, changed}
use Rattle.vital_agenda.specs.Driver.{Driver, currents, same_level, send}
use Rattle.vital_base.specs.declared.kind.Kind.{Kind}
use Rattle.vital_logic.specs.Levels.{byte_of, level_of}
use Rattle.vital_logic.specs.declared.level.Level.{Level}
use Rattle.vital_logic.specs.declared.level.Level.TheVariants.{U, X, Zero, One, Z, W, L, H, Dash}
use Rattle.vital_signals.specs.Events.{quiet_signal, with_value, with_values}
use Rattle.vital_signals.specs.Lists.{AreRising, is_listed}
use Rattle.vital_signals.specs.Rounds.{Round, with_signals}
use Rattle.vital_signals.specs.SignalStates.{AreCurrent, AssignmentsKeepValues, IsAdvanced, SignalState, updated}
use Rattle.vital_signals.specs.Values.{driven, value_of, values, values_driving}
use Rattle.vital_signals.specs.declared.signal.Signal.{Signal}
use Rattle.vital_signals.proofs.RoundLemmas.{all_given}
use Rattle.vital_signals.proofs.SourceLemmas.{got}
use Rattle.vital_signals.proofs.DueLemmas.{kept_unless_due, one_each_after}

-- ---- signals that are current

same_byte : (a b : Level) → same_level a b ≡ true → a ≡ b
same_byte a b h =
    let one : Some a ≡ Some b = sym (written a) ∙ ap level_of (eqb-true (byte_of a) (byte_of b) h) ∙ written b in cc
  where
    written : (level : Level) → level_of (byte_of level) ≡ Some level
    written U = refl
    written X = refl
    written Zero = refl
    written One = refl
    written Z = refl
    written W = refl
    written L = refl
    written H = refl
    written Dash = refl

value_given : (time : ℕ) (s : Signal) (v : Level) → (with_value time (s, v)).value ≡ v
value_given time s v = elim (cases_Bool (same_level s.value v)) [
  | inl same ↦ ap (λ (b : Bool). let r : Signal = cond b s (record { value = v; last_value = s.value; last_event = Some time }) in r.value) same ∙ same_byte s.value v same
  | inr other ↦ ap (λ (b : Bool). let r : Signal = cond b s (record { value = v; last_value = s.value; last_event = Some time }) in r.value) other
]

pub values_given : (time : ℕ) (signals : List Signal) (given : List Level) → length given ≡ length signals → map (λ signal. signal.value) (with_values time signals given) ≡ given
values_given time [] [] same = refl
values_given time [] (v ∷ given) same = absurd (omega arith)
values_given time (s ∷ signals) [] same = absurd (omega arith)
values_given time (s ∷ signals) (v ∷ given) same =
    ap (λ (x : Level). x ∷ map (λ signal. signal.value) (with_values time signals given)) (value_given time s v)
    ∙ ap (λ (vs : List Level). v ∷ vs) (values_given time signals given (omega arith))

pub quiet_values : (given : List Level) → map (λ signal. signal.value) (map quiet_signal given) ≡ given
quiet_values [] = refl
quiet_values (v ∷ given) = ap (λ (vs : List Level). v ∷ vs) (quiet_values given)

-- one more signal before its first event
pub one_more_quiet : (k : ℕ) (given : List Level) (signals : List Signal) (value : Level) (signal : Signal) → k < length given → slice_get given k ≡ Some value → signal ≡ quiet_signal value
    → signals ≡ map quiet_signal (take k given) → signals ++ signal ∷ [] ≡ map quiet_signal (take (k + 1) given)
one_more_quiet k given signals value signal lt read quiet before =
    ap (λ (ss : List Signal). ss ++ signal ∷ []) before
    ∙ ap (λ (s : Signal). map quiet_signal (take k given) ++ s ∷ []) (quiet ∙ ap quiet_signal (sym (got given k value U read)))
    ∙ sym (map_more quiet_signal given k U lt)

pub length-values : (defaults : List Level) (signals_of : List ℕ) (drivers : List Driver) → length (values defaults signals_of drivers) ≡ length defaults
length-values defaults signals_of drivers = length-map (enumerate_from 0 defaults) (value_of signals_of drivers) ∙ length-enumerate_from 0 defaults

-- after the signals of the drivers that are due, each once, got their values, all signals have theirs
updated_is : (s : SignalState) (due : List ℕ) (content : Content) (numbers : List ℕ) (signals : List Signal) (events : List ℕ) → IsAdvanced s due content
    → length s.signals ≡ length s.defaults → AreRising 0 (length s.defaults) numbers
    → ((number : ℕ) → is_listed number numbers ≡ is_listed number (map (λ driver. get_or s.signals_of driver 0) due))
    → record { signals = signals; events = events } ≡ with_signals content.now (values s.defaults s.signals_of content.drivers) numbers (record { signals = s.signals; events = [] })
    → record s { signals = signals; events = events } ≡ updated content s
updated_is s due content numbers signals events h all rising listed result =
    let given = values s.defaults s.signals_of content.drivers in
    ap (λ (r : Round). record s { signals = r.signals; events = r.events })
    (result
    ∙ all_given content.now s.signals given numbers (length-values s.defaults s.signals_of content.drivers ∙ sym all)
    (subst (λ (n : ℕ). AreRising 0 n numbers) (sym all) rising) (kept_unless_due s due content numbers h listed))

-- the same in parts of the state, where old is what was read of the signals, and items what was written
pub updated_from : (defaults : List Level) (signals_of : List ℕ) (before old new items : List Signal) (events later numbers due : List ℕ) (s : SignalState) (content : Content)
    → record { defaults = defaults; signals_of = signals_of; signals = before; events = events } ≡ s → IsAdvanced s due content → length before ≡ length defaults
    → AreRising 0 (length defaults) numbers → ((number : ℕ) → is_listed number numbers ≡ is_listed number (map (λ driver. get_or signals_of driver 0) due)) → old ≡ before → items ≡ new
    → record { signals = new; events = later } ≡ with_signals content.now (values defaults signals_of content.drivers) numbers (record { signals = old; events = [] })
    → record { defaults = defaults; signals_of = signals_of; signals = items; events = later } ≡ updated content s
updated_from defaults signals_of before old new items events later numbers due s content is h all rising listed read written result =
    let parts : SignalState = record { defaults = defaults; signals_of = signals_of; signals = before; events = events } in
    let given = values defaults signals_of content.drivers in
    ap (λ (ss : List Signal). record parts { signals = ss; events = later }) written
    ∙ updated_is parts due content numbers new later (subst (λ (x : SignalState). IsAdvanced x due content) (sym is) h) all rising listed
    (result ∙ ap (λ (ss : List Signal). with_signals content.now given numbers (record { signals = ss; events = [] })) read)
    ∙ ap (updated content) is

pub current_after : (s : SignalState) (due : List ℕ) (content : Content) → IsAdvanced s due content → length s.signals ≡ length s.defaults → AreCurrent (updated content s) content.drivers
current_after s due content h all = record {
  one_each = one_each_after s due content h;
  given = values_given content.now s.signals (values s.defaults s.signals_of content.drivers) (length-values s.defaults s.signals_of content.drivers ∙ sym all);
}

-- ---- assignments

send_stays : (driver : ℕ) (now : ℕ) (kind : Kind) (value : Level) (delay : ℕ) (drivers : List Driver) → currents (changed driver (send now kind value delay) drivers) ≡ currents drivers
send_stays driver now kind value delay [] = refl
send_stays zero now kind value delay (d ∷ drivers) = refl
send_stays (suc driver) now kind value delay (d ∷ drivers) = ap (λ (vs : List Level). d.current ∷ vs) (send_stays driver now kind value delay drivers)

pub assignments_keep : AssignmentsKeepValues
assignments_keep s driver kind value delay content h =
    let same = send_stays driver content.now kind value delay content.drivers in
    record {
      one_each =
          sym (length-map (changed driver (send content.now kind value delay) content.drivers) (λ (d : Driver). d.current))
          ∙ ap length same ∙ length-map content.drivers (λ (d : Driver). d.current) ∙ h.one_each;
      given = h.given ∙ ap (λ (vs : List Level). map (λ (x : ℕ × Level). driven x.1 (values_driving x.0 s.signals_of vs)) (enumerate_from 0 s.defaults)) (sym same);
    }
