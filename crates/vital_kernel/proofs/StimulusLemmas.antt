-- The drivers for the stimuli.
use Rattle.std.proofs.Common.{◌≡◌, ◌∙◌, ℕ, ◌+◌, ◌^◌, ◌<◌, ◌≤◌, ◌≢◌, zero, suc, true, eqb, List, [], ◌∷◌, ◌++◌, length, map, get_or, set, refl, ap, sym, subst, inl, inr, arith}
use Rattle.std.specs.List.{fold, list_any, position_or_len}
use Rattle.std.specs.List.Sorted.{IsNonDecreasing}
use Rattle.std.specs.Prelude.{All, slice_index_or}
use Rattle.std.proofs.lemmas.Bool.{cases_Bool, eq-eqb, eqb-true, false≢true}
use Rattle.std.proofs.lemmas.List.{get_or-set_other, get_or-set_same, length-map}
use Rattle.std.proofs.lemmas.List.Elements.{All-cons, All-head, All-tail}
use Rattle.vital_agenda.specs.Agendas.{changed}
use Rattle.vital_agenda.specs.Driver.{Driver, send}
use Rattle.vital_base.specs.declared.kind.Kind.TheVariants.{Transport}
use Rattle.vital_kernel.specs.Cycles.{stimulated}
use Rattle.vital_kernel.specs.Handing.{AreLeft, AreStimulusDrivers, stimulated_by, with_lines}
use Rattle.vital_kernel.specs.Kernels.{IsDriven}
use Rattle.vital_netlist.specs.declared.design_lists.DesignDriver.{DesignDriver}
use Rattle.vital_kernel.specs.Networks.{Network, all_drivers}
use Rattle.vital_kernel.specs.Soundness.{IsSoundNetwork}
use Rattle.vital_kernel.specs.declared.network.NetSignal.{NetSignal}
use Rattle.vital_stim.specs.declared.stimuli.StimLine.{StimLine}

abbrev pub HasDriver : ℕ → List DesignDriver → Type 0
HasDriver port ds = list_any (λ d. eqb d.signal port) ds ≡ true

-- the first driver of a signal is one of the drivers
pub position_below : (port : ℕ) (ds : List DesignDriver) → HasDriver port ds → position_or_len (λ d. eqb d.signal port) ds < length ds
position_below port [] h = absurd cc
position_below port (d ∷ ds) h =
    elim (cases_Bool (eqb d.signal port)) [
      | inl same ↦ rw same (omega arith)
      | inr other ↦ let rest : HasDriver port ds = rw other at h in rw other (omega (arith, position_below port ds rest))
    ]

-- the signal of a driver is there
pub signal_below : (port high : ℕ) (ds : List DesignDriver) → All (λ d. d.signal < high) ds → HasDriver port ds → port < high
signal_below port high [] all h = absurd cc
signal_below port high (d ∷ ds) all h =
    elim (cases_Bool (eqb d.signal port)) [
      | inl same ↦ omega (arith, eqb-true d.signal port same, All-head (λ x. x.signal < high) d ds all)
      | inr other ↦ let rest : HasDriver port ds = rw other at h in signal_below port high ds (All-tail (λ x. x.signal < high) d ds all) rest
    ]

-- what holds of the items of a whole list holds of those at its front
pub all_front : {X : Type 0} (P : X → Type 0) (xs ys : List X) → All P (xs ++ ys) → All P xs
all_front P [] ys all = λ k d lt. absurd (omega (arith, lt))
all_front P (x ∷ xs) ys all = All-cons P x xs (All-head P x (xs ++ ys) all) (all_front P xs ys (All-tail P x (xs ++ ys) all))

pub all_back : {X : Type 0} (P : X → Type 0) (xs ys : List X) → All P (xs ++ ys) → All P ys
all_back P [] ys all = all
all_back P (x ∷ xs) ys all = all_back P xs ys (All-tail P x (xs ++ ys) all)

-- ---- the lines of the stimuli

-- lines that are in order can be handed from the start on
left_from : (n : Network) (numbers : List ℕ) (low : ℕ) (lines : List StimLine) → AreStimulusDrivers n numbers → All (λ d. d.signal < length n.signals) (all_drivers n) → All (λ line. low ≤ line.time) lines
    → All (IsDriven n) lines → IsNonDecreasing (map (λ line. line.time) lines) → AreLeft numbers (length n.stimulus_drivers) low lines
left_from n numbers low [] are there above driven order = tt
left_from n numbers low (line ∷ lines) are there above driven order =
    let first : IsDriven n line = All-head (IsDriven n) line lines driven in
    let port : line.port < length n.signals = signal_below line.port (length n.signals) n.stimulus_drivers (all_front (λ d. d.signal < length n.signals) n.stimulus_drivers n.cell_drivers there) first.driver in
    let driver = position_below line.port n.stimulus_drivers first.driver in (
      record { port = omega (arith, port, are.as_many); driver = omega (arith, driver, are.first line.port first.driver); time = first.time },
      above 0 line (omega arith),
      left_from n numbers line.time lines are there (behind line lines order) (All-tail (IsDriven n) line lines driven) (λ i j d le lt. order (suc i) (suc j) d (omega (arith, le)) (omega (arith, lt))),
    )
  where
    time_at : (lines : List StimLine) (k : ℕ) (d : StimLine) → slice_index_or (map (λ line. line.time) lines) k d.time ≡ (slice_index_or lines k d).time
    time_at [] k d = refl
    time_at (line ∷ lines) zero d = refl
    time_at (line ∷ lines) (suc k) d = time_at lines k d

    behind : (line : StimLine) (lines : List StimLine) → IsNonDecreasing (map (λ l. l.time) (line ∷ lines)) → All (λ l. line.time ≤ l.time) lines
    behind line lines order k d lt =
        let later = order 0 (suc k) d.time (omega arith) (omega (arith, lt, length-map lines (λ (l : StimLine). l.time))) in
        rw (time_at lines k d) at later

pub all_left : (n : Network) (numbers : List ℕ) (lines : List StimLine) → AreStimulusDrivers n numbers → All (λ d. d.signal < length n.signals) (all_drivers n) → All (IsDriven n) lines
    → IsNonDecreasing (map (λ line. line.time) lines) → AreLeft numbers (length n.stimulus_drivers) 0 lines
all_left n numbers lines are there driven order = left_from n numbers 0 lines are there (λ k d lt. omega arith) driven order

pub lines_assigned : (n : Network) (numbers : List ℕ) (lines : List StimLine) (ds : List Driver) → AreStimulusDrivers n numbers → All (IsDriven n) lines
    → with_lines numbers lines ds ≡ fold (stimulated n) ds lines
lines_assigned n numbers [] ds are all = refl
lines_assigned n numbers (line ∷ lines) ds are all =
    let driven : IsDriven n line = All-head (IsDriven n) line lines all in
    let one : stimulated_by numbers ds line ≡ stimulated n ds line =
    ap (λ (k : ℕ). changed k (send 0 Transport line.value line.time) ds) (are.first line.port driven.driver) in
    ap (with_lines numbers lines) one ∙ lines_assigned n numbers lines (stimulated n ds line) are (All-tail (IsDriven n) line lines all)

-- ---- the numbers of the drivers

-- for each signal with a driver of these, of which the first has a number, the number of the first
abbrev pub AreNumbered : ℕ → List ℕ → List DesignDriver → Type 0
AreNumbered low numbers ds = (port : ℕ) → HasDriver port ds → get_or numbers port 0 ≡ low + position_or_len (λ d. eqb d.signal port) ds

pub one_more_numbered : (low : ℕ) (numbers : List ℕ) (d : DesignDriver) (ds : List DesignDriver) → d.signal < length numbers → AreNumbered (low + 1) numbers ds
    → AreNumbered low (set numbers d.signal low) (d ∷ ds)
one_more_numbered low numbers d ds there later port h =
    elim (cases_Bool (eqb d.signal port)) [
      | inl same ↦
          let is : d.signal ≡ port = eqb-true d.signal port same in
          rw same (ap (λ (k : ℕ). get_or (set numbers d.signal low) k 0) (sym is) ∙ get_or-set_same numbers d.signal low 0 there ∙ omega arith)
      | inr other ↦
          let rest : HasDriver port ds = rw other at h in
          let differs : port ≢ d.signal = λ e. false≢true (sym other ∙ eq-eqb d.signal port (sym e)) in
          rw other (get_or-set_other numbers d.signal port low 0 differs ∙ later port rest ∙ omega arith)
    ]

-- ---- numbers of signals

pub few_drivers_of : (n : Network) → IsSoundNetwork n → All (λ d. d.signal < 2 ^ 31) (all_drivers n)
few_drivers_of n sound = λ k d lt. omega (arith, sound.signals_there k d lt, sound.few_signals)

pub signals_there : (ds : List DesignDriver) (most : ℕ) → All (λ d. d.signal < most) ds → (k : ℕ) → k < length (map (λ d. d.signal) ds) → get_or (map (λ d. d.signal) ds) k 0 < most
signals_there [] most all k lt = absurd (omega (arith, lt))
signals_there (d ∷ ds) most all zero lt = All-head (λ x. x.signal < most) d ds all
signals_there (d ∷ ds) most all (suc k) lt = signals_there ds most (All-tail (λ x. x.signal < most) d ds all) k (omega (arith, lt))

-- the numbers of the drivers for the stimuli, as code makes them
pub stimuli_numbered : (n : Network) (signals : List NetSignal) (drivers : List DesignDriver) (numbers before : List ℕ) → signals ≡ n.signals → drivers ≡ n.stimulus_drivers
    → length numbers ≡ length before → length before ≡ length signals
    → ((port : ℕ) → HasDriver port drivers → get_or numbers port 0 ≡ position_or_len (λ d. eqb d.signal port) drivers) → AreStimulusDrivers n numbers
stimuli_numbered n signals drivers numbers before same are long all h =
    record {
      as_many = long ∙ all ∙ ap length same;
      first = subst (λ (ds : List DesignDriver). (port : ℕ) → HasDriver port ds → get_or numbers port 0 ≡ position_or_len (λ d. eqb d.signal port) ds) are h;
    }
