-- The initial run as its parts.
use Rattle.std.proofs.Common.{◌≡◌, ◌∙◌, ℕ, List, [], ◌∷◌, length, map, refl, ap, sym}
use Rattle.std.specs.List.{flat_map, zip}
use Rattle.std.specs.List.Sorted.{IsNonDecreasing}
use Rattle.std.specs.Prelude.{All}
use Rattle.vital_agenda.specs.Agendas.{Content, idle, idle_driver}
use Rattle.vital_agenda.specs.Driver.{Driver}
use Rattle.vital_kernel.specs.Activations.{from_state, init_text, state_of}
use Rattle.vital_kernel.specs.Cycles.{Part, all_activated, first_drivers, first_state, initial_run}
use Rattle.vital_kernel.specs.Handing.{AreStimulusDrivers}
use Rattle.vital_kernel.specs.Kernels.{IsDriven, state_with}
use Rattle.vital_kernel.specs.Lines.{init_lines}
use Rattle.vital_kernel.specs.States.{State, values}
use Rattle.vital_kernel.proofs.ProcessCells.{all_behind}
use Rattle.vital_kernel.proofs.EventLemmas.{init_texts, quiet_values}
use Rattle.vital_kernel.proofs.Lifting.{all_with, part_with}
use Rattle.vital_kernel.proofs.StimulusLemmas.{all_left, lines_assigned}
use Rattle.vital_logic.specs.declared.level.Level.{Level}
use Rattle.vital_netlist.specs.declared.design_lists.DesignDriver.{DesignDriver}
use Rattle.vital_kernel.specs.Networks.{Network, all_drivers, processes}
use Rattle.vital_kernel.specs.Soundness.{IsSoundNetwork}
use Rattle.vital_kernel.specs.Processes.{ProcessStates, first_variables}
use Rattle.vital_report.specs.Lines.{text_of}
use Rattle.vital_signals.specs.Events.{quiet_signal}
use Rattle.vital_signals.specs.SignalStates.{SignalState, first_signals}
use Rattle.vital_signals.specs.declared.signal.Signal.{Signal}
use Rattle.vital_stim.specs.declared.stimuli.StimLine.{StimLine}

-- what is printed first
pub inits_told : (n : Network) (s : State) → s ≡ first_state n → flat_map init_text (zip n.signals (map (λ x. x.value) s.signals)) ≡ text_of (init_lines n)
inits_told n s first =
    let given = values n (first_drivers n) in
    ap (λ (x : State). flat_map init_text (zip n.signals (map (λ (y : Signal). y.value) x.signals))) first
    ∙ ap (λ (vs : List Level). flat_map init_text (zip n.signals vs)) (quiet_values given) ∙ init_texts n.signals given

-- the initial run is that of the processes, with all lines still to be handed
pub record IsFirst (n : Network) (numbers : List ℕ) (lines : List StimLine) (s : State) : Type 0 where
  pub state : state_with numbers lines (all_activated (processes n) (from_state s)).state ≡ (initial_run n lines).state
  pub happened : (all_activated (processes n) (from_state s)).happened ≡ (initial_run n lines).happened

pub is_first : (n : Network) (numbers : List ℕ) (lines : List StimLine) (s : State) → IsSoundNetwork n → AreStimulusDrivers n numbers → All (IsDriven n) lines
    → IsNonDecreasing (map (λ line. line.time) lines) → s ≡ first_state n → IsFirst n numbers lines s
is_first n numbers lines s sound are driven order first =
    let start = first_state n in
    let with_lines_is : initial_run n lines ≡ all_activated (processes n) (part_with numbers lines (from_state start)) =
    ap (λ (ds : List Driver). all_activated (processes n) (from_state (let it : State = record start { drivers = ds } in it))) (sym (lines_assigned n numbers lines start.drivers are driven)) in
    let whole : initial_run n lines ≡ part_with numbers lines (all_activated (processes n) (from_state start)) =
    with_lines_is ∙ all_with numbers (length n.stimulus_drivers) 0 lines (processes n) (from_state start) (all_left n numbers lines are sound.signals_there driven order) (all_behind n sound) in
    record {
      state = ap (λ (x : State). state_with numbers lines (all_activated (processes n) (from_state x)).state) first ∙ sym (ap (λ (x : Part). x.state) whole);
      happened = ap (λ (x : State). (all_activated (processes n) (from_state x)).happened) first ∙ sym (ap (λ (x : Part). x.happened) whole);
    }

-- ---- before the initial run

idle_is : (ds : List DesignDriver) → map idle_driver (map (λ d. d.initial) ds) ≡ map (λ d. idle_driver d.initial) ds
idle_is [] = refl
idle_is (d ∷ ds) = ap (λ (xs : List Driver). idle_driver d.initial ∷ xs) (idle_is ds)

pub starts : (n : Network) (content : Content) (s : SignalState) (ps : ProcessStates) (initial : List Level) → initial ≡ map (λ d. d.initial) (all_drivers n) → content ≡ idle initial
    → s ≡ first_signals (map (λ x. x.initial) n.signals) (map (λ x. x.signal) (all_drivers n)) initial
    → ps ≡ (let it : ProcessStates = record { network = n; variables = map first_variables n.cells; effects = []; latest = 0 } in it) → state_of content 0 s.signals ps.variables ≡ first_state n
starts n content s ps initial are idling signals processes =
    let drivers : map idle_driver initial ≡ first_drivers n = ap (map idle_driver) are ∙ idle_is (all_drivers n) in
    ap (λ (c : Content). state_of c 0 s.signals ps.variables) idling
    ∙ ap (λ (x : SignalState). state_of (idle initial) 0 x.signals ps.variables) signals
    ∙ ap (λ (ds : List Driver). let it : State = record { now = 0; delta = 0; drivers = ds; signals = map quiet_signal (values n ds); variables = ps.variables } in it) drivers
    ∙ ap (λ (x : ProcessStates). let it : State = record { now = 0; delta = 0; drivers = first_drivers n; signals = map quiet_signal (values n (first_drivers n)); variables = x.variables } in it) processes
