-- Worked rows of runs with a path delay: all states from the first to the last one. Times are in femtoseconds.
use Rattle.std.proofs.Common.{◌≡◌, ℕ, List, [], ◌∷◌, refl}
use Rattle.std.specs.Prelude.{false, true, codes}
use Rattle.vital_agenda.specs.Driver.{Driver}
use Rattle.vital_cell.specs.Variables.{Slot}
use Rattle.vital_logic.specs.declared.level.Level.TheVariants.{U, X, Zero, One}
use Rattle.vital_netlist.specs.Designs.{Design}
use Rattle.vital_stim.specs.declared.stimuli.StimLine.{StimLine}
use Rattle.vital_timing.specs.declared.glitch_mode.GlitchMode.TheVariants.{OnEvent}
use Rattle.vital_typed_cells.proofs.TreeLemmas.{level-signal}
use Rattle.vital_kernel.specs.Cycles.{Event, Glitch, Happening, initial_run}
use Rattle.vital_kernel.specs.DesignNetworks.{network}
use Rattle.vital_kernel.specs.Lines.{run_lines}
use Rattle.vital_report.specs.Lines.{event, glitch, init}
use Rattle.vital_kernel.specs.Networks.{Network}
use Rattle.vital_kernel.specs.Runs.{Ended, IsRun, cycle, ended, ends, goes_on, step}
use Rattle.vital_kernel.specs.States.{State}
use Rattle.vital_signals.specs.declared.signal.Signal.{Signal}
use Rattle.vital_signals.specs.Events.{quiet_signal}
use Rattle.vital_base.specs.declared.watch.Watch.TheVariants.{All, Ports}
use Rattle.vital_kernel.proofs.BufferParts.{at, buffer, delays_of, driver, kept, since, truth-literal, variables_of}
use Rattle.vital_kernel.proofs.RowParts.{drives, input_port, line, net, top_cell}

-- A buffer as the top. Its drivers are that of the stimuli of a, that of a_ipd and that of y.
abbrev design : Design
design = record {
  instances = top_cell ∷ [];
  signals = net 0 (codes "a") U ∷ net 0 (codes "y") U ∷ net 0 (codes "a_ipd") U ∷ [];
  drivers = drives 2 U ∷ drives 1 U ∷ [];
  ports = input_port (codes "a") U ∷ record { name = codes "y"; input = false; initial = 85 } ∷ [];
  cells = buffer OnEvent true ∷ [];
  wiring = (0 ∷ 1 ∷ 2 ∷ []) ∷ [];
}

abbrev state : ℕ → ℕ → List Driver → List Signal → Slot → State
state now delta drivers signals g = record { now = now; delta = delta; drivers = drivers; signals = signals; variables = variables_of g ∷ [] }

-- ---- without delays a has its event in delta 1, a_ipd in delta 2 and y in delta 3

abbrev rise : List StimLine
rise = line 0 0 One ∷ []

abbrev no_delay : Network
no_delay = network design (delays_of 0 0 ∷ []) rise All

abbrev first_0 : State
first_0 = state 0 0 (driver U (at 0 One ∷ []) ∷ driver U (at 0 U ∷ []) ∷ driver U [] ∷ []) (quiet_signal U ∷ quiet_signal U ∷ quiet_signal U ∷ []) (kept 0 0 U U)

abbrev first_1 : State
first_1 = state 0 1 (driver One [] ∷ driver U (at 0 One ∷ []) ∷ driver U [] ∷ []) (since 0 U One ∷ quiet_signal U ∷ quiet_signal U ∷ []) (kept 0 0 U U)

abbrev first_2 : State
first_2 = state 0 2 (driver One [] ∷ driver One [] ∷ driver U (at 0 One ∷ []) ∷ []) (since 0 U One ∷ quiet_signal U ∷ since 0 U One ∷ []) (kept 0 0 One One)

abbrev first_3 : State
first_3 = state 0 3 (driver One [] ∷ driver One [] ∷ driver One [] ∷ []) (since 0 U One ∷ since 0 U One ∷ since 0 U One ∷ []) (kept 0 0 One One)

-- The stimulus of a is sent, and U by the wire. The path delay sends nothing, since U is what it has.
first_initial : initial_run no_delay rise ≡ record { state = first_0; happened = [] }
first_initial = simp (truth-literal, level-signal)

first_cycle_1 : step no_delay 1_000_000 1_000 first_0 ≡ cycle (Event 0 1 0 One ∷ []) first_1
first_cycle_1 = refl

first_cycle_2 : step no_delay 1_000_000 1_000 first_1 ≡ cycle (Event 0 2 2 One ∷ []) first_2
first_cycle_2 = simp (truth-literal, level-signal)

first_cycle_3 : step no_delay 1_000_000 1_000 first_2 ≡ cycle (Event 0 3 1 One ∷ []) first_3
first_cycle_3 = refl

first_end : step no_delay 1_000_000 1_000 first_3 ≡ ended
first_end = refl

abbrev first_happened : List Happening
first_happened = Event 0 1 0 One ∷ Event 0 2 2 One ∷ Event 0 3 1 One ∷ []

row_no_delay : IsRun no_delay 1_000_000 1_000 first_0 first_happened first_3 Ended
row_no_delay = let run = goes_on first_cycle_1 (goes_on first_cycle_2 (goes_on first_cycle_3 (ends first_end))) in run

row_no_delay_lines :
    run_lines no_delay first_happened
    ≡ init (codes "a") U
    ∷ init (codes "y") U
    ∷ init (codes "a_ipd") U
    ∷ event 0 1 (codes "a") One
    ∷ event 0 2 (codes "a_ipd") One
    ∷ event 0 3 (codes "y") One
    ∷ []
row_no_delay_lines = refl

-- ---- a pulse of 400,000 where the path takes 1,000,000: a glitch, for which y becomes X

abbrev pulse : List StimLine
pulse = line 0 0 Zero ∷ line 10_000_000 0 One ∷ line 10_400_000 0 Zero ∷ []

abbrev with_delay : Network
with_delay = network design (delays_of 1_000_000 0 ∷ []) pulse Ports

abbrev second_0 : State
second_0 = state 0 0 (driver U (at 0 Zero ∷ at 10_000_000 One ∷ at 10_400_000 Zero ∷ []) ∷ driver U (at 0 U ∷ []) ∷ driver U [] ∷ []) (quiet_signal U ∷ quiet_signal U ∷ quiet_signal U ∷ []) (kept 0 0 U U)

abbrev second_1 : State
second_1 = state 0 1 (driver Zero (at 10_000_000 One ∷ at 10_400_000 Zero ∷ []) ∷ driver U (at 0 Zero ∷ []) ∷ driver U [] ∷ []) (since 0 U Zero ∷ quiet_signal U ∷ quiet_signal U ∷ []) (kept 0 0 U U)

abbrev second_2 : State
second_2 = state 0 2 (driver Zero (at 10_000_000 One ∷ at 10_400_000 Zero ∷ []) ∷ driver Zero [] ∷ driver U (at 1_000_000 Zero ∷ []) ∷ []) (since 0 U Zero ∷ quiet_signal U ∷ since 0 U Zero ∷ []) (kept 1_000_000 1_000_000 Zero Zero)

abbrev second_3 : State
second_3 = state 1_000_000 0 (driver Zero (at 10_000_000 One ∷ at 10_400_000 Zero ∷ []) ∷ driver Zero [] ∷ driver Zero [] ∷ []) (since 0 U Zero ∷ since 1_000_000 U Zero ∷ since 0 U Zero ∷ []) (kept 1_000_000 1_000_000 Zero Zero)

abbrev second_4 : State
second_4 = state 10_000_000 0 (driver One (at 10_400_000 Zero ∷ []) ∷ driver Zero (at 10_000_000 One ∷ []) ∷ driver Zero [] ∷ []) (since 10_000_000 Zero One ∷ since 1_000_000 U Zero ∷ since 0 U Zero ∷ []) (kept 1_000_000 1_000_000 Zero Zero)

abbrev second_5 : State
second_5 = state 10_000_000 1 (driver One (at 10_400_000 Zero ∷ []) ∷ driver One [] ∷ driver Zero (at 11_000_000 One ∷ []) ∷ []) (since 10_000_000 Zero One ∷ since 1_000_000 U Zero ∷ since 10_000_000 Zero One ∷ []) (kept 11_000_000 11_000_000 One One)

abbrev second_6 : State
second_6 = state 10_400_000 0 (driver Zero [] ∷ driver One (at 10_400_000 Zero ∷ []) ∷ driver Zero (at 11_000_000 One ∷ []) ∷ []) (since 10_400_000 One Zero ∷ since 1_000_000 U Zero ∷ since 10_000_000 Zero One ∷ []) (kept 11_000_000 11_000_000 One One)

abbrev second_7 : State
second_7 = state 10_400_000 1 (driver Zero [] ∷ driver Zero [] ∷ driver Zero (at 11_000_000 X ∷ at 11_400_000 Zero ∷ []) ∷ []) (since 10_400_000 One Zero ∷ since 1_000_000 U Zero ∷ since 10_400_000 One Zero ∷ []) (kept 11_400_000 11_000_000 Zero Zero)

abbrev second_8 : State
second_8 = state 11_000_000 0 (driver Zero [] ∷ driver Zero [] ∷ driver X (at 11_400_000 Zero ∷ []) ∷ []) (since 10_400_000 One Zero ∷ since 11_000_000 Zero X ∷ since 10_400_000 One Zero ∷ []) (kept 11_400_000 11_000_000 Zero Zero)

abbrev second_9 : State
second_9 = state 11_400_000 0 (driver Zero [] ∷ driver Zero [] ∷ driver Zero [] ∷ []) (since 10_400_000 One Zero ∷ since 11_400_000 X Zero ∷ since 10_400_000 One Zero ∷ []) (kept 11_400_000 11_000_000 Zero Zero)

second_initial : initial_run with_delay pulse ≡ record { state = second_0; happened = [] }
second_initial = simp (truth-literal, level-signal)

second_cycle_1 : step with_delay 20_000_000 1_000 second_0 ≡ cycle (Event 0 1 0 Zero ∷ []) second_1
second_cycle_1 = refl

second_cycle_2 : step with_delay 20_000_000 1_000 second_1 ≡ cycle (Event 0 2 2 Zero ∷ []) second_2
second_cycle_2 = simp (truth-literal, level-signal)

second_cycle_3 : step with_delay 20_000_000 1_000 second_2 ≡ cycle (Event 1_000_000 0 1 Zero ∷ []) second_3
second_cycle_3 = refl

second_cycle_4 : step with_delay 20_000_000 1_000 second_3 ≡ cycle (Event 10_000_000 0 0 One ∷ []) second_4
second_cycle_4 = refl

second_cycle_5 : step with_delay 20_000_000 1_000 second_4 ≡ cycle (Event 10_000_000 1 2 One ∷ []) second_5
second_cycle_5 = simp (truth-literal, level-signal)

second_cycle_6 : step with_delay 20_000_000 1_000 second_5 ≡ cycle (Event 10_400_000 0 0 Zero ∷ []) second_6
second_cycle_6 = refl

second_cycle_7 : step with_delay 20_000_000 1_000 second_6 ≡ cycle (Event 10_400_000 1 2 Zero ∷ Glitch 10_400_000 1 0 1 ∷ []) second_7
second_cycle_7 = simp (truth-literal, level-signal)

second_cycle_8 : step with_delay 20_000_000 1_000 second_7 ≡ cycle (Event 11_000_000 0 1 X ∷ []) second_8
second_cycle_8 = refl

second_cycle_9 : step with_delay 20_000_000 1_000 second_8 ≡ cycle (Event 11_400_000 0 1 Zero ∷ []) second_9
second_cycle_9 = refl

second_end : step with_delay 20_000_000 1_000 second_9 ≡ ended
second_end = refl

abbrev second_happened : List Happening
second_happened =
    Event 0 1 0 Zero
    ∷ Event 0 2 2 Zero
    ∷ Event 1_000_000 0 1 Zero
    ∷ Event 10_000_000 0 0 One
    ∷ Event 10_000_000 1 2 One
    ∷ Event 10_400_000 0 0 Zero
    ∷ Event 10_400_000 1 2 Zero
    ∷ Glitch 10_400_000 1 0 1
    ∷ Event 11_000_000 0 1 X
    ∷ Event 11_400_000 0 1 Zero
    ∷ []

row_pulse : IsRun with_delay 20_000_000 1_000 second_0 second_happened second_9 Ended
row_pulse =
    let settled = goes_on second_cycle_7 (goes_on second_cycle_8 (goes_on second_cycle_9 (ends second_end))) in
    let risen = goes_on second_cycle_4 (goes_on second_cycle_5 (goes_on second_cycle_6 settled)) in
    let run = goes_on second_cycle_1 (goes_on second_cycle_2 (goes_on second_cycle_3 risen)) in
    run

row_pulse_lines :
    run_lines with_delay second_happened
    ≡ init (codes "a") U
    ∷ init (codes "y") U
    ∷ event 0 1 (codes "a") Zero
    ∷ event 1_000_000 0 (codes "y") Zero
    ∷ event 10_000_000 0 (codes "a") One
    ∷ event 10_400_000 0 (codes "a") Zero
    ∷ glitch 10_400_000 1 (codes "-") (codes "y")
    ∷ event 11_000_000 0 (codes "y") X
    ∷ event 11_400_000 0 (codes "y") Zero
    ∷ []
row_pulse_lines = refl
