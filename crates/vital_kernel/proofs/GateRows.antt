-- A worked row of an AND gate with delays: a glitch at its start, and a fall of a wire that a later rise deletes. Times are in femtoseconds.
use Rattle.std.proofs.Common.{◌≡◌, ℕ, List, [], ◌∷◌, refl}
use Rattle.std.specs.Prelude.{false, codes}
use Rattle.vital_agenda.specs.Driver.{Driver}
use Rattle.vital_cell.specs.Variables.{Slot}
use Rattle.vital_logic.specs.declared.level.Level.TheVariants.{U, X, Zero, One}
use Rattle.vital_netlist.specs.Designs.{Design}
use Rattle.vital_nodes.specs.declared.expr.Logical.TheVariants.{And}
use Rattle.vital_stim.specs.declared.stimuli.StimLine.{StimLine}
use Rattle.vital_timing.specs.declared.delay.Delay.TheVariants as delay
use Rattle.vital_typed_cells.proofs.TreeLemmas.{level-logical, level-signal}
use Rattle.vital_kernel.specs.Cycles.{Event, Glitch, Happening, initial_run}
use Rattle.vital_kernel.specs.DesignNetworks.{network}
use Rattle.vital_kernel.specs.Lines.{run_lines}
use Rattle.vital_report.specs.Lines.{event, glitch, init}
use Rattle.vital_kernel.specs.Networks.{Network}
use Rattle.vital_kernel.specs.Runs.{Ended, IsRun, cycle, ended, ends, goes_on, step}
use Rattle.vital_kernel.specs.States.{State}
use Rattle.vital_signals.specs.declared.signal.Signal.{Signal}
use Rattle.vital_signals.specs.Events.{quiet_signal}
use Rattle.vital_base.specs.declared.watch.Watch.TheVariants.{All}
use Rattle.vital_kernel.proofs.BufferParts.{at, driver, kept, since, truth-literal}
use Rattle.vital_kernel.proofs.GateParts.{gate, variables_of}
use Rattle.vital_kernel.proofs.RowParts.{drives, input_port, line, net, top_cell}

-- The gate as the top.
abbrev design : Design
design = record {
  instances = top_cell ∷ [];
  signals =
      net 0 (codes "a") U
      ∷ net 0 (codes "b") U
      ∷ net 0 (codes "y") U
      ∷ net 0 (codes "a_ipd") X
      ∷ net 0 (codes "b_ipd") X
      ∷ [];
  drivers = drives 3 X ∷ drives 4 X ∷ drives 2 U ∷ [];
  ports = input_port (codes "a") U ∷ input_port (codes "b") U ∷ record (input_port (codes "y") U) { input = false } ∷ [];
  cells = gate And ∷ [];
  wiring = (0 ∷ 1 ∷ 2 ∷ 3 ∷ 4 ∷ []) ∷ [];
}

-- a and b rise; then a falls, and rises again.
abbrev stimuli : List StimLine
stimuli = line 0 0 One ∷ line 0 1 One ∷ line 1_000_000 0 Zero ∷ line 1_150_000 0 One ∷ []

-- Each path has 200,000 for a rise and 300,000 for a fall, and the wire of a 100,000 and 300,000.
abbrev alone : Network
alone = network design ((delay.Two 200_000 300_000 ∷ delay.Two 200_000 300_000 ∷ delay.Two 100_000 300_000 ∷ delay.Two 0 0 ∷ []) ∷ []) stimuli All

-- ---- its states: the drivers of a and b for stimuli, of a_ipd, of b_ipd and of y, and the signals a, b, y, a_ipd and b_ipd

abbrev state : ℕ → ℕ → List Driver → List Signal → Slot → State
state now delta drivers signals g = record { now = now; delta = delta; drivers = drivers; signals = signals; variables = variables_of g ∷ [] }

abbrev state_0 : State
state_0 = state 0 0 (driver U (at 0 One ∷ at 1_000_000 Zero ∷ at 1_150_000 One ∷ []) ∷ driver U (at 0 One ∷ []) ∷ driver X (at 100_000 U ∷ []) ∷ driver X (at 0 U ∷ []) ∷ driver U (at 0 X ∷ []) ∷ []) (quiet_signal U ∷ quiet_signal U ∷ quiet_signal U ∷ quiet_signal X ∷ quiet_signal X ∷ []) (kept 0 0 X X)

abbrev state_1 : State
state_1 = state 0 1 (driver One (at 1_000_000 Zero ∷ at 1_150_000 One ∷ []) ∷ driver One [] ∷ driver X (at 100_000 One ∷ []) ∷ driver U (at 0 One ∷ []) ∷ driver X (at 200_000 U ∷ []) ∷ []) (since 0 U One ∷ since 0 U One ∷ since 0 U X ∷ quiet_signal X ∷ since 0 X U ∷ []) (kept 200_000 200_000 U U)

abbrev state_2 : State
state_2 = state 0 2 (driver One (at 1_000_000 Zero ∷ at 1_150_000 One ∷ []) ∷ driver One [] ∷ driver X (at 100_000 One ∷ []) ∷ driver One [] ∷ driver X (at 200_000 X ∷ []) ∷ []) (since 0 U One ∷ since 0 U One ∷ since 0 U X ∷ quiet_signal X ∷ since 0 U One ∷ []) (kept 200_000 200_000 X X)

abbrev state_3 : State
state_3 = state 100_000 0 (driver One (at 1_000_000 Zero ∷ at 1_150_000 One ∷ []) ∷ driver One [] ∷ driver One [] ∷ driver One [] ∷ driver X (at 200_000 X ∷ at 300_000 One ∷ []) ∷ []) (since 0 U One ∷ since 0 U One ∷ since 0 U X ∷ since 100_000 X One ∷ since 0 U One ∷ []) (kept 300_000 200_000 One One)

abbrev state_4 : State
state_4 = state 200_000 0 (driver One (at 1_000_000 Zero ∷ at 1_150_000 One ∷ []) ∷ driver One [] ∷ driver One [] ∷ driver One [] ∷ driver X (at 300_000 One ∷ []) ∷ []) (since 0 U One ∷ since 0 U One ∷ since 0 U X ∷ since 100_000 X One ∷ since 0 U One ∷ []) (kept 300_000 200_000 One One)

abbrev state_5 : State
state_5 = state 300_000 0 (driver One (at 1_000_000 Zero ∷ at 1_150_000 One ∷ []) ∷ driver One [] ∷ driver One [] ∷ driver One [] ∷ driver One [] ∷ []) (since 0 U One ∷ since 0 U One ∷ since 300_000 X One ∷ since 100_000 X One ∷ since 0 U One ∷ []) (kept 300_000 200_000 One One)

abbrev state_6 : State
state_6 = state 1_000_000 0 (driver Zero (at 1_150_000 One ∷ []) ∷ driver One [] ∷ driver One (at 1_300_000 Zero ∷ []) ∷ driver One [] ∷ driver One [] ∷ []) (since 1_000_000 One Zero ∷ since 0 U One ∷ since 300_000 X One ∷ since 100_000 X One ∷ since 0 U One ∷ []) (kept 300_000 200_000 One One)

abbrev state_7 : State
state_7 = state 1_150_000 0 (driver One [] ∷ driver One [] ∷ driver One (at 1_250_000 One ∷ []) ∷ driver One [] ∷ driver One [] ∷ []) (since 1_150_000 Zero One ∷ since 0 U One ∷ since 300_000 X One ∷ since 100_000 X One ∷ since 0 U One ∷ []) (kept 300_000 200_000 One One)

abbrev state_8 : State
state_8 = state 1_250_000 0 (driver One [] ∷ driver One [] ∷ driver One [] ∷ driver One [] ∷ driver One [] ∷ []) (since 1_150_000 Zero One ∷ since 0 U One ∷ since 300_000 X One ∷ since 100_000 X One ∷ since 0 U One ∷ []) (kept 300_000 200_000 One One)

-- ---- its steps

initial : initial_run alone stimuli ≡ record { state = state_0; happened = [] }
initial = simp (truth-literal, level-signal, level-logical)

step_1 : step alone 2_000_000 1_000 state_0 ≡ cycle (Event 0 1 0 One ∷ Event 0 1 1 One ∷ Event 0 1 2 X ∷ Event 0 1 4 U ∷ []) state_1
step_1 = simp (truth-literal, level-signal, level-logical)

step_2 : step alone 2_000_000 1_000 state_1 ≡ cycle (Event 0 2 4 One ∷ []) state_2
step_2 = simp (truth-literal, level-signal, level-logical)

step_3 : step alone 2_000_000 1_000 state_2 ≡ cycle (Event 100_000 0 3 One ∷ Glitch 100_000 0 0 2 ∷ []) state_3
step_3 = simp (truth-literal, level-signal, level-logical)

step_4 : step alone 2_000_000 1_000 state_3 ≡ cycle [] state_4
step_4 = refl

step_5 : step alone 2_000_000 1_000 state_4 ≡ cycle (Event 300_000 0 2 One ∷ []) state_5
step_5 = refl

step_6 : step alone 2_000_000 1_000 state_5 ≡ cycle (Event 1_000_000 0 0 Zero ∷ []) state_6
step_6 = refl

step_7 : step alone 2_000_000 1_000 state_6 ≡ cycle (Event 1_150_000 0 0 One ∷ []) state_7
step_7 = refl

step_8 : step alone 2_000_000 1_000 state_7 ≡ cycle [] state_8
step_8 = refl

no_more : step alone 2_000_000 1_000 state_8 ≡ ended
no_more = refl

-- ---- the run

abbrev happened : List Happening
happened =
    Event 0 1 0 One
    ∷ Event 0 1 1 One
    ∷ Event 0 1 2 X
    ∷ Event 0 1 4 U
    ∷ Event 0 2 4 One
    ∷ Event 100_000 0 3 One
    ∷ Glitch 100_000 0 0 2
    ∷ Event 300_000 0 2 One
    ∷ Event 1_000_000 0 0 Zero
    ∷ Event 1_150_000 0 0 One
    ∷ []

row_run : IsRun alone 2_000_000 1_000 state_0 happened state_8 Ended
row_run =
    let from_5 = goes_on step_5 (goes_on step_6 (goes_on step_7 (goes_on step_8 (ends no_more)))) in
    let from_1 = goes_on step_1 (goes_on step_2 (goes_on step_3 (goes_on step_4 from_5))) in
    from_1

row_lines :
    run_lines alone happened
    ≡ init (codes "a") U
    ∷ init (codes "b") U
    ∷ init (codes "y") U
    ∷ init (codes "a_ipd") X
    ∷ init (codes "b_ipd") X
    ∷ event 0 1 (codes "a") One
    ∷ event 0 1 (codes "b") One
    ∷ event 0 1 (codes "y") X
    ∷ event 0 1 (codes "b_ipd") U
    ∷ event 0 2 (codes "b_ipd") One
    ∷ event 100_000 0 (codes "a_ipd") One
    ∷ glitch 100_000 0 (codes "-") (codes "y")
    ∷ event 300_000 0 (codes "y") One
    ∷ event 1_000_000 0 (codes "a") Zero
    ∷ event 1_150_000 0 (codes "a") One
    ∷ []
row_lines = refl
