-- A worked row of a NAND gate without delays whose output is fed back: it oscillates up to the limit of delta numbers. Times are in
-- femtoseconds.
use Rattle.std.proofs.Common.{◌≡◌, ℕ, List, [], ◌∷◌, refl}
use Rattle.std.specs.Prelude.{false, codes}
use Rattle.vital_agenda.specs.Driver.{Driver}
use Rattle.vital_cell.specs.Variables.{Slot}
use Rattle.vital_logic.specs.declared.level.Level.TheVariants.{U, X, Zero, One}
use Rattle.vital_netlist.specs.Designs.{Design}
use Rattle.vital_nodes.specs.declared.expr.Logical.TheVariants.{Nand}
use Rattle.vital_stim.specs.declared.stimuli.StimLine.{StimLine}
use Rattle.vital_timing.specs.declared.delay.Delay.TheVariants as delay
use Rattle.vital_typed_cells.proofs.TreeLemmas.{level-logical, level-signal}
use Rattle.vital_kernel.specs.Cycles.{Event, Happening, initial_run}
use Rattle.vital_kernel.specs.DesignNetworks.{network}
use Rattle.vital_kernel.specs.Lines.{run_lines}
use Rattle.vital_report.specs.Lines.{event, init}
use Rattle.vital_kernel.specs.Networks.{Network}
use Rattle.vital_kernel.specs.Runs.{DeltaPassed, IsRun, cycle, goes_on, passed, passes, step}
use Rattle.vital_kernel.specs.States.{State}
use Rattle.vital_signals.specs.declared.signal.Signal.{Signal}
use Rattle.vital_signals.specs.Events.{quiet_signal}
use Rattle.vital_base.specs.declared.watch.Watch.TheVariants.{Ports}
use Rattle.vital_kernel.proofs.BufferParts.{at, driver, kept, since, truth-literal}
use Rattle.vital_kernel.proofs.GateParts.{gate, variables_of}
use Rattle.vital_kernel.proofs.RowParts.{drives, input_port, instance, line, net, top}

-- ---- the design: its output is q, and so is its input b

abbrev design : Design
design = record {
  instances = top ∷ instance (codes "u1") ∷ [];
  signals = net 0 (codes "en") U ∷ net 0 (codes "q") U ∷ net 1 (codes "a_ipd") X ∷ net 1 (codes "b_ipd") X ∷ [];
  drivers = drives 2 X ∷ drives 3 X ∷ drives 1 U ∷ [];
  ports = input_port (codes "en") U ∷ record (input_port (codes "q") U) { input = false } ∷ [];
  cells = gate Nand ∷ [];
  wiring = (0 ∷ 1 ∷ 1 ∷ 2 ∷ 3 ∷ []) ∷ [];
}

-- While en is 0, q becomes 1; then en becomes 1.
abbrev stimuli : List StimLine
stimuli = line 0 0 Zero ∷ line 1_000_000 0 One ∷ []

abbrev loop : Network
loop = network design ((delay.Two 0 0 ∷ delay.Two 0 0 ∷ delay.Two 0 0 ∷ delay.Two 0 0 ∷ []) ∷ []) stimuli Ports

-- ---- its states: the drivers of en for stimuli, of a_ipd, of b_ipd and of q, and the signals en, q, a_ipd and b_ipd

abbrev state : ℕ → ℕ → List Driver → List Signal → Slot → State
state now delta drivers signals g =
    record { now = now; delta = delta; drivers = drivers; signals = signals; variables = variables_of g ∷ [] }

abbrev state_0 : State
state_0 = state 0 0 (driver U (at 0 Zero ∷ at 1_000_000 One ∷ []) ∷ driver X (at 0 U ∷ []) ∷ driver X (at 0 U ∷ []) ∷ driver U (at 0 X ∷ []) ∷ []) (quiet_signal U ∷ quiet_signal U ∷ quiet_signal X ∷ quiet_signal X ∷ []) (kept 0 0 X X)

abbrev state_1 : State
state_1 = state 0 1 (driver Zero (at 1_000_000 One ∷ []) ∷ driver U (at 0 Zero ∷ []) ∷ driver U (at 0 X ∷ []) ∷ driver X (at 0 U ∷ []) ∷ []) (since 0 U Zero ∷ since 0 U X ∷ since 0 X U ∷ since 0 X U ∷ []) (kept 0 0 U U)

abbrev state_2 : State
state_2 = state 0 2 (driver Zero (at 1_000_000 One ∷ []) ∷ driver Zero [] ∷ driver X (at 0 U ∷ []) ∷ driver U (at 0 One ∷ []) ∷ []) (since 0 U Zero ∷ since 0 X U ∷ since 0 U Zero ∷ since 0 U X ∷ []) (kept 0 0 One One)

abbrev state_3 : State
state_3 = state 0 3 (driver Zero (at 1_000_000 One ∷ []) ∷ driver Zero [] ∷ driver U (at 0 One ∷ []) ∷ driver One [] ∷ []) (since 0 U Zero ∷ since 0 U One ∷ since 0 U Zero ∷ since 0 X U ∷ []) (kept 0 0 One One)

abbrev state_4 : State
state_4 = state 0 4 (driver Zero (at 1_000_000 One ∷ []) ∷ driver Zero [] ∷ driver One [] ∷ driver One [] ∷ []) (since 0 U Zero ∷ since 0 U One ∷ since 0 U Zero ∷ since 0 U One ∷ []) (kept 0 0 One One)

abbrev state_5 : State
state_5 = state 1_000_000 0 (driver One [] ∷ driver Zero (at 1_000_000 One ∷ []) ∷ driver One [] ∷ driver One [] ∷ []) (since 1_000_000 Zero One ∷ since 0 U One ∷ since 0 U Zero ∷ since 0 U One ∷ []) (kept 0 0 One One)

abbrev state_6 : State
state_6 = state 1_000_000 1 (driver One [] ∷ driver One [] ∷ driver One [] ∷ driver One (at 1_000_000 Zero ∷ []) ∷ []) (since 1_000_000 Zero One ∷ since 0 U One ∷ since 1_000_000 Zero One ∷ since 0 U One ∷ []) (kept 1_000_000 1_000_000 Zero Zero)

abbrev state_7 : State
state_7 = state 1_000_000 2 (driver One [] ∷ driver One [] ∷ driver One (at 1_000_000 Zero ∷ []) ∷ driver Zero [] ∷ []) (since 1_000_000 Zero One ∷ since 1_000_000 One Zero ∷ since 1_000_000 Zero One ∷ since 0 U One ∷ []) (kept 1_000_000 1_000_000 Zero Zero)

abbrev state_8 : State
state_8 = state 1_000_000 3 (driver One [] ∷ driver One [] ∷ driver Zero [] ∷ driver Zero (at 1_000_000 One ∷ []) ∷ []) (since 1_000_000 Zero One ∷ since 1_000_000 One Zero ∷ since 1_000_000 Zero One ∷ since 1_000_000 One Zero ∷ []) (kept 1_000_000 1_000_000 One One)

abbrev state_9 : State
state_9 = state 1_000_000 4 (driver One [] ∷ driver One [] ∷ driver Zero (at 1_000_000 One ∷ []) ∷ driver One [] ∷ []) (since 1_000_000 Zero One ∷ since 1_000_000 Zero One ∷ since 1_000_000 Zero One ∷ since 1_000_000 One Zero ∷ []) (kept 1_000_000 1_000_000 One One)

abbrev state_10 : State
state_10 = state 1_000_000 5 (driver One [] ∷ driver One [] ∷ driver One [] ∷ driver One (at 1_000_000 Zero ∷ []) ∷ []) (since 1_000_000 Zero One ∷ since 1_000_000 Zero One ∷ since 1_000_000 Zero One ∷ since 1_000_000 Zero One ∷ []) (kept 1_000_000 1_000_000 Zero Zero)

abbrev state_11 : State
state_11 = state 1_000_000 6 (driver One [] ∷ driver One [] ∷ driver One (at 1_000_000 Zero ∷ []) ∷ driver Zero [] ∷ []) (since 1_000_000 Zero One ∷ since 1_000_000 One Zero ∷ since 1_000_000 Zero One ∷ since 1_000_000 Zero One ∷ []) (kept 1_000_000 1_000_000 Zero Zero)

abbrev state_12 : State
state_12 = state 1_000_000 7 (driver One [] ∷ driver One [] ∷ driver Zero [] ∷ driver Zero (at 1_000_000 One ∷ []) ∷ []) (since 1_000_000 Zero One ∷ since 1_000_000 One Zero ∷ since 1_000_000 Zero One ∷ since 1_000_000 One Zero ∷ []) (kept 1_000_000 1_000_000 One One)

abbrev state_13 : State
state_13 = state 1_000_000 8 (driver One [] ∷ driver One [] ∷ driver Zero (at 1_000_000 One ∷ []) ∷ driver One [] ∷ []) (since 1_000_000 Zero One ∷ since 1_000_000 Zero One ∷ since 1_000_000 Zero One ∷ since 1_000_000 One Zero ∷ []) (kept 1_000_000 1_000_000 One One)

abbrev state_14 : State
state_14 = state 1_000_000 9 (driver One [] ∷ driver One [] ∷ driver One [] ∷ driver One (at 1_000_000 Zero ∷ []) ∷ []) (since 1_000_000 Zero One ∷ since 1_000_000 Zero One ∷ since 1_000_000 Zero One ∷ since 1_000_000 Zero One ∷ []) (kept 1_000_000 1_000_000 Zero Zero)

-- ---- its steps

initial : initial_run loop stimuli ≡ record { state = state_0; happened = [] }
initial = simp (truth-literal, level-signal, level-logical)

step_1 : step loop 2_000_000 10 state_0 ≡ cycle (Event 0 1 0 Zero ∷ Event 0 1 1 X ∷ Event 0 1 2 U ∷ Event 0 1 3 U ∷ []) state_1
step_1 = simp (truth-literal, level-signal, level-logical)

step_2 : step loop 2_000_000 10 state_1 ≡ cycle (Event 0 2 1 U ∷ Event 0 2 2 Zero ∷ Event 0 2 3 X ∷ []) state_2
step_2 = simp (truth-literal, level-signal, level-logical)

step_3 : step loop 2_000_000 10 state_2 ≡ cycle (Event 0 3 1 One ∷ Event 0 3 3 U ∷ []) state_3
step_3 = simp (truth-literal, level-signal, level-logical)

step_4 : step loop 2_000_000 10 state_3 ≡ cycle (Event 0 4 3 One ∷ []) state_4
step_4 = simp (truth-literal, level-signal, level-logical)

step_5 : step loop 2_000_000 10 state_4 ≡ cycle (Event 1_000_000 0 0 One ∷ []) state_5
step_5 = refl

step_6 : step loop 2_000_000 10 state_5 ≡ cycle (Event 1_000_000 1 2 One ∷ []) state_6
step_6 = simp (truth-literal, level-signal, level-logical)

step_7 : step loop 2_000_000 10 state_6 ≡ cycle (Event 1_000_000 2 1 Zero ∷ []) state_7
step_7 = refl

step_8 : step loop 2_000_000 10 state_7 ≡ cycle (Event 1_000_000 3 3 Zero ∷ []) state_8
step_8 = simp (truth-literal, level-signal, level-logical)

step_9 : step loop 2_000_000 10 state_8 ≡ cycle (Event 1_000_000 4 1 One ∷ []) state_9
step_9 = refl

step_10 : step loop 2_000_000 10 state_9 ≡ cycle (Event 1_000_000 5 3 One ∷ []) state_10
step_10 = simp (truth-literal, level-signal, level-logical)

step_11 : step loop 2_000_000 10 state_10 ≡ cycle (Event 1_000_000 6 1 Zero ∷ []) state_11
step_11 = refl

step_12 : step loop 2_000_000 10 state_11 ≡ cycle (Event 1_000_000 7 3 Zero ∷ []) state_12
step_12 = simp (truth-literal, level-signal, level-logical)

step_13 : step loop 2_000_000 10 state_12 ≡ cycle (Event 1_000_000 8 1 One ∷ []) state_13
step_13 = refl

step_14 : step loop 2_000_000 10 state_13 ≡ cycle (Event 1_000_000 9 3 One ∷ []) state_14
step_14 = simp (truth-literal, level-signal, level-logical)

-- The cycle of delta number 10 does not begin.
limit_passed : step loop 2_000_000 10 state_14 ≡ passed 1_000_000
limit_passed = refl

-- ---- the run

abbrev happened : List Happening
happened =
    Event 0 1 0 Zero
    ∷ Event 0 1 1 X
    ∷ Event 0 1 2 U
    ∷ Event 0 1 3 U
    ∷ Event 0 2 1 U
    ∷ Event 0 2 2 Zero
    ∷ Event 0 2 3 X
    ∷ Event 0 3 1 One
    ∷ Event 0 3 3 U
    ∷ Event 0 4 3 One
    ∷ Event 1_000_000 0 0 One
    ∷ Event 1_000_000 1 2 One
    ∷ Event 1_000_000 2 1 Zero
    ∷ Event 1_000_000 3 3 Zero
    ∷ Event 1_000_000 4 1 One
    ∷ Event 1_000_000 5 3 One
    ∷ Event 1_000_000 6 1 Zero
    ∷ Event 1_000_000 7 3 Zero
    ∷ Event 1_000_000 8 1 One
    ∷ Event 1_000_000 9 3 One
    ∷ []

row_run : IsRun loop 2_000_000 10 state_0 happened state_14 (DeltaPassed 1_000_000)
row_run =
    let from_11 = goes_on step_11 (goes_on step_12 (goes_on step_13 (goes_on step_14 (passes limit_passed)))) in
    let from_7 = goes_on step_7 (goes_on step_8 (goes_on step_9 (goes_on step_10 from_11))) in
    let from_3 = goes_on step_3 (goes_on step_4 (goes_on step_5 (goes_on step_6 from_7))) in
    let from_1 = goes_on step_1 (goes_on step_2 from_3) in
    from_1

row_lines :
    run_lines loop happened
    ≡ init (codes "en") U
    ∷ init (codes "q") U
    ∷ event 0 1 (codes "en") Zero
    ∷ event 0 1 (codes "q") X
    ∷ event 0 2 (codes "q") U
    ∷ event 0 3 (codes "q") One
    ∷ event 1_000_000 0 (codes "en") One
    ∷ event 1_000_000 2 (codes "q") Zero
    ∷ event 1_000_000 4 (codes "q") One
    ∷ event 1_000_000 6 (codes "q") Zero
    ∷ event 1_000_000 8 (codes "q") One
    ∷ []
row_lines = refl
