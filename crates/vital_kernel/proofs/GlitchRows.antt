-- Worked rows of one cycle in which two buffers find a glitch: messages and preemption. Times are in femtoseconds.
use Rattle.std.proofs.Common.{◌≡◌, ℕ, List, [], ◌∷◌, Some, None, refl}
use Rattle.std.specs.Prelude.{Bool, false, true, codes}
use Rattle.vital_agenda.specs.Driver.{Driver}
use Rattle.vital_agenda.specs.declared.transaction.Transaction.{Transaction}
use Rattle.vital_base.specs.declared.kind.Kind.TheVariants as kinds
use Rattle.vital_cell.specs.Variables.{Slot}
use Rattle.vital_logic.specs.declared.level.Level.TheVariants.{U, X, Zero, One}
use Rattle.vital_machine.specs.declared.effect.Effect.TheVariants as effect
use Rattle.vital_netlist.specs.Designs.{Design}
use Rattle.vital_timing.specs.declared.glitch_mode.GlitchMode.{GlitchMode}
use Rattle.vital_timing.specs.declared.glitch_mode.GlitchMode.TheVariants.{Inertial, OnDetect, OnEvent, Transport}
use Rattle.vital_timing_checks.specs.declared.violated.CheckKind.TheVariants.{Pulse, Setup}
use Rattle.vital_timing_checks.specs.declared.violated.Violated.{Violated}
use Rattle.vital_typed_cells.proofs.TreeLemmas.{level-signal}
use Rattle.vital_kernel.specs.Cycles.{Event, Glitch, Happening, Violation, said, sent}
use Rattle.vital_kernel.specs.DesignNetworks.{network}
use Rattle.vital_kernel.specs.Lines.{lines_of}
use Rattle.vital_report.specs.Lines.{glitch, violation}
use Rattle.vital_kernel.specs.Networks.{Network}
use Rattle.vital_kernel.specs.Runs.{Step, cycle, step}
use Rattle.vital_kernel.specs.States.{State}
use Rattle.vital_signals.specs.declared.signal.Signal.{Signal}
use Rattle.vital_base.specs.declared.watch.Watch.TheVariants.{All}
use Rattle.vital_kernel.proofs.BufferParts.{at, buffer, delays_of, driver, kept, since, truth-literal, variables_of}
use Rattle.vital_kernel.proofs.RowParts.{drives, input_port, instance, line, net, top}

-- Two buffers from a, one to y and one to z. There are drivers for the stimuli of a, and for a_ipd and the output of each buffer.
abbrev design : GlitchMode → Bool → Design
design mode x_on = record {
  instances = top ∷ instance (codes "u1") ∷ instance (codes "u2") ∷ [];
  signals =
      net 0 (codes "a") U
      ∷ net 0 (codes "y") U
      ∷ net 0 (codes "z") U
      ∷ net 1 (codes "a_ipd") U
      ∷ net 2 (codes "a_ipd") U
      ∷ [];
  drivers = drives 3 U ∷ drives 1 U ∷ drives 4 U ∷ drives 2 U ∷ [];
  ports = input_port (codes "a") U ∷ [];
  cells = buffer mode x_on ∷ [];
  wiring = (0 ∷ 1 ∷ 3 ∷ []) ∷ (0 ∷ 2 ∷ 4 ∷ []) ∷ [];
}

abbrev buffers : GlitchMode → Bool → Network
buffers mode x_on = network (design mode x_on) (delays_of 1_000_000 0 ∷ delays_of 1_000_000 0 ∷ []) (line 0 0 One ∷ []) All

-- The delta number, the drivers and the signals of a_ipd and the drivers of the outputs, and what the path delays keep.
abbrev state : ℕ → Driver → Signal → Driver → Slot → State
state delta a_ipd wired output g = record {
  now = 10_400_000;
  delta = delta;
  drivers = driver Zero [] ∷ a_ipd ∷ output ∷ a_ipd ∷ output ∷ [];
  signals = since 10_400_000 One Zero ∷ since 1_000_000 U Zero ∷ since 1_000_000 U Zero ∷ wired ∷ wired ∷ [];
  variables = variables_of g ∷ variables_of g ∷ [];
}

-- Both outputs are to rise at 11,000,000, after 1,000,000; and both a_ipd are to fall now.
abbrev before : State
before = state 0 (driver One (at 10_400_000 Zero ∷ [])) (since 10_000_000 Zero One) (driver Zero (at 11_000_000 One ∷ [])) (kept 11_000_000 11_000_000 One One)

-- The events of a_ipd come first, and then these messages; and then this is to come of both outputs.
abbrev then : List Happening → List Transaction → Step
then messages pending =
    cycle (Event 10_400_000 1 3 Zero ∷ Event 10_400_000 1 4 Zero ∷ messages)
    (state 1 (driver Zero []) (since 10_400_000 One Zero) (driver Zero pending) (kept 11_400_000 11_000_000 Zero Zero))

-- Those of the instances come in their order.
abbrev glitches : List Happening
glitches = Glitch 10_400_000 1 0 1 ∷ Glitch 10_400_000 1 1 1 ∷ []

-- X comes when the rise was to come.
row_on_event : step (buffers OnEvent true) 20_000_000 1_000 before ≡ then glitches (at 11_000_000 X ∷ at 11_400_000 Zero ∷ [])
row_on_event = simp (truth-literal, level-signal)

-- X comes at once, in the next delta.
row_on_detect : step (buffers OnDetect true) 20_000_000 1_000 before ≡ then glitches (at 10_400_000 X ∷ at 11_400_000 Zero ∷ [])
row_on_detect = simp (truth-literal, level-signal)

-- Without XOn the fall preempts the rise.
row_no_x : step (buffers OnEvent false) 20_000_000 1_000 before ≡ then glitches (at 11_400_000 Zero ∷ [])
row_no_x = simp (truth-literal, level-signal)

-- So it does by VitalInertial, without a message.
row_inertial : step (buffers Inertial true) 20_000_000 1_000 before ≡ then [] (at 11_400_000 Zero ∷ [])
row_inertial = simp (truth-literal, level-signal)

-- By VitalTransport both come.
row_transport : step (buffers Transport true) 20_000_000 1_000 before ≡ then [] (at 11_000_000 One ∷ at 11_400_000 Zero ∷ [])
row_transport = simp (truth-literal, level-signal)

-- ---- messages, as they are told

row_glitch_line : lines_of (buffers OnEvent true) (Glitch 10_400_000 1 1 1) ≡ glitch 10_400_000 1 (codes "u2") (codes "y") ∷ []
row_glitch_line = refl

abbrev pulse : Violated
pulse = record { kind = Pulse; observed = 4; limit = 5 }

abbrev setup : Violated
setup = record { kind = Setup; observed = 4; limit = 5 }

-- The effects of the process of an instance, by its number.
row_said : said 9 2 1 (effect.Violation 0 (Some 2) setup) ≡ Violation 9 2 1 0 (Some 2) setup ∷ []
row_said = refl

row_sent : sent 5 2 (driver U [] ∷ driver U [] ∷ driver U [] ∷ []) (effect.Violation 0 None pulse) ≡ driver U [] ∷ driver U [] ∷ driver U [] ∷ []
row_sent = refl

row_assigned :
    sent 5 1 (driver U [] ∷ driver U [] ∷ driver U [] ∷ []) (effect.Assign 1 (record { kind = kinds.Inertial; value = One; delay = 4 }))
    ≡ driver U [] ∷ driver U [] ∷ driver U (at 9 One ∷ []) ∷ []
row_assigned = refl

row_violation_line : lines_of (buffers OnEvent true) (Violation 9 2 0 0 None pulse) ≡ violation 9 2 (codes "u1") (codes "a") None pulse ∷ []
row_violation_line = refl

-- Internal signals come behind the ports.
row_violation_of_two :
    lines_of (buffers OnEvent true) (Violation 9 2 0 0 (Some 2) setup)
    ≡ violation 9 2 (codes "u1") (codes "a") (Some (codes "a_ipd")) setup ∷ []
row_violation_of_two = refl
