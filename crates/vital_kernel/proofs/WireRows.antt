-- Worked rows of runs of wires, by computation: deltas, preemption, and what drives a signal. Times are in femtoseconds.
use Rattle.std.proofs.Common.{◌≡◌, [], ◌∷◌, Some, refl}
use Rattle.std.specs.Prelude.{codes}
use Rattle.vital_logic.specs.declared.level.Level.TheVariants.{U, X, Zero, One, Z}
use Rattle.vital_netlist.specs.Designs.{Design}
use Rattle.vital_report.specs.Lines.{event, init}
use Rattle.vital_kernel.specs.Runs.{DeltaPassed, Ended}
use Rattle.vital_base.specs.declared.watch.Watch.TheVariants.{All, Ports}
use Rattle.vital_kernel.proofs.RowParts.{drives, input_port, instance, line, net, simulated, tipd, top, top_cell, wire_cell}

-- ---- one wire

-- A wire as the top.
abbrev one_wire : Design
one_wire = record {
  instances = top_cell ∷ [];
  signals = net 0 (codes "a") U ∷ net 0 (codes "a_ipd") U ∷ [];
  drivers = drives 1 U ∷ [];
  ports = input_port (codes "a") U ∷ [];
  cells = wire_cell ∷ [];
  wiring = (0 ∷ 1 ∷ []) ∷ [];
}

-- A wire without a delay takes a delta.
row_no_delay :
    simulated one_wire (tipd 0 0 ∷ []) All (line 0 0 One ∷ []) 1_000_000 1_000
    ≡ Some (init (codes "a") U ∷ init (codes "a_ipd") U ∷ event 0 1 (codes "a") One ∷ event 0 2 (codes "a_ipd") One ∷ [], Ended)
row_no_delay = refl

-- Where the bits of the top's ports are watched, its internal signal is not.
row_watched_ports :
    simulated one_wire (tipd 0 0 ∷ []) Ports (line 0 0 One ∷ []) 1_000_000 1_000
    ≡ Some (init (codes "a") U ∷ event 0 1 (codes "a") One ∷ [], Ended)
row_watched_ports = refl

-- U is sent at first, for 100,000; the rise at 0 takes its place. The fall at 1,000,000 would come at 1,300,000, and the rise at 1,150,000
-- comes at 1,250,000, with the value that is there.
row_preemption :
    simulated one_wire (tipd 100_000 300_000 ∷ []) All (line 0 0 One ∷ line 1_000_000 0 Zero ∷ line 1_150_000 0 One ∷ []) 2_000_000 1_000
    ≡ Some (
      init (codes "a") U
          ∷ init (codes "a_ipd") U
          ∷ event 0 1 (codes "a") One
          ∷ event 100_000 0 (codes "a_ipd") One
          ∷ event 1_000_000 0 (codes "a") Zero
          ∷ event 1_150_000 0 (codes "a") One
          ∷ [],
      Ended,
    )
row_preemption = refl

-- By transport a short pulse passes; what comes at the end time is told, and what comes behind it is not.
row_pulse :
    simulated one_wire (tipd 100_000 100_000 ∷ []) All (line 0 0 One ∷ line 10 0 Zero ∷ line 20 0 One ∷ []) 100_010 1_000
    ≡ Some (
      init (codes "a") U
          ∷ init (codes "a_ipd") U
          ∷ event 0 1 (codes "a") One
          ∷ event 10 0 (codes "a") Zero
          ∷ event 20 0 (codes "a") One
          ∷ event 100_000 0 (codes "a_ipd") One
          ∷ event 100_010 0 (codes "a_ipd") Zero
          ∷ [],
      Ended,
    )
row_pulse = refl

-- ---- two wires

-- Two wires from p and from q drive w.
abbrev two_drivers : Design
two_drivers = record {
  instances = top ∷ instance (codes "u1") ∷ instance (codes "u2") ∷ [];
  signals = net 0 (codes "p") U ∷ net 0 (codes "q") U ∷ net 0 (codes "w") U ∷ [];
  drivers = drives 2 U ∷ drives 2 U ∷ [];
  ports = input_port (codes "p") U ∷ input_port (codes "q") U ∷ [];
  cells = wire_cell ∷ [];
  wiring = (0 ∷ 2 ∷ []) ∷ (1 ∷ 2 ∷ []) ∷ [];
}

-- 1 and Z are 1 together, and 1 and 0 are X.
row_resolved :
    simulated two_drivers (tipd 0 0 ∷ tipd 0 0 ∷ []) All (line 0 0 One ∷ line 0 1 Z ∷ line 5 1 Zero ∷ []) 9 1_000
    ≡ Some (
      init (codes "p") U
          ∷ init (codes "q") U
          ∷ init (codes "w") U
          ∷ event 0 1 (codes "p") One
          ∷ event 0 1 (codes "q") Z
          ∷ event 0 2 (codes "w") One
          ∷ event 5 0 (codes "q") Zero
          ∷ event 5 1 (codes "w") X
          ∷ [],
      Ended,
    )
row_resolved = refl

-- A wire from a to v, and one from an open port to w, which runs once: nothing comes of it.
abbrev open_port : Design
open_port = record {
  instances = top ∷ instance (codes "u1") ∷ instance (codes "u2") ∷ [];
  signals = net 0 (codes "a") U ∷ net 0 (codes "v") U ∷ net 0 (codes "w") U ∷ net 2 (codes "a") U ∷ [];
  drivers = drives 1 U ∷ drives 2 U ∷ [];
  ports = input_port (codes "a") U ∷ [];
  cells = wire_cell ∷ [];
  wiring = (0 ∷ 1 ∷ []) ∷ (3 ∷ 2 ∷ []) ∷ [];
}

row_open :
    simulated open_port (tipd 0 0 ∷ tipd 0 0 ∷ []) All (line 0 0 One ∷ []) 9 1_000
    ≡ Some (
      init (codes "a") U
          ∷ init (codes "v") U
          ∷ init (codes "w") U
          ∷ init (codes "u2.a") U
          ∷ event 0 1 (codes "a") One
          ∷ event 0 2 (codes "v") One
          ∷ [],
      Ended,
    )
row_open = refl

-- Each of two wires without a delay drives the port of the other: their values change places in each delta.
abbrev ring : Design
ring = record {
  instances = top ∷ instance (codes "u1") ∷ instance (codes "u2") ∷ [];
  signals = net 0 (codes "p") U ∷ net 0 (codes "q") U ∷ [];
  drivers = drives 1 Zero ∷ drives 0 One ∷ [];
  ports = [];
  cells = wire_cell ∷ [];
  wiring = (0 ∷ 1 ∷ []) ∷ (1 ∷ 0 ∷ []) ∷ [];
}

-- The cycle of delta number 4 does not begin.
row_delta_limit :
    simulated ring (tipd 0 0 ∷ tipd 0 0 ∷ []) All [] 9 4
    ≡ Some (
      init (codes "p") One
          ∷ init (codes "q") Zero
          ∷ event 0 1 (codes "p") Zero
          ∷ event 0 1 (codes "q") One
          ∷ event 0 2 (codes "p") One
          ∷ event 0 2 (codes "q") Zero
          ∷ event 0 3 (codes "p") Zero
          ∷ event 0 3 (codes "q") One
          ∷ [],
      DeltaPassed 0,
    )
row_delta_limit = refl

-- With the least limit there is the initial run alone.
row_least_limit : simulated ring (tipd 0 0 ∷ tipd 0 0 ∷ []) All [] 9 1 ≡ Some (init (codes "p") One ∷ init (codes "q") Zero ∷ [], DeltaPassed 0)
row_least_limit = refl

-- With a delay each event is at a time of its own, in delta 0.
row_times :
    simulated ring (tipd 3 3 ∷ tipd 3 3 ∷ []) All [] 8 1
    ≡ Some (
      init (codes "p") One
          ∷ init (codes "q") Zero
          ∷ event 3 0 (codes "p") Zero
          ∷ event 3 0 (codes "q") One
          ∷ event 6 0 (codes "p") One
          ∷ event 6 0 (codes "q") Zero
          ∷ [],
      Ended,
    )
row_times = refl

-- ---- a wire from a port that is tied to 1

-- It drives y, an inout port of the top.
abbrev tied : Design
tied = record {
  instances = top ∷ instance (codes "u1") ∷ [];
  signals = net 0 (codes "y") U ∷ net 1 (codes "a") One ∷ [];
  drivers = drives 0 U ∷ [];
  ports = input_port (codes "y") U ∷ [];
  cells = wire_cell ∷ [];
  wiring = (1 ∷ 0 ∷ []) ∷ [];
}

-- Where no line names y, the wire alone drives it.
row_tied :
    simulated tied (tipd 0 0 ∷ []) All [] 5 1_000
    ≡ Some (init (codes "y") U ∷ init (codes "u1.a") One ∷ event 0 1 (codes "y") One ∷ [], Ended)
row_tied = refl

-- A line after the end time names it, so that U takes part from the start.
row_inout : simulated tied (tipd 0 0 ∷ []) Ports (line 9 0 Z ∷ []) 5 1_000 ≡ Some (init (codes "y") U ∷ [], Ended)
row_inout = refl

-- Z leaves the value of the wire.
row_inout_released :
    simulated tied (tipd 0 0 ∷ []) Ports (line 4 0 Z ∷ []) 5 1_000
    ≡ Some (init (codes "y") U ∷ event 4 0 (codes "y") One ∷ [], Ended)
row_inout_released = refl
