-- Worked rows of runs of ports alone, by computation. Times are in femtoseconds.
use Rattle.std.proofs.Common.{◌≡◌, ℕ, List, [], ◌∷◌, Option, Some, refl}
use Rattle.std.specs.Prelude.{true, codes}
use Rattle.std.specs.Option.{option_map}
use Rattle.vital_base.specs.declared.ports.PortBit.{PortBit}
use Rattle.vital_logic.specs.declared.level.Level.{Level}
use Rattle.vital_logic.specs.declared.level.Level.TheVariants.{U, Zero, One, Z}
use Rattle.vital_stim.specs.declared.stimuli.StimLine.{StimLine}
use Rattle.vital_kernel.specs.DesignNetworks.{network}
use Rattle.vital_kernel.specs.Lines.{run_lines}
use Rattle.vital_report.specs.Lines.{Said, event, init}
use Rattle.vital_kernel.specs.Networks.{Network}
use Rattle.vital_kernel.specs.PortNetworks.{port_design}
use Rattle.vital_kernel.specs.Runs.{End, Ended, Run, whole_run}
use Rattle.vital_base.specs.declared.watch.Watch.TheVariants.{All}

-- Inputs a and b; they begin as U, and as 0 by the default of b.
abbrev ports : List PortBit
ports = record { name = codes "a"; input = true; initial = 85 } ∷ record { name = codes "b"; input = true; initial = 48 } ∷ []

abbrev line : ℕ → ℕ → Level → StimLine
line time number value = record { time = time; port = number; value = value }

abbrev Told : Type 0
Told = List Said × End

-- The lines of a run, and its end.
abbrev told : Network → Run → Told
told n r = (run_lines n r.happened, r.end)

-- What is told of stimuli up to an end time.
abbrev played : List StimLine → ℕ → Option Told
played lines until = let n = network (port_design ports) [] lines All in option_map (told n) (whole_run n lines until 1_000)

abbrev told_then : List Said → Option Told
told_then events = Some (init (codes "a") U ∷ init (codes "b") Zero ∷ events, Ended)

-- At 20,000 b gets the value that it has, and at 30,000 the run has ended.
row_events :
    played (line 0 0 Zero ∷ line 0 1 One ∷ line 10_000 0 One ∷ line 20_000 1 One ∷ line 30_000 0 Z ∷ []) 25_000
    ≡ told_then (event 0 1 (codes "a") Zero ∷ event 0 1 (codes "b") One ∷ event 10_000 0 (codes "a") One ∷ [])
row_events = refl

-- Of two stimuli for one time the later one counts. No line names b.
row_twice_at_one_time :
    played (line 0 0 One ∷ line 5_000_000 0 One ∷ line 5_000_000 0 Zero ∷ []) 5_000_000
    ≡ told_then (event 0 1 (codes "a") One ∷ event 5_000_000 0 (codes "a") Zero ∷ [])
row_twice_at_one_time = refl

-- The cycle at the end time comes, and none behind it.
row_end_time : played (line 5_000_000 0 One ∷ line 5_000_001 0 Zero ∷ []) 5_000_000 ≡ told_then (event 5_000_000 0 (codes "a") One ∷ [])
row_end_time = refl

-- A stimulus after the end time.
row_late : played (line 0 0 One ∷ line 9_000_000 1 One ∷ []) 5_000_000 ≡ told_then (event 0 1 (codes "a") One ∷ [])
row_late = refl

row_nothing : played [] 0 ≡ told_then []
row_nothing = refl
