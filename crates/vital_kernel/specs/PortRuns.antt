-- A run of ports alone.
use Rattle.std.specs.Prelude.{◌≡◌, ℕ, List}
use Rattle.vital_base.specs.declared.ports.PortBit.{PortBit}
use Rattle.vital_kernel.specs.Runs.{Ended, IsWholeRun, Run}
use Rattle.vital_kernel.specs.PortNetworks.{port_network}
use Rattle.vital_stim.specs.declared.stimuli.StimLine.{StimLine}

-- The run of the ports ends at its end time, and not at the limit of delta numbers.
pub record IsPortRun (ports : List PortBit) (lines : List StimLine) (until limit : ℕ) (r : Run) : Type 0 where
  pub is : IsWholeRun (port_network ports) lines until limit r
  pub ends : r.end ≡ Ended
