-- The ports that are known while lines are read.
use Rattle.std.specs.Prelude.{ℕ, List, [], ◌∷◌, ◌++◌, map, Option, Some, None, Result, Ok, Err, if◌then◌else◌}
use Rattle.std.specs.List.{list_any}
use Rattle.vital_base.specs.declared.ports.PortBit.{PortBit}
use Rattle.vital_stim.specs.Names.{texts, names_count}
use Rattle.vital_stim.specs.Stimuli.{Stimulus, is_named, input_port}
use Rattle.vital_stim.specs.declared.fault.StimWhy.{StimWhy}
use Rattle.vital_stim.specs.declared.known_ports.KnownPorts.{KnownPorts}
use Rattle.vital_stim.specs.declared.known_ports.KnownPorts.TheVariants.{Named, Given}

-- The ports that are given, or none.
abbrev pub given_in : KnownPorts → Option (List PortBit)
given_in (Named names) = None
given_in (Given ports) = Some ports

abbrev pub ports_in : KnownPorts → List PortBit
ports_in (Named names) = map input_port (texts names)
ports_in (Given ports) = ports

-- How many names were put.
abbrev pub named_count : KnownPorts → ℕ
named_count (Named names) = names_count names
named_count (Given ports) = 0

-- The ports with one more of this name at the end, unless one of them has it.
abbrev pub with_port : List PortBit → List ℕ → List PortBit
with_port ports name = if list_any (is_named name) ports then ports else ports ++ input_port name ∷ []

-- What is answered of a stimulus: it stands, or the test that it fails.
abbrev pub as_told : {A : Type 0} → Stimulus → Result A StimWhy → Result Stimulus StimWhy
as_told stimulus (Ok x) = Ok stimulus
as_told stimulus (Err why) = Err why
