-- What a builder of stimuli holds.
use Rattle.std.specs.Prelude.{◌≡◌, ℕ, List, map, Option}
use Rattle.vital_base.specs.declared.ports.PortBit.{PortBit}
use Rattle.vital_stim.specs.KnownPorts.{given_in, ports_in, named_count}
use Rattle.vital_stim.specs.Spellings.{Remembers}
use Rattle.vital_stim.specs.Stimuli.{Stimulus, ports_for, line_among}
use Rattle.vital_stim.specs.declared.builder.StimuliBuilder.{StimuliBuilder}

-- These ports were given, or none, and these stimuli were put, in this order.
pub record Holds (given : Option (List PortBit)) (builder : StimuliBuilder) (stimuli : List Stimulus) : Type 0 where
  pub known : given_in builder.ports ≡ given
  pub ports : ports_in builder.ports ≡ ports_for given stimuli
  pub lines : builder.lines.items ≡ map (line_among (ports_for given stimuli)) stimuli
  pub spellings : Remembers given (ports_in builder.ports) builder.spellings

-- How many ports were put, beside given ones.
abbrev pub port_count : StimuliBuilder → ℕ
port_count builder = named_count builder.ports
