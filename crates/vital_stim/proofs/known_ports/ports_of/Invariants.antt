use Rattle.std.proofs.Common.{◌≡◌, ◌++◌, map}
use Rattle.vital_stim.specs.Stimuli.{input_port}
use Rattle.vital_stim.proofs.known_ports.ports_of.Given as goal

abbrev pub invariant-loop-name : goal.invariant-loop-name
invariant-loop-name l = l.ports.items ++ map (λ key. input_port key.items) l.name-iterator ≡ map (λ key. input_port key.items) l.fn.names.keys
