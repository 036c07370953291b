use Rattle.std.proofs.Common.{◌∙◌}
use Rattle.vital_stim.proofs.builder.StimuliBuilder.build.Goals as goal

pub returns : goal.returns
returns c = λ given stimuli held.
    let ports = c.in_ok-into_ports.ensures ∙ held.ports in
    let lines = c.new.ensures ∙ held.lines in
    rw (ports, lines)
