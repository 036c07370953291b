use Rattle.std.proofs.Common.{◌∙◌, ap}
use Rattle.vital_stim.specs.GivenPorts.{number_of}
use Rattle.vital_stim.proofs.given_ports.GivenPorts.number.Goals as goal

pub returns : goal.returns
returns c =
    c.copied.ensures ∙ c.get.ensures.value ∙ c.self.invariant c.args.name.now ∙ ap (λ ports. number_of ports c.args.name.now) c.self.view_is
