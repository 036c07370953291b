use Rattle.std.proofs.Common.{get_or, sym, ◌∙◌, ap}
use Rattle.vital_base.specs.declared.ports.PortBit.{PortBit}
use Rattle.vital_stim.proofs.GivenLemmas.{told-first, told-none}
use Rattle.vital_stim.proofs.given_ports.GivenPorts.input.Goals as goal

pub returns-in_default-clause-told : goal.returns-in_default-clause-told
returns-in_default-clause-told c = λ stimulus named. told-none c.args.self.now c.args.name.now stimulus (sym c.number.ensures ∙ c.in_default.is) named

pub returns-then-self-number-clause-told : goal.returns-then-self-number-clause-told
returns-then-self-number-clause-told c = λ stimulus named.
    let port = c.index-self-number.result in
    told-first c.args.self.now c.args.name.now c.in-Some.number port _ stimulus (sym c.number.ensures ∙ c.in-Some.is) (c.index-self-number.is ∙ ap (λ ports. get_or ports c.in-Some.number port) c.self.view_is) (ap (λ (p : PortBit). p.input) c.index-self-number.is ∙ c.if-self-number.true) named

pub returns-else-self-number-clause-told : goal.returns-else-self-number-clause-told
returns-else-self-number-clause-told c = λ stimulus named.
    let port = c.index-self-number.result in
    told-first c.args.self.now c.args.name.now c.in-Some.number port _ stimulus (sym c.number.ensures ∙ c.in-Some.is) (c.index-self-number.is ∙ ap (λ ports. get_or ports c.in-Some.number port) c.self.view_is) (ap (λ (p : PortBit). p.input) c.index-self-number.is ∙ c.if-self-number.false) named
