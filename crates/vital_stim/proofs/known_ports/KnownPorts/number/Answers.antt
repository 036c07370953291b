use Rattle.std.proofs.Common.{◌≡◌, map, sym, ◌∙◌, ap, subst}
use Rattle.std.specs.Prelude.{OnOk}
use Rattle.std.specs.List.{position_or_len}
use Rattle.vital_stim.specs.KnownPorts.{ports_in, with_port}
use Rattle.vital_stim.specs.Names.{texts}
use Rattle.vital_stim.specs.Stimuli.{is_named, input_port}
use Rattle.vital_stim.specs.declared.known_ports.KnownPorts.{KnownPorts}
use Rattle.vital_stim.proofs.KnownLemmas.{place-named, with_port-named, given-stay}
use Rattle.vital_stim.proofs.known_ports.KnownPorts.number.Goals as goal

pub returns-in_ok-place_of-in-Named-clause-number : goal.returns-in_ok-place_of-in-Named-clause-number
returns-in_ok-place_of-in-Named-clause-number c =
    let name = c.args.name.now in
    c.in_ok-place_of-in-Named.ensures.place
    ∙ sym (place-named name (texts c.in-Named.names))
    ∙ ap (λ (known : KnownPorts). position_or_len (is_named name) (ports_in known)) (sym c.in-Named.is)

pub returns-in_ok-place_of-in-Named-clause-ports : goal.returns-in_ok-place_of-in-Named-clause-ports
returns-in_ok-place_of-in-Named-clause-ports c =
    let name = c.args.name.now in
    ap (map input_port) c.in_ok-place_of-in-Named.ensures.names
    ∙ with_port-named (texts c.in-Named.names) name
    ∙ ap (λ (known : KnownPorts). with_port (ports_in known) name) (sym c.in-Named.is)

pub returns-in-Given-clause-ports : goal.returns-in-Given-clause-ports
returns-in-Given-clause-ports c =
    let name = c.args.name.now in
    subst (λ (known : KnownPorts). OnOk c.input.result (c.in-Given.ports ≡ with_port (ports_in known) name)) (sym c.in-Given.is) (given-stay c.input.result c.in-Given.ports name c.input.ensures.told)
