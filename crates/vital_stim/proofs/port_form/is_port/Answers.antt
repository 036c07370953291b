use Rattle.std.proofs.Common.{◌≡◌, ◌+◌, ◌-◌, sym, ◌∙◌, ap, take, drop, length, arith}
use Rattle.std.proofs.lemmas.Grind.{common_steps}
use Rattle.vital_stim.specs.PortForm.{is_index}
use Rattle.vital_stim.proofs.PortLemmas.{is_port-opens, is_port-closed}
use Rattle.vital_stim.proofs.port_form.is_port.Goals as goal

pub returns-then-is_basic_identifier : goal.returns-then-is_basic_identifier
returns-then-is_basic_identifier c =
    let port = is_port-opens c.args.bytes.now c.in-Some.opening (sym c.first_opening.ensures ∙ c.in-Some.is) in
    let all_after : take (length c.args.bytes.now - (c.in-Some.opening + 1)) (drop (c.in-Some.opening + 1) c.args.bytes.now) ≡ drop (c.in-Some.opening + 1) c.args.bytes.now = grind (arith, common_steps) in
    rw (port, sym c.is_basic_identifier.ensures ∙ c.if-is_basic_identifier.true) (c.is_index.ensures ∙ ap is_index all_after)

pub returns-in-None : goal.returns-in-None
returns-in-None c =
    c.is_basic_identifier-in-None.ensures ∙ sym (is_port-closed c.args.bytes.now (sym c.first_opening.ensures ∙ c.in-None.is))
