use Rattle.std.proofs.Common.{◌∙◌, map, take, drop, ap, rules}
use Rattle.std.specs.List.{enumerate_from}
use Rattle.vital_connections.specs.Objects.{bits_of_all, lent}
use Rattle.vital_instances.specs.Units.{lent as lent'}
use Rattle.vital_netlist.proofs.DesignUnitLemmas.{unit_made}
use Rattle.vital_netlist.proofs.unit.Unit.new.Goals as goal

pub returns : goal.returns
returns c =
    unit_made c.args.cells.now.files c.args.entity (lent' c.args.unit) _ c.requires.unit (search rules)
    (c.lesser-ports.ensures.least ∙ (cc))
    c.in_ok-objects.ensures
    (c.in_ok-port_bits.ensures ∙ ap (λ os. bits_of_all (enumerate_from 0 (map lent os))) c.split_at.ensures.front ∙ ap (λ os. bits_of_all (enumerate_from 0 (map lent (take c.lesser-ports.result os)))) c.deref.ensures.value)
    (c.in_ok-signal_bits.ensures ∙ ap (λ os. bits_of_all (enumerate_from c.lesser-ports.result (map lent os))) c.split_at.ensures.back ∙ ap (λ os. bits_of_all (enumerate_from c.lesser-ports.result (map lent (drop c.lesser-ports.result os)))) c.deref.ensures.value)
    c.in_ok-driven.ensures
