use Rattle.std.proofs.Common.{◌∙◌, length, ap, sym, arith}
use Rattle.vital_kernel.proofs.NameLemmas.{port_at, signal_at}
use Rattle.vital_objects.specs.declared.port.Port.{Port}
use Rattle.vital_objects.specs.declared.signal.Signal.{Signal}
use Rattle.vital_kernel.proofs.printing.name_of.Goals as goal

pub returns-then-number-ports : goal.returns-then-number-ports
returns-then-number-ports c =
    c.as_slice.ensures ∙ ap (λ (p : Port). p.name) (sym c.index-ports-number.is)
    ∙ port_at c.args.cell.now c.as_slice-ports.result.now c.args.bit c.index-ports-number.result c.as_slice-ports.ensures (omega arith) c.index-ports-number.is

pub returns-else-number-ports : goal.returns-else-number-ports
returns-else-number-ports c =
    c.as_slice-else-number-ports.ensures ∙ ap (λ (s : Signal). s.name) (sym c.index-signals-number.is)
    ∙ signal_at c.args.cell.now c.as_slice-ports.result.now c.as_slice-signals.result.now c.args.bit c.index-signals-number.result c.as_slice-ports.ensures c.as_slice-signals.ensures (omega arith)
    (omega (arith, c.requires, ap length c.as_slice-ports.ensures, ap length c.as_slice-signals.ensures)) c.index-signals-number.is
