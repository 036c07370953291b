use Rattle.std.proofs.Common.{drop}
use Rattle.std.specs.List.{flat_map}
use Rattle.vital_kernel.specs.Activations.{event_text_at}
use Rattle.vital_kernel.proofs.Texts.{Left}
use Rattle.vital_kernel.proofs.printing.print_events.Given as goal

abbrev pub invariant-loop-number : goal.invariant-loop-number
invariant-loop-number g l =
    let text = event_text_at l.time l.delta l.watched l.signals.signals in
    Left l.fn.printer (flat_map text l.signals.events) (flat_map text (drop l.number-index l.signals.events)) l.printer
