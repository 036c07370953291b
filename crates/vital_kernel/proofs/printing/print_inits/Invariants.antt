use Rattle.std.proofs.Common.{map, drop}
use Rattle.std.specs.List.{flat_map, zip}
use Rattle.vital_kernel.specs.Activations.{init_text}
use Rattle.vital_kernel.proofs.Texts.{Left}
use Rattle.vital_kernel.proofs.printing.print_inits.Given as goal

abbrev pub invariant-loop-number : goal.invariant-loop-number
invariant-loop-number g l =
    let items = zip l.watched (map (λ s. s.value) l.signals.signals) in
    Left l.fn.printer (flat_map init_text items) (flat_map init_text (drop l.number items)) l.printer
