use Rattle.std.proofs.Common.{List, [], length, map, ap, ◌∙◌}
use Rattle.std.specs.List.{flat_map}
use Rattle.vital_kernel.specs.Sensitivities.{sensitivities_of}
use Rattle.vital_kernel.proofs.SensitivityLemmas.{of-network}
use Rattle.vital_kernel.proofs.TriggeredLemmas.{state-made}
use Rattle.vital_kernel.proofs.listeners.Listeners.new.Goals as goal
use Rattle.vital_kernel.specs.Networks.{NetCell, processes, sensitivity}
use Rattle.vital_kernel.specs.declared.network.NetSignal.{NetSignal}
use Rattle.vital_signals.specs.Lists.{NumberList}

pub returns : goal.returns
returns c =
    let n = c.args.network.now in
    state-made (length c.in_ok-lists.lists.items) (length n.signals) c.in_ok-sensitivities.sensitivities.items (map sensitivity (processes n)) c.in_ok-triggered.triggered.listed []
    (c.in_ok-lists.ensures.all ∙ ap (λ (ss : List NetSignal). length ss) c.signals.ensures.signals)
    (c.in_ok-sensitivities.ensures ∙ ap (λ (cs : List NetCell). flat_map sensitivities_of cs) c.cells.ensures.cells ∙ of-network n)
    (ap (λ (ns : NumberList). ns.listed) c.in_ok-triggered.ensures)
