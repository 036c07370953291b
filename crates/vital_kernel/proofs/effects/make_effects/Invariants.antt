use Rattle.std.proofs.Common.{◌≡◌, drop}
use Rattle.std.specs.List.{flat_map, fold}
use Rattle.vital_kernel.specs.Activations.{KeepsValues, message_text}
use Rattle.vital_kernel.specs.Cycles.{sent}
use Rattle.vital_kernel.proofs.Texts.{Left}
use Rattle.vital_kernel.specs.Networks.{lent_cell}
use Rattle.vital_kernel.proofs.effects.make_effects.Given as goal

abbrev pub invariant-loop-number : goal.invariant-loop-number
invariant-loop-number g l =
    let start = g.A.Agenda.content l.fn.agenda in
    let cell = lent_cell l.cell in
    let effects = l.processes.effects in
    record {
      sent : fold (sent start.now cell.first_driver) (g.A.Agenda.content l.agenda).drivers (drop l.number effects) ≡ fold (sent start.now cell.first_driver) start.drivers effects;
      keeps : KeepsValues start (g.A.Agenda.content l.agenda);
      left : Left l.fn.printer (flat_map (message_text start.now l.delta cell) effects) (flat_map (message_text start.now l.delta cell) (drop l.number effects)) l.printer;
    }
