use Rattle.std.proofs.Common.{◌≡◌, drop}
use Rattle.std.specs.List.{fold}
use Rattle.vital_kernel.specs.Activations.{KeepsValues}
use Rattle.vital_kernel.specs.Handing.{stimulated_by}
use Rattle.vital_kernel.proofs.stimuli.assign_lines.Given as goal

abbrev pub invariant-loop-line : goal.invariant-loop-line
invariant-loop-line g l =
    let start = g.A.Agenda.content l.fn.agenda in
    record {
      sent : fold (stimulated_by l.numbers) (g.A.Agenda.content l.agenda).drivers (drop l.line-index l.lines) ≡ fold (stimulated_by l.numbers) start.drivers l.lines;
      keeps : KeepsValues start (g.A.Agenda.content l.agenda);
    }
