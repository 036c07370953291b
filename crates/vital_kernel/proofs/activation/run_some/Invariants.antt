use Rattle.std.proofs.Common.{drop}
use Rattle.std.specs.List.{filter_map}
use Rattle.std.specs.Prelude.{slice_get}
use Rattle.vital_kernel.specs.Activations.{CanRun, KeepsValues, from_state, state_of, text_in}
use Rattle.vital_kernel.specs.Cycles.{all_activated}
use Rattle.vital_kernel.proofs.Activations.{ToRun}
use Rattle.vital_kernel.specs.Networks.{processes}
use Rattle.vital_kernel.proofs.activation.run_some.Given as goal

abbrev pub invariant-loop-process : goal.invariant-loop-process
invariant-loop-process g l =
    let n = l.network in
    let at = slice_get (processes n) in
    let ps = filter_map at l.numbers in
    let before = state_of (g.A.Agenda.content l.fn.agenda) l.delta l.signals.signals l.fn.processes.variables in
    let whole = all_activated ps (from_state before) in
    record {
      to_run : ToRun n whole.state l.fn.printer (text_in n whole.happened) (filter_map at (drop l.process-index l.numbers)) (state_of (g.A.Agenda.content l.agenda) l.delta l.signals.signals l.processes.variables) l.printer;
      keeps : KeepsValues (g.A.Agenda.content l.fn.agenda) (g.A.Agenda.content l.agenda);
      can_run : CanRun n (g.A.Agenda.content l.agenda) l.signals l.processes;
    }
