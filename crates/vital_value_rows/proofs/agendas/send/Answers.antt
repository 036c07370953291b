use Rattle.std.proofs.Common.{subst, sym}
use Rattle.vital_agenda.specs.Agendas.{Content}
use Rattle.vital_signals.specs.SignalStates.{AreCurrent}
use Rattle.vital_value_rows.proofs.agendas.send.Goals as goal

pub returns-in_ok-assign : goal.returns-in_ok-assign
returns-in_ok-assign g c =
    let before = g.A.Agenda.content c.args.agenda.now in
    record {
      current =
          subst (λ (content : Content). AreCurrent c.args.signals.now content.drivers) (sym c.in_ok-assign.ensures.ok)
          (c.assignments_keep_values.ensures c.args.signals.now c.args.driver c.args.kind c.args.value c.args.delay before c.requires.current);
    }
