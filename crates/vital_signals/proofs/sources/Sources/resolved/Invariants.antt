use Rattle.std.proofs.Common.{◌≡◌, fold, length, get_or}
use Rattle.vital_agenda.specs.Driver.{currents}
use Rattle.vital_logic.specs.Tables.{entry_at, resolution_table}
use Rattle.vital_logic.specs.declared.level.Level.TheVariants.{Z}
use Rattle.vital_signals.proofs.SourceLemmas.{IsDriverOf, left_from, values_at}
use Rattle.vital_signals.proofs.sources.Sources.resolved.Given as goal

abbrev pub invariant-loop-at : goal.invariant-loop-at
invariant-loop-at g l = record {
  here : IsDriverOf 0 (get_or l.self.signals_of l.initial.driver 0) l.at l.self.signals_of;
  left : fold (entry_at resolution_table) l.value (values_at (get_or l.self.signals_of l.initial.driver 0) l.at l.self.signals_of (currents (g.A.Agenda.content l.agenda).drivers))
      ≡ fold (entry_at resolution_table) Z (values_at (get_or l.self.signals_of l.initial.driver 0) l.initial.at l.self.signals_of (currents (g.A.Agenda.content l.agenda).drivers));
}

abbrev pub decreases-loop-at : goal.decreases-loop-at
decreases-loop-at g l = left_from l.at (length l.self.signals_of)
