use Rattle.std.proofs.Common.{sym, subst}
use Rattle.vital_cell.specs.Compiled.{IsSoundIn, values_in}
use Rattle.vital_cell.proofs.CellProcessLemmas.{sound-in-values}
use Rattle.vital_cell.specs.Scopes.{Scope}
use Rattle.vital_cell.proofs.processes.cell_process.Goals as goal

pub plain_process-requires-clause-sound : goal.plain_process-requires-clause-sound
plain_process-requires-clause-sound c =
    let p = c.args.process.now in
    let known = c.requires.known in
    let P : Scope → Type 0 = λ q. IsSoundIn (values_in q p) p in
    subst P (sym known.is_scope) (sound-in-values c.args.cell.now known.values p c.requires.sound c.requires.sound_process known.fit)
