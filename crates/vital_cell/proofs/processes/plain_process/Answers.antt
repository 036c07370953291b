use Rattle.std.proofs.Common.{sym, subst}
use Rattle.vital_cell.specs.Compiled.{IsMadeProcess, IsSoundIn, with_variables}
use Rattle.vital_cell.proofs.ScopeLemmas.{none-own}
use Rattle.vital_cell.specs.Scopes.{Scope, lent}
use Rattle.vital_cell.proofs.processes.plain_process.Goals as goal

pub process_in-requires-clause-sound : goal.process_in-requires-clause-sound
process_in-requires-clause-sound c =
    let p = c.args.process.now in
    let P : Scope → Type 0 = λ q. IsSoundIn q p in
    subst P (none-own (lent c.args.scope.now) p c.requires.none) c.requires.sound

pub returns-clause-made : goal.returns-clause-made
returns-clause-made c =
    let p = c.args.process.now in
    let P : Scope → Type 0 = λ q. IsMadeProcess q (with_variables q p.variables) c.args.driver p c.in_ok-made.made in
    subst P (sym (none-own (lent c.args.scope.now) p c.requires.none)) c.in_ok-made.ensures.made
