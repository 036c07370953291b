use Rattle.std.proofs.Common.{sym, ◌∙◌, ap}
use Rattle.std.specs.Prelude.{slice_get}
use Rattle.std.specs.Option.{option_and_then, option_map}
use Rattle.vital_cell.specs.Worths.{lent}
use Rattle.vital_cell.proofs.NameLemmas.{constant-named}
use Rattle.vital_cell.proofs.scope.Scope.own_worth.Goals as goal

pub returns-in-Some : goal.returns-in-Some
returns-in-Some c =
    let ws = c.args.self.now.worths.now in
    c.worth_at.ensures
    ∙ ap (λ o. option_map lent (option_and_then (slice_get ws) o)) c.in-Some.ensures.number
    ∙ sym (constant-named c.args.self.now.constants.now ws c.args.name.now)

pub returns-in-None : goal.returns-in-None
returns-in-None c =
    let ws = c.args.self.now.worths.now in
    ap (λ o. option_map lent (option_and_then (slice_get ws) o)) c.in-None.ensures.number
    ∙ sym (constant-named c.args.self.now.constants.now ws c.args.name.now)
