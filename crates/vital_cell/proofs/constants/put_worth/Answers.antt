use Rattle.std.proofs.Common.{◌∷◌, ◌++◌, [], ◌∙◌, ap}
use Rattle.vital_typed_cells.specs.SoundDeclarations.{is_sound_constant}
use Rattle.vital_cell.specs.Scopes.{lent, named_worths}
use Rattle.vital_cell.specs.Sound.{tests}
use Rattle.vital_cell.specs.Values.{with_constants, worth_in}
use Rattle.vital_cell.proofs.ValueLemmas.{worths-more}
use Rattle.vital_cell.proofs.constants.put_worth.Goals as goal

pub worth_of-requires-clause-sound : goal.worth_of-requires-clause-sound
worth_of-requires-clause-sound c =
    let k = lent c.args.scope.now in
    let names = c.args.scope.now.constants.now in
    ap (λ ws. is_sound_constant (tests (with_constants k (named_worths names ws))) c.get.result.now) c.as_slice.ensures.value
    ∙ ap (is_sound_constant (tests (with_constants k (named_worths names c.args.worths.now.items)))) c.get.ensures
    ∙ c.requires.sound

pub returns-clause-worths : goal.returns-clause-worths
returns-clause-worths c =
    let k = lent c.args.scope.now in
    let names = c.args.scope.now.constants.now in
    let ws = c.args.worths.now.items in
    ap (named_worths names) c.in_ok-push.ensures.items
    ∙ worths-more names ws c.args.constant.now.name c.in_ok-worth.worth c.requires.next
    ∙ ap (λ v. named_worths names ws ++ record { name = c.args.constant.now.name; worth = v } ∷ [])
    (c.in_ok-worth.ensures
    ∙ ap (λ xs. worth_in (with_constants k (named_worths names xs)) c.get.result.now) c.as_slice.ensures.value
    ∙ ap (worth_in (with_constants k (named_worths names ws))) c.get.ensures)
