use Rattle.std.proofs.Common.{◌∷◌, ◌++◌, [], true, ◌∙◌, ap}
use Rattle.std.specs.Option.{option_map, option_map_or}
use Rattle.vital_typed_cells.specs.SoundDeclarations.{is_sound_package}
use Rattle.vital_cell.specs.Scopes.{Scope, lent, package_worths}
use Rattle.vital_cell.specs.Sound.{tests}
use Rattle.vital_cell.specs.Values.{package_worth_in, with_packages}
use Rattle.vital_cell.proofs.PackageLemmas.{bare-with, package-more, value-bare}
use Rattle.vital_cell.proofs.constants.put_package.Goals as goal

pub optional_worth-requires-clause-none : goal.optional_worth-requires-clause-none
optional_worth-requires-clause-none c = ap (λ (q : Scope). q.variables) c.requires.bare

pub optional_worth-requires-clause-sound : goal.optional_worth-requires-clause-sound
optional_worth-requires-clause-sound c =
    let k = lent c.args.scope.now in
    ap (λ ws. option_map_or (is_sound_package (tests (with_packages k (package_worths ws)))) c.args.value.now true) c.as_slice.ensures.value
    ∙ ap (λ q. option_map_or (is_sound_package (tests q)) c.args.value.now true) (bare-with k (package_worths c.args.worths.now.items) c.requires.bare)
    ∙ c.requires.sound

pub returns : goal.returns
returns c =
    let k = lent c.args.scope.now in
    let ws = c.args.worths.now.items in
    ap package_worths c.in_ok-push.ensures.items
    ∙ package-more ws c.in_ok-worth.worth
    ∙ ap (λ v. package_worths ws ++ v ∷ [])
    (c.in_ok-worth.ensures
    ∙ ap (λ xs. option_map (package_worth_in (with_packages k (package_worths xs))) c.args.value.now) c.as_slice.ensures.value
    ∙ value-bare k (package_worths ws) c.args.value.now c.requires.bare)
