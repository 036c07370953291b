use Rattle.std.proofs.Common.{◌∷◌, ◌++◌, [], true, sym, ◌∙◌, ap}
use Rattle.std.specs.Option.{option_map, option_map_or}
use Rattle.vital_typed_cells.specs.SoundDeclarations.{is_sound_package}
use Rattle.vital_cell.specs.Scopes.{package_worths}
use Rattle.vital_cell.specs.Sound.{tests}
use Rattle.vital_cell.specs.Values.{only_packages}
use Rattle.vital_cell.proofs.PackageLemmas.{package-sound, packages-turn, worths-none}
use Rattle.vital_typed_cells.specs.PackageWorths.{package_worth}
use Rattle.vital_cell.proofs.constants.put_packages.Goals as goal

pub loop-value-init : goal.loop-value-init
loop-value-init c = ap package_worths c.requires.none ∙ sym worths-none

pub put_package-requires-clause-sound : goal.put_package-requires-clause-sound
put_package-requires-clause-sound c =
    ap (λ ws. option_map_or (is_sound_package (tests (only_packages ws))) c.value-item.result true) c.loop-value.invariant
    ∙ package-sound c.args.values.now c.loop-value.value-index c.value-item.result c.loop-value-test.true c.value-item.is c.requires.sound

pub loop-value-preserved : goal.loop-value-preserved
loop-value-preserved c =
    c.in_ok-put_package.ensures
    ∙ ap (λ ws. ws ++ option_map (package_worth ws) c.value-item.result ∷ []) c.loop-value.invariant
    ∙ sym (packages-turn c.args.values.now c.loop-value.value-index c.value-item.result c.loop-value-test.true c.value-item.is)
