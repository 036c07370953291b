use Rattle.std.proofs.Common.{[], ◌∷◌, ◌++◌, map, sym, ap, ◌∙◌, arith, take}
use Rattle.std.specs.List.{enumerate_from}
use Rattle.vital_limits.specs.ConstantLimits.{constant_limits}
use Rattle.vital_package_constants.specs.Breaches.{constant_breaches}
use Rattle.vital_typed_cells.specs.Packages.{if_sound}
use Rattle.vital_typed_cells.proofs.ValueLemmas.{numbered-take}
use Rattle.vital_typed_cells.proofs.sound_packages.kept_values.Goals as goal

pub loop-number-preserved : goal.loop-number-preserved
loop-number-preserved c =
    let sound = if_sound (constant_breaches c.args.packages.now) (constant_limits c.args.packages.now) in
    let front = map sound (enumerate_from 0 (take c.loop-number.number c.args.values.now)) in
    c.in_ok-push.ensures.items
    ∙ ap (λ kept. kept ++ c.in_ok-share_if_sound.field-0 ∷ []) c.loop-number.invariant
    ∙ ap (λ value. front ++ value ∷ []) c.in_ok-share_if_sound.ensures
    ∙ sym (numbered-take sound c.args.values.now c.loop-number.number c.index-values-number.result (omega arith) c.index-values-number.is)
