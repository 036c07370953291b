use Rattle.std.proofs.Common.{◌++◌, sym, ◌∙◌, ap, arith, take}
use Rattle.std.specs.List.{flat_map}
use Rattle.std.proofs.lemmas.Grind.{flat_map-append}
use Rattle.vital_library.specs.Constants.{constants_in, constants_of}
use Rattle.vital_library.specs.Units.{units_of}
use Rattle.vital_library.proofs.ConstantLemmas.{flat_map-take}
use Rattle.vital_library.proofs.constants.constants_of.Goals as goal

pub loop-file-preserved : goal.loop-file-preserved
loop-file-preserved c =
    let file = c.file-item.result in
    let before = take c.loop-file.file-index c.args.files.now in
    c.in_ok-put_file.ensures
    ∙ ap (λ cs. cs ++ flat_map constants_in c.as_slice.result.now) c.loop-file.invariant
    ∙ ap (λ us. constants_of before ++ flat_map constants_in us) c.as_slice.ensures
    ∙ sym (flat_map-append constants_in (units_of before) file.units)
    ∙ ap (flat_map constants_in) (sym (flat_map-take (λ f. f.units) c.args.files.now c.loop-file.file-index file (omega arith) c.file-item.is))
