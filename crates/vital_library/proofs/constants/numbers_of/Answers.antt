use Rattle.std.proofs.Common.{◌≡◌, ◌+◌, ◌∙◌, ap, sym, arith, length, take}
use Rattle.std.proofs.lemmas.List.{length-map, length-take-le}
use Rattle.std.specs.Prelude.{[], ◌∷◌, cond, Some, None}
use Rattle.std.specs.Str.{bytes_eq}
use Rattle.vital_library.specs.Numbers.{number_of}
use Rattle.std.specs.Option.{option_or}
use Rattle.std.specs.List.{position_from}
use Rattle.vital_library.specs.Constants.{has_name, lent}
use Rattle.vital_library.proofs.NumberLemmas.{position_from-append}
use Rattle.vital_nodes.proofs.Lists.{map-take}
use Rattle.vital_library.proofs.constants.numbers_of.Goals as goal

pub loop-number-preserved : goal.loop-number-preserved
loop-number-preserved c = λ name.
    let number = c.loop-number.number in
    let front = take number c.args.constants.now in
    let here : number ≡ 0 + length (lent front) = omega (arith, length-map front (λ object. object.now), length-take-le number c.args.constants.now (omega arith)) in
    c.in_ok-put_number.ensures name
    ∙ ap (λ bs. option_or (number_of c.loop-number.numbers name) (cond (bytes_eq bs name) (Some number) None)) c.as_slice.ensures
    ∙ ap (λ o. option_or o (position_from (has_name name) number (c.index-constants-number.result.now ∷ []))) (c.loop-number.invariant name)
    ∙ ap (λ n. option_or (position_from (has_name name) 0 (lent front)) (position_from (has_name name) n (c.index-constants-number.result.now ∷ []))) here
    ∙ sym (position_from-append (has_name name) 0 (lent front) (c.index-constants-number.result.now ∷ []))
    ∙ ap (position_from (has_name name) 0) (sym (map-take (λ object. object.now) c.args.constants.now number c.index-constants-number.result (omega arith) c.index-constants-number.is))
