use Rattle.std.proofs.Common.{◌<◌, ◌%◌, length, length-set, ◌∙◌, arith}
use Rattle.vital_naturals.proofs.WordLemmas.{digit_placed, digits_placed}
use Rattle.vital_naturals.proofs.word.digits_of_word.Goals as goal

pub loop-place-preserved : goal.loop-place-preserved
loop-place-preserved c =
    let digits = c.loop-place.digits in
    let place = c.loop-place.place in
    let rest = c.loop-place.rest in
    let lt : place < length digits = omega (arith, c.loop-place.invariant.0) in (
      length-set digits place (rest % 10) ∙ c.loop-place.invariant.0,
      digits_placed digits place (rest % 10) lt (omega arith) c.loop-place.invariant.1,
      digit_placed digits place rest c.args.word lt c.loop-place.invariant.2,
    )
