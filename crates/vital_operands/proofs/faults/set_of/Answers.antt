use Rattle.std.proofs.Common.{◌<◌, length, arith}
use Rattle.std.proofs.lemmas.List.{get_or_default}
use Rattle.vital_operands.proofs.PlaceLemmas.{is_at-more}
use Rattle.vital_operands.proofs.faults.set_of.Goals as goal

pub loop-place-preserved : goal.loop-place-preserved
loop-place-preserved c = λ other.
    let there : c.loop-place.place-index < length c.args.places.now = omega arith in
    is_at-more c.args.places.now c.loop-place.place-index _ other _ _ there (get_or_default c.args.places.now c.loop-place.place-index _ _ there) (c.loop-place.invariant other) (c.in_ok-insert.ensures.updates.0 other)
