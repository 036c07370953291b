use Rattle.std.proofs.Common.{arith}
use Rattle.vital_report.proofs.FieldTexts.{at_most_20_digits}
use Rattle.vital_report.proofs.event_start.EventStart.new.Goals as goal

pub write_digits-delta_at-requires : goal.write_digits-delta_at-requires
write_digits-delta_at-requires c = let d = at_most_20_digits c.args.delta c.ranges.delta.fits in (omega (arith, d), omega arith)

pub put_before-blank_at-requires-clause-has_room : goal.put_before-blank_at-requires-clause-has_room
put_before-blank_at-requires-clause-has_room c =
    let d = at_most_20_digits c.args.delta c.ranges.delta.fits in omega (arith, d, c.write_digits-delta_at.ensures.start)

pub write_digits-time_at-requires : goal.write_digits-time_at-requires
write_digits-time_at-requires c =
    let d = at_most_20_digits c.args.delta c.ranges.delta.fits in
    let t = at_most_20_digits c.args.time c.ranges.time.fits in (
      omega (arith, d, t, c.write_digits-delta_at.ensures.start, c.put_before-blank_at.ensures.start),
      omega (arith, d, c.write_digits-delta_at.ensures.start, c.put_before-blank_at.ensures.start, c.write_digits-delta_at.auto.buf, c.put_before-blank_at.auto.buffer),
    )

pub put_before-at-requires-clause-has_room : goal.put_before-at-requires-clause-has_room
put_before-at-requires-clause-has_room c =
    let d = at_most_20_digits c.args.delta c.ranges.delta.fits in
    let t = at_most_20_digits c.args.time c.ranges.time.fits in
    omega (arith, d, t, c.write_digits-delta_at.ensures.start, c.put_before-blank_at.ensures.start, c.write_digits-time_at.ensures.start)
