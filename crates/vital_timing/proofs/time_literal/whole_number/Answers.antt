use Rattle.std.proofs.Common.{◌∙◌}
use Rattle.vital_timing.proofs.Carries.{taken-byte}
use Rattle.vital_timing.proofs.time_literal.whole_number.Goals as goal

pub loop-byte-preserved : goal.loop-byte-preserved
loop-byte-preserved c =
    c.with_byte-number.ensures ∙ taken-byte c.loop-byte.number c.args.bytes.now c.loop-byte.byte-index c.loop-byte-test.true c.loop-byte.invariant
