use Rattle.std.proofs.Common.{arith}
use Rattle.vital_base.proofs.Digits.{reads_digit}
use Rattle.vital_base.proofs.time.value_of.Goals as goal

pub overflow_mul-value : goal.overflow_mul-value
overflow_mul-value c =
    let d = reads_digit c.args.digits.now c.loop-digit.digit-index c.requires c.loop-digit-test.true in
    let e = c.loop-digit.invariant in
    omega (arith, d.next, d.small, e)

pub overflow_add-value : goal.overflow_add-value
overflow_add-value c =
    let d = reads_digit c.args.digits.now c.loop-digit.digit-index c.requires c.loop-digit-test.true in
    let e = c.loop-digit.invariant in
    omega (arith, d.next, d.small, e)

pub loop-digit-preserved : goal.loop-digit-preserved
loop-digit-preserved c =
    let d = reads_digit c.args.digits.now c.loop-digit.digit-index c.requires c.loop-digit-test.true in
    let e = c.loop-digit.invariant in
    omega (arith, d.next, e)
