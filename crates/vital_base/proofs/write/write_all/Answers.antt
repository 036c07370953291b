use Rattle.std.proofs.Common.{arith}
use Rattle.vital_base.proofs.Appending.{appended-take-add}
use Rattle.vital_base.proofs.write.write_all.Goals as goal

pub loop-written-preserved : goal.loop-written-preserved
loop-written-preserved g c =
    let joined = appended-take-add (g.K.Sink.told c.args.sink.now) c.args.piece.now c.loop-written.written c.in_ok-taken.taken in
    let told = c.in_ok-taken.ensures.ok_appends in
    record {
      within = omega (arith, c.in_ok-taken.ensures.ok_within);
      appends = cc (joined, told);
      same_count = cc (c.in_ok-taken.ensures.ok_leaves_count);
      keeps_may_stick = λ h. c.in_ok-taken.ensures.keeps_may_stick (c.loop-written.invariant.keeps_may_stick h);
    }
