use Rattle.std.proofs.Common.{◌<◌, length, arith, length-append}
use Rattle.vital_report.proofs.Passing.{all_put, nothing_put}
use Rattle.vital_report.proofs.held.Held.put.Goals as goal

pub returns-then-text-room-clause-puts : goal.returns-then-text-room-clause-puts
returns-then-text-room-clause-puts g c =
    let short : length c.hold.new.self < 4096 = rw c.hold.ensures (rw (length-append c.args.self.now c.args.text.now)
    (omega (arith, c.room.ensures.complements, c.if-text-room.true))) in
    all_put _ _ _ _ _ _ _ (nothing_put (g.K.Sink.told c.args.sink.now) c.args.self.now c.args.text.now) c.hold.ensures short
