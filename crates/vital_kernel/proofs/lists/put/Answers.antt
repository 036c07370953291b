use Rattle.std.proofs.Common.{arith}
use Rattle.vital_kernel.proofs.ListenerLemmas.{put-is}
use Rattle.vital_kernel.proofs.lists.put.Goals as goal

pub returns-in_ok-push : goal.returns-in_ok-push
returns-in_ok-push c =
    put-is c.args.lists.now.items c.args.number c.args.process c.index_mut.result.now c.push.new.self (omega (arith, c.args.lists.now.ok.0, c.len.ensures)) c.index_mut.ensures.value c.in_ok-push.ensures.items
