use Rattle.std.proofs.lemmas.Result.{on_ok_weaker}
use Rattle.vital_limits.proofs.WithinLemmas.{put-iface}
use Rattle.vital_limits.proofs.within_declarations.put_within_iface.Goals as goal

pub returns : goal.returns
returns c = on_ok_weaker c.put_in_iface.result (put-iface c.walked_in_preorder.ensures c.args.iface.now _ _) c.put_in_iface.ensures
