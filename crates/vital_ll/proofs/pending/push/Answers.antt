use Rattle.vital_ll.proofs.Stacked.{put_before}
use Rattle.vital_ll.proofs.pending.push.Goals as goal

pub returns-in_ok-push-clause-pushed : goal.returns-in_ok-push-clause-pushed
returns-in_ok-push-clause-pushed c = put_before c.args.left.now c.args.symbols.now c.args.stack.now.items c.push.new.self.items c.in_ok-push.ensures.items
