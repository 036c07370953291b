use Rattle.std.proofs.Common.{map, refl, ap, ◌∙◌}
use Rattle.std.proofs.lemmas.List.{map-append}
use Rattle.std.proofs.lemmas.Result.{on_ok_weaker}
use Rattle.vital_nodes.proofs.Inner.{concurrent-one, concurrent-put}
use Rattle.vital_nodes.proofs.Lists.{turn-behind}
use Rattle.vital_nodes.proofs.statements.+concurrent.Goals as goal

pub put_all_concurrent-loop-conc-preserved : goal.put_all_concurrent-loop-conc-preserved
put_all_concurrent-loop-conc-preserved t c =
    turn-behind _ _ _ _ _ _ _ c.in_ok-put_concurrent.ensures c.loop-conc.invariant refl
    (concurrent-one c.args.statements.now c.loop-conc.conc-index c.conc-item.result c.loop-conc-test.true c.conc-item.is)

pub put_concurrent-returns : goal.put_concurrent-returns
put_concurrent-returns t c =
    on_ok_weaker c.put_in_concurrent.result
    (concurrent-put c.walked_in_preorder.ensures (map (λ b. b.now) c.args.all.now.items) (map (λ b. b.now) c.push.new.self.items) (map (λ b. b.now) c.put_in_concurrent.new.all.items) c.args.conc.now
    (ap (map (λ b. b.now)) c.in_ok-push.ensures.items ∙ map-append (λ b. b.now) c.args.all.now.items _))
    c.put_in_concurrent.ensures
