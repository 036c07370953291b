use Rattle.std.proofs.Common.{map, refl, ap, ◌∙◌}
use Rattle.std.proofs.lemmas.List.{map-append}
use Rattle.std.proofs.lemmas.Result.{on_ok_weaker}
use Rattle.vital_nodes.proofs.Inner.{sequential-one, sequential-put}
use Rattle.vital_nodes.proofs.Lists.{turn-behind}
use Rattle.vital_nodes.proofs.statements.+sequential.Goals as goal

pub put_all_sequential-loop-stmt-preserved : goal.put_all_sequential-loop-stmt-preserved
put_all_sequential-loop-stmt-preserved t c =
    turn-behind _ _ _ _ _ _ _ c.in_ok-put_sequential.ensures c.loop-stmt.invariant refl
    (sequential-one c.args.statements.now c.loop-stmt.stmt-index c.stmt-item.result c.loop-stmt-test.true c.stmt-item.is)

pub put_sequential-returns : goal.put_sequential-returns
put_sequential-returns t c =
    on_ok_weaker c.put_in_sequential.result
    (sequential-put c.walked_in_preorder.ensures (map (λ b. b.now) c.args.all.now.items) (map (λ b. b.now) c.push.new.self.items) (map (λ b. b.now) c.put_in_sequential.new.all.items) c.args.stmt.now
    (ap (map (λ b. b.now)) c.in_ok-push.ensures.items ∙ map-append (λ b. b.now) c.args.all.now.items _))
    c.put_in_sequential.ensures
