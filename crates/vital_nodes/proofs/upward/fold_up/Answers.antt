use Rattle.std.proofs.Common.{◌≡◌, ◌-◌, ◌++◌, ◌∷◌, [], length, map, take, drop, reverse, ap, ◌∙◌, arith}
use Rattle.std.proofs.lemmas.List.{length-map, map-append}
use Rattle.vital_nodes.specs.Nodes.{parts_of}
use Rattle.vital_nodes.specs.Seen.{seen}
use Rattle.vital_nodes.proofs.Values.{all-turns, turned-last}
use Rattle.vital_nodes.proofs.upward.fold_up.Goals as goal

pub loop-node-init : goal.loop-node-init
loop-node-init g c = record {
  values = all-turns (g.U.UpwardRule.step c.args.rule.now) c.walked_in_preorder.ensures (c.folded_upwards.ensures (g.U.UpwardRule.step c.args.rule.now)) (seen c.args.node) (map seen c.in_ok-nodes.nodes.items) c.new-values.result.items
      c.in_ok-nodes.ensures c.new-values.ensures.items;
  parts = c.new-parts.ensures.items;
}

pub loop-node-preserved : goal.loop-node-preserved
loop-node-preserved g c =
    let are = c.in_ok-put_parts.ensures ∙ ap (λ ps. map seen ps ++ parts_of (seen c.in-Some.node)) c.loop-node.invariant.parts in
    let count : c.len.result ≡ length (parts_of (seen c.in-Some.node)) = omega (arith, length-map c.put_parts.new.nodes.items seen, ap length are) in
    record {
      values = turned-last (g.U.UpwardRule.step c.args.rule.now) (map seen c.pop.new.self.items) (map seen c.loop-node.nodes.items) (seen c.in-Some.node) c.loop-node.values.items c.put_value.new.values.items _
          (ap (map seen) c.in-Some.ensures.items ∙ map-append seen c.pop.new.self.items (c.in-Some.node ∷ []))
          (c.in_ok-put_value.ensures ∙ ap (λ n. take (length c.loop-node.values.items - n) c.loop-node.values.items ++ g.U.UpwardRule.step c.args.rule.now (seen c.in-Some.node) (reverse (drop (length c.loop-node.values.items - n) c.loop-node.values.items)) ∷ []) count)
          c.loop-node.invariant.values;
      parts = c.clear.ensures.items;
    }
