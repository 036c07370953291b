use Rattle.std.proofs.Common.{◌≡◌, [], ◌∷◌, length, map}
use Rattle.vital_nodes.specs.Walk.{folded}
use Rattle.vital_nodes.specs.Seen.{seen}
use Rattle.vital_nodes.proofs.Values.{turns}
use Rattle.vital_nodes.proofs.upward.fold_up.Given as goal

abbrev pub invariant-loop-node : goal.invariant-loop-node
invariant-loop-node g l = record {
  values : turns (g.U.UpwardRule.step l.rule) (map seen l.nodes.items) l.values.items ≡ folded (g.U.UpwardRule.step l.rule) (seen l.fn.node) ∷ [];
  parts : l.parts.items ≡ [];
}

abbrev pub decreases-loop-node : goal.decreases-loop-node
decreases-loop-node g l = length l.nodes.items
