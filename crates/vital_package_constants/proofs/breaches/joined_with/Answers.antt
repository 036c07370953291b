use Rattle.std.proofs.Common.{ℕ, List, [], ◌∷◌, length, map, take, sym, ◌∙◌, ap, arith}
use Rattle.std.specs.Prelude.{Option}
use Rattle.std.specs.List.{filter_map, fold}
use Rattle.std.proofs.lemmas.List.Sums.{fold-append}
use Rattle.vital_package_constants.specs.declared.breaches.ConstantBreaches.{ConstantBreaches}
use Rattle.vital_limits.specs.ConstantLimits.{named_at}
use Rattle.vital_package_constants.specs.Breaches.{breaches_at, joined}
use Rattle.vital_nodes.specs.Nodes.{Node}
use Rattle.vital_nodes.proofs.Lists.{filter_map-seen}
use Rattle.vital_nodes.specs.Seen.{seen}
use Rattle.vital_package_constants.proofs.breaches.joined_with.Goals as goal

pub loop-node-preserved : goal.loop-node-preserved
loop-node-preserved c =
    let known : List ConstantBreaches = c.args.known.now in
    let step : ConstantBreaches → ℕ → ConstantBreaches = λ a n. joined a (breaches_at known n) in
    let named : Node → Option ℕ = named_at c.args.library.now (length known) in
    let before : List ℕ = filter_map named (map seen (take c.loop-node.node-index c.args.nodes.now)) in
    let here : List ℕ = filter_map named (seen c.node-item.result ∷ []) in
    c.joined_at-breaches.ensures
    ∙ ap (λ l. fold step l here) c.loop-node.invariant
    ∙ sym (fold-append step _ before here)
    ∙ ap (fold step _) (sym (filter_map-seen seen named c.args.nodes.now c.loop-node.node-index c.node-item.result (omega arith) c.node-item.is))
