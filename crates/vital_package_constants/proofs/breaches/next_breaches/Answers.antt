use Rattle.std.proofs.Common.{ℕ, List, length, map, ◌∙◌, ap}
use Rattle.std.specs.Prelude.{Option}
use Rattle.std.specs.List.{filter_map, fold}
use Rattle.vital_limits.specs.ConstantLimits.{named_at}
use Rattle.vital_nodes.specs.Nodes.{Node}
use Rattle.vital_package_constants.specs.declared.breaches.ConstantBreaches.{ConstantBreaches}
use Rattle.vital_package_constants.specs.Breaches.{breaches_at, joined, own}
use Rattle.vital_package_constants.proofs.breaches.next_breaches.Goals as goal
use Rattle.vital_nodes.specs.Seen.{seen}

pub returns : goal.returns
returns c =
    let known : List ConstantBreaches = c.args.known.now in
    let step : ConstantBreaches → ℕ → ConstantBreaches = λ b n. joined b (breaches_at known n) in
    let named : Node → Option ℕ = named_at c.args.library.now (length known) in
    c.joined_with.ensures
    ∙ ap (λ b. fold step b (filter_map named (map seen c.deref-2.result.now))) c.in_ok-own.ensures
    ∙ ap (λ vs. fold step (own c.args.library.now known c.args.object.now) (filter_map named vs)) (ap (map seen) c.deref-2.ensures.value ∙ c.in_ok-nodes.ensures)
