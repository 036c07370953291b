use Rattle.std.proofs.Common.{◌≡◌, ◌+◌, ◌++◌, map, reverse}
use Rattle.std.specs.Option.{option_map, option_map_or}
use Rattle.vital_netlist.specs.Designs.{labels_within, lent_instance, lent_site}
use Rattle.vital_netlist.proofs.LabelLemmas.{labels_at}
use Rattle.vital_netlist.proofs.labels.labels_of.Given as goal

abbrev pub invariant-loop-site : goal.invariant-loop-site
invariant-loop-site l =
    let is = map lent_instance l.instances in
    labels_within l.instance is l.instance ≡ labels_at is (option_map lent_site l.site) ++ reverse (map (λ n. n.now) l.labels.items)

abbrev pub decreases-loop-site : goal.decreases-loop-site
decreases-loop-site l = option_map_or (λ s. s.instance + 1) l.site 0
