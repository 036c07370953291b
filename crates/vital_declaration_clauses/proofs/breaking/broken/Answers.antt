use Rattle.std.proofs.Common.{◌++◌, sym, ◌∙◌, ap, arith}
use Rattle.vital_declaration_clauses.specs.Clauses.{breaks, broken_in}
use Rattle.vital_nodes.proofs.Lists.{flat_map-one}
use Rattle.vital_declaration_clauses.proofs.breaking.broken.Goals as goal

pub loop-region-preserved : goal.loop-region-preserved
loop-region-preserved c =
    let of_region = broken_in (breaks c.args.clause c.args.names.now) in
    c.in_ok-put_region.ensures
    ∙ ap (λ ps. ps ++ of_region c.region-item.result) c.loop-region.invariant
    ∙ sym (flat_map-one of_region c.args.regions.now c.loop-region.region-index c.region-item.result (omega arith) c.region-item.is)
