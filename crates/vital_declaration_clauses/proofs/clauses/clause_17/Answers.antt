use Rattle.std.proofs.Common.{◌++◌, take, sym, ◌∙◌, ap, append_assoc, arith}
use Rattle.std.specs.List.{flat_map}
use Rattle.vital_declaration_clauses.specs.Clauses.{redeclared_in}
use Rattle.vital_nodes.proofs.Lists.{flat_map-one}
use Rattle.vital_declaration_clauses.proofs.clauses.clause_17.Goals as goal

pub loop-region-preserved : goal.loop-region-preserved
loop-region-preserved c =
    let of_region = redeclared_in c.args.names.now in
    let i = c.loop-region.region-index in
    c.in_ok-extend_from_slice.ensures.items
    ∙ ap (λ ps. c.loop-region.places.items ++ ps) (c.deref.ensures.value ∙ c.in_ok-more.ensures)
    ∙ ap (λ ps. ps ++ of_region c.region-item.result) c.loop-region.invariant
    ∙ append_assoc c.in_ok-places.places.items (flat_map of_region (take i c.args.regions.now)) (of_region c.region-item.result)
    ∙ ap (λ ps. c.in_ok-places.places.items ++ ps) (sym (flat_map-one of_region c.args.regions.now i c.region-item.result (omega arith) c.region-item.is))
