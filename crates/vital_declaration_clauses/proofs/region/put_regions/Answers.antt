use Rattle.std.proofs.Common.{◌∷◌, [], ◌++◌, map, take, sym, ◌∙◌, ap, append_assoc, arith}
use Rattle.std.specs.List.{filter_map}
use Rattle.vital_declaration_clauses.specs.Regions.{region_of}
use Rattle.vital_nodes.proofs.Lists.{filter_map-seen}
use Rattle.vital_declaration_clauses.proofs.region.put_regions.Goals as goal

pub loop-conc-preserved : goal.loop-conc-preserved
loop-conc-preserved c =
    let i = c.loop-conc.conc-index in
    c.in_ok-put_region.ensures
    ∙ ap (λ rs. rs ++ filter_map region_of (c.conc-item.result.now ∷ [])) c.loop-conc.invariant
    ∙ append_assoc _ (filter_map region_of (map (λ s. s.now) (take i c.args.statements.now))) (filter_map region_of (c.conc-item.result.now ∷ []))
    ∙ ap (λ rs. c.args.found.now.items ++ rs) (sym (filter_map-seen (λ s. s.now) region_of c.args.statements.now i c.conc-item.result (omega arith) c.conc-item.is))
