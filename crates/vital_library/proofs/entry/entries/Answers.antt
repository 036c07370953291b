use Rattle.std.proofs.Common.{◌++◌, ◌∙◌, ap, sym, arith, map, take}
use Rattle.std.specs.Prelude.{[], ◌∷◌}
use Rattle.std.proofs.lemmas.List.{take_all}
use Rattle.vital_library.specs.Entries.{entities_with_positions, with_group}
use Rattle.vital_library.specs.Positions.{seen}
use Rattle.vital_library.proofs.EntryLemmas.{entities-push, entries-all}
use Rattle.vital_nodes.proofs.Lists.{map-take}
use Rattle.vital_library.proofs.entry.entries.Goals as goal

pub loop-at-preserved : goal.loop-at-preserved
loop-at-preserved c =
    let groups = c.in_ok-groups.groups in
    let u = seen c.at-item.result in
    c.in_ok-put_entity.ensures
    ∙ ap (λ es. es ++ map (with_group groups) (entities_with_positions (u ∷ []))) c.loop-at.invariant
    ∙ sym (entities-push groups (map seen (take c.loop-at.at-index c.args.units.now)) u)
    ∙ ap (λ units. map (with_group groups) (entities_with_positions units)) (sym (map-take seen c.args.units.now c.loop-at.at-index c.at-item.result (omega arith) c.at-item.is))

pub returns : goal.returns
returns c =
    let groups = c.in_ok-groups.groups in
    c.loop-at.invariant
    ∙ ap (λ units. map (with_group groups) (entities_with_positions (map seen units))) (take_all c.loop-at.at-index c.args.units.now (omega arith))
    ∙ entries-all groups (map seen c.args.units.now) c.in_ok-groups.ensures
