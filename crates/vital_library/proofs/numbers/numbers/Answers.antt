use Rattle.std.proofs.Common.{◌+◌, ◌∙◌, ap, sym, arith, length, length-append, take}
use Rattle.std.specs.Prelude.{[], ◌∷◌}
use Rattle.std.specs.List.{position_from}
use Rattle.vital_library.specs.Numbers.{is_named}
use Rattle.vital_library.specs.Positions.{units_in}
use Rattle.vital_library.specs.Units.{entities_among}
use Rattle.vital_library.proofs.NumberLemmas.{entities-more, number-more, one-entity}
use Rattle.vital_nodes.proofs.Lists.{map-take}
use Rattle.vital_library.proofs.numbers.numbers.Goals as goal

pub loop-at-preserved : goal.loop-at-preserved
loop-at-preserved c =
    let unit = c.at-item.result.unit.now in
    let before = units_in (take c.loop-at.at-index c.args.units.now) in
    let more = map-take (λ at. at.unit.now) c.args.units.now c.loop-at.at-index c.at-item.result (omega arith) c.at-item.is in
    record {
      numbers = λ name.
          number-more name before unit c.loop-at.count _ _ c.loop-at.invariant.count (c.loop-at.invariant.numbers name) (c.in_ok-count.ensures.numbers name)
          ∙ ap (λ units. position_from (is_named name) 0 (entities_among units)) (sym more);
      count =
          c.in_ok-count.ensures.next
          ∙ ap (λ n. n + length (entities_among (unit ∷ []))) c.loop-at.invariant.count
          ∙ sym (length-append (entities_among before) (entities_among (unit ∷ [])))
          ∙ ap length (sym (entities-more before unit))
          ∙ ap (λ units. length (entities_among units)) (sym more);
      few = omega (arith, c.in_ok-count.ensures.next, c.loop-at.invariant.few, one-entity unit);
    }
