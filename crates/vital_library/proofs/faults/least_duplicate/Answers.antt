use Rattle.std.proofs.Common.{sym, ◌∙◌, ap, arith, map}
use Rattle.std.proofs.Common.{take}
use Rattle.std.specs.Prelude.{◌||◌}
use Rattle.std.specs.List.{list_any}
use Rattle.vital_library.specs.Faults.{duplicate, duplicates, least_of, shares_name, sooner}
use Rattle.vital_library.specs.Positions.{units_in}
use Rattle.vital_library.proofs.FaultLemmas.{shares-push, shared-where_old, shared-where_new, least-push_duplicate, least-push_new}
use Rattle.vital_nodes.proofs.Lists.{map-take}
use Rattle.vital_library.proofs.faults.least_duplicate.Goals as goal
use Rattle.vital_library.proofs.faults.least_duplicate.Goals.{then-not-branch, else-not-branch}

pub loop-at-preserved : goal.loop-at-preserved
loop-at-preserved c =
    let unit = c.at-item.result.unit.now in
    let before = units_in (take c.loop-at.at-index c.args.units.now) in
    let more = map-take (λ at. at.unit.now) c.args.units.now c.loop-at.at-index c.at-item.result (omega arith) c.at-item.is in
    record {
      names = λ w.
          c.in_ok-declare.ensures.names w
          ∙ ap (λ b. shares_name unit w || b) (c.loop-at.invariant.names w)
          ∙ sym (shares-push before unit w)
          ∙ ap (λ units. list_any (λ v. shares_name v w) units) (sym more);
      least = elim c.if-not-branch.branch [
        | then-not-branch w ↦
            w.least-is
            ∙ w.sooner-least.ensures
            ∙ ap (sooner c.loop-at.least) w.duplicate.ensures
            ∙ ap (λ least. sooner least (duplicate unit)) c.loop-at.invariant.least
            ∙ sym (least-push_duplicate before unit (shared-where_old _ _ _ c.in_ok-declare.ensures.added (c.loop-at.invariant.names unit) w.if-not-branch.true))
            ∙ ap (λ units. least_of (map duplicate (duplicates units))) (sym more)
        | else-not-branch w ↦
            w.least-is
            ∙ c.loop-at.invariant.least
            ∙ sym (least-push_new before unit (shared-where_new _ _ _ c.in_ok-declare.ensures.added (c.loop-at.invariant.names unit) w.if-not-branch.false))
            ∙ ap (λ units. least_of (map duplicate (duplicates units))) (sym more)
      ];
    }
