use Rattle.std.proofs.Common.{ap, arith, subst, sym, ◌∙◌}
use Rattle.vital_annotate.proofs.FitLemmas.{map-both, zip-more}
use Rattle.vital_typed_cells.specs.Answers.{default_values}
use Rattle.vital_typed_cells.specs.Fits.{FitsCell}
use Rattle.vital_annotate.proofs.instances.defaults_of.Goals as goal

pub loop-target-preserved : goal.loop-target-preserved
loop-target-preserved c =
    record {
      values =
          map-both (λ delays. delays.items) (λ t. default_values t.cell.now) c.args.targets.now c.loop-target.target-index c.target-item.result _ _ c.into_vec.result (omega arith) c.target-item.is
          c.loop-target.invariant.values (c.into_vec.ensures ∙ c.in_ok-delays.ensures.values ∙ ap default_values c.checked.ensures) c.in_ok-push.ensures.items;
      fit =
          zip-more (λ t delays. FitsCell t.cell.now delays.items) c.args.targets.now c.loop-target.target-index c.target-item.result _ _ c.into_vec.result (omega arith) c.target-item.is
          c.loop-target.invariant.fit
          (subst (λ cell. FitsCell cell c.into_vec.result.items) c.checked.ensures (subst (FitsCell c.checked.result.now) (sym c.into_vec.ensures) c.in_ok-delays.ensures.fit))
          c.in_ok-push.ensures.items;
    }
