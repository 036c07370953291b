use Rattle.std.proofs.Common.{get_or, length, length-set, ap, ◌∙◌, arith}
use Rattle.std.specs.Prelude.{List}
use Rattle.vital_logic.specs.declared.level.Level.{Level}
use Rattle.vital_logic.specs.declared.level.Level.TheVariants.{U}
use Rattle.vital_machine.proofs.FitLemmas.{fitted-filled, filled-more}
use Rattle.vital_machine.proofs.slot.put_items.Goals as goal

pub returns : goal.returns
returns c =
    fitted-filled (length c.args.kept.now) c.args.levels.now c.loop-number.kept (omega arith)
    (λ i below. c.loop-number.invariant.1 i (omega arith))

pub loop-number-preserved : goal.loop-number-preserved
loop-number-preserved c = (
  ap length c.set.ensures ∙ length-set c.loop-number.kept c.loop-number.number c.level_at.result ∙ c.loop-number.invariant.0,
  λ i below.
      ap (λ (ls : List Level). get_or ls i U) c.set.ensures
      ∙ filled-more c.args.levels.now c.loop-number.kept c.loop-number.number c.level_at.result (omega arith) c.level_at.ensures c.loop-number.invariant.1 i below,
)
