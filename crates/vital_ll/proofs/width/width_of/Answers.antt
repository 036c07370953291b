use Rattle.std.proofs.Common.{get_or, sym, subst, refl, arith, Contains}
use Rattle.std.proofs.lemmas.List.{take_all}
use Rattle.std.proofs.lemmas.List.Elements.{Contains-get_or}
use Rattle.vital_ll.specs.Listing.{step}
use Rattle.vital_ll.proofs.Known.{width_more}
use Rattle.vital_ll.proofs.width.width_of.Goals as goal

pub loop-step-preserved : goal.loop-step-preserved
loop-step-preserved c = (
  c.widest-width.ensures.narrow,
  width_more c.args.rules.now c.args.steps.now c.loop-step.step-index c.loop-step.width c.widest-width.result (get_or c.args.steps.now c.loop-step.step-index (step 0 0)) (step 0 0) c.symbols.result.now
      c.loop-step-test.true refl c.widest-width.ensures.wider c.symbols.ensures c.widest-width.ensures.below c.loop-step.invariant.1,
  λ n all.
      c.widest-width.ensures.least n (c.loop-step.invariant.2 n all)
      (all (get_or c.args.steps.now c.loop-step.step-index (step 0 0)) c.symbols.result.now (Contains-get_or c.args.steps.now c.loop-step.step-index (step 0 0) c.loop-step-test.true) c.symbols.ensures),
)

pub returns-clause-below : goal.returns-clause-below
returns-clause-below c =
    λ s chosen contained. c.loop-step.invariant.1 s chosen (subst (λ l. Contains l s) (sym (take_all c.loop-step.step-index c.args.steps.now (omega arith))) contained)
