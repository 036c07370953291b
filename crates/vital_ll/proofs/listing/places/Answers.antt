use Rattle.vital_ll.proofs.Listings.{places_more}
use Rattle.std.proofs.Common.{refl, arith, get_or}
use Rattle.vital_ll.specs.Listing.{step}
use Rattle.vital_ll.proofs.listing.places.Goals as goal

pub loop-step-preserved : goal.loop-step-preserved
loop-step-preserved c =
    let h = c.in_ok-push_places.ensures in
    places_more c.args.rules.now c.args.steps.now c.loop-step.step-index (get_or c.args.steps.now c.loop-step.step-index (step 0 0)) (step 0 0) c.symbols.result.now c.loop-step.places.items _ (omega arith) refl c.symbols.ensures h c.loop-step.invariant
