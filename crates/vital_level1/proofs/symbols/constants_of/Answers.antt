use Rattle.std.proofs.Common.{arith}
use Rattle.vital_level1.specs.Kept.{kept_at}
use Rattle.vital_level1.specs.Uses.{constant_at, declared_in}
use Rattle.vital_level1.proofs.ConstantLemmas.{first_of_more}
use Rattle.vital_level1.proofs.symbols.constants_of.Goals as goal

pub loop-region-preserved : goal.loop-region-preserved
loop-region-preserved c = λ place.
    first_of_more (constant_at place) declared_in c.args.regions.now c.loop-region.region-index c.region-item.result
    (kept_at c.loop-region.constants place) _ (omega arith) c.region-item.is (c.loop-region.invariant place) (c.in_ok-put_constants_of.ensures place)
