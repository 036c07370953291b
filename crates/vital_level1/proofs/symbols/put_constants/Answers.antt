use Rattle.std.proofs.Common.{arith}
use Rattle.vital_typed_declarations.specs.Declarations.{lent_sited}
use Rattle.vital_level1.specs.Kept.{kept_at}
use Rattle.vital_level1.specs.Uses.{constant_at}
use Rattle.vital_level1.proofs.ConstantLemmas.{first_more}
use Rattle.vital_level1.proofs.symbols.put_constants.Goals as goal

pub loop-declaration-preserved : goal.loop-declaration-preserved
loop-declaration-preserved c = λ place.
    first_more (constant_at place) lent_sited c.args.declarations.now c.loop-declaration.declaration-index c.declaration-item.result
    (kept_at c.args.constants.now place) (kept_at c.loop-declaration.constants place) _ (omega arith) c.declaration-item.is (c.loop-declaration.invariant place) (c.in_ok-put_constant.ensures place)
