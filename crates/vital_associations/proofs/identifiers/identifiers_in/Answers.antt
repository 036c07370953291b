use Rattle.std.proofs.Common.{arith}
use Rattle.vital_associations.specs.Identifiers.{most_nested}
use Rattle.vital_associations.proofs.IdentifierLemmas.{level-found, levels-found}
use Rattle.vital_associations.proofs.identifiers.identifiers_in.Goals as goal

pub loop-preserved : goal.loop-preserved
loop-preserved c = level-found most_nested c.loop.counter _ _ _ _ _ (omega arith) c.in_ok-level.ensures.found c.in_ok-level.ensures.next c.loop.invariant

pub returns : goal.returns
returns c = levels-found most_nested c.loop.counter _ _ _ (omega arith) c.loop.invariant
