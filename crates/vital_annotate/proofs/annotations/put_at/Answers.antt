use Rattle.std.proofs.Common.{arith, refl}
use Rattle.vital_annotate.proofs.StateLemmas.{put-row}
use Rattle.vital_annotate.proofs.annotations.put_at.Goals as goal

pub returns-then-number-len : goal.returns-then-number-len
returns-then-number-len c = put-row c.args.values.now.items c.args.instance c.args.number c.args.delay c.index_mut.result.now _ (omega arith) c.index_mut.ensures.value refl
