use Rattle.std.proofs.Common.{ap, arith}
use Rattle.std.specs.Str.{bytes_eq}
use Rattle.vital_annotate.proofs.PathKeyLemmas.{numbers-more}
use Rattle.vital_annotate.proofs.path_keys.numbers_by_key.Goals as goal

pub loop-number-preserved : goal.loop-number-preserved
loop-number-preserved c = λ key.
    numbers-more (λ k. k.items) (λ k. bytes_eq k key) c.args.keys.now c.loop-number.number c.index-keys-number.result _ _ (bytes_eq c.as_slice.result.now key) (omega arith)
    c.index-keys-number.is (ap (λ bs. bytes_eq bs key) c.as_slice.ensures.value) (c.loop-number.invariant key) (c.in_ok-put_number.ensures key)
