use Rattle.std.proofs.Common.{arith, sym, ◌∙◌}
use Rattle.vital_annotate.proofs.PartLemmas.{other-byte, same-bytes}
use Rattle.vital_annotate.proofs.parts.is_folded.Goals as goal

pub returns-then-to_ascii_lowercase-text : goal.returns-then-to_ascii_lowercase-text
returns-then-to_ascii_lowercase-text c =
    sym (other-byte c.args.text.now c.args.other.now c.loop-i.i (omega arith) (λ e. c.if-to_ascii_lowercase-text.true (c.to_ascii_lowercase.ensures.value ∙ e)))

pub returns : goal.returns
returns c = sym (same-bytes c.args.text.now c.args.other.now c.if-text-other.false (λ k below. c.loop-i.invariant k (omega arith)))
