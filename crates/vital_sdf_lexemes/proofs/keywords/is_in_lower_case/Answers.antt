use Rattle.std.proofs.Common.{arith, sym, ◌∙◌}
use Rattle.vital_sdf_lexemes.proofs.KeywordTables.{other_byte, same_bytes}
use Rattle.vital_sdf_lexemes.proofs.keywords.is_in_lower_case.Goals as goal

pub returns-then-to_ascii_lowercase-lower : goal.returns-then-to_ascii_lowercase-lower
returns-then-to_ascii_lowercase-lower c =
    sym (other_byte c.args.lower.now c.args.word.now c.loop-i.i (omega arith) (λ e. c.if-to_ascii_lowercase-lower.true (c.to_ascii_lowercase.ensures.value ∙ e)))

pub returns : goal.returns
returns c = sym (same_bytes c.args.lower.now c.args.word.now c.if-word-lower.false (λ k below. c.loop-i.invariant k (omega arith)))
