use Rattle.std.proofs.Common.{sym, ◌∙◌}
use Rattle.vital_associations.proofs.SumLemmas.{last-digit}
use Rattle.vital_associations.proofs.sum.split_last_digit.Goals as goal

pub returns-then-is_ascii_digit-clause-value : goal.returns-then-is_ascii_digit-clause-value
returns-then-is_ascii_digit-clause-value c =
    sym c.loop-byte.invariant.0
    ∙ last-digit c.loop-byte.rest.now c.in-Some.others.now c.in-Some.byte.now c.in-Some.ensures.cases.0 (sym c.is_ascii_digit.ensures.value ∙ c.if-is_ascii_digit.true)
