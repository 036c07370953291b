use Rattle.std.proofs.Common.{◌≡◌, [], ◌∷◌, ◌++◌, subst, sym, ◌∙◌}
use Rattle.vital_naturals.proofs.DigitLemmas.{digits_before}
use Rattle.vital_naturals.proofs.NumeralLemmas.{some_last, zero_passed}
use Rattle.vital_naturals.proofs.digits.significant.Goals as goal
use Rattle.vital_naturals.specs.Digits.{AreDigits}

pub returns-then-last-ne0-clause-significant : goal.returns-then-last-ne0-clause-significant
returns-then-last-ne0-clause-significant c =
    let is : c.loop-last.rest.now ≡ c.in-Some.others.now ++ c.in-Some.last.now ∷ [] = c.in-Some.ensures.cases.0 in
    sym (some_last c.loop-last.rest.now c.in-Some.others.now c.in-Some.last.now is c.if-last-ne0.true) ∙ c.loop-last.invariant.1

pub loop-last-preserved : goal.loop-last-preserved
loop-last-preserved c =
    let is : c.loop-last.rest.now ≡ c.in-Some.others.now ++ c.in-Some.last.now ∷ [] = c.in-Some.ensures.cases.0 in (
      digits_before c.in-Some.others.now c.in-Some.last.now (subst AreDigits is c.loop-last.invariant.0),
      zero_passed c.loop-last.rest.now c.in-Some.others.now c.in-Some.last.now is c.if-last-ne0.false ∙ c.loop-last.invariant.1,
    )
