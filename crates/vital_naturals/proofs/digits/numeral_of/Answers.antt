use Rattle.std.proofs.Common.{◌≡◌, ◌+◌, ◌<◌, [], ◌∷◌, length, map, reverse, sym, ap, ◌∙◌, arith}
use Rattle.std.proofs.lemmas.Bool.Decides.{nat_tests}
use Rattle.std.proofs.lemmas.Result.{IfOk-weaker}
use Rattle.vital_naturals.proofs.NumeralLemmas.{numeral_of_digits, numeral_of_zeros}
use Rattle.vital_naturals.proofs.digits.numeral_of.Goals as goal
use Rattle.vital_naturals.specs.Digits.{significant, value}
use Rattle.vital_naturals.specs.Numerals.{numeral}

pub returns-then-is_empty : goal.returns-then-is_empty
returns-then-is_empty c =
    let ds = c.args.digits.now in
    let none : length c.significant-shown.result.now ≡ 0 = grind (arith, nat_tests, c.is_empty.ensures, c.if-is_empty.true) in
    let zero = numeral_of_zeros ds (sym (ap length c.significant-shown.ensures.significant) ∙ none) in
    IfOk-weaker c.from_slice.result (λ v. v.items ≡ 48 ∷ []) (λ v. v.items ≡ numeral (value ds)) (λ v e. e ∙ sym zero) c.from_slice.ensures.items

pub returns-else-is_empty : goal.returns-else-is_empty
returns-else-is_empty c =
    let ds = c.args.digits.now in
    let some : 0 < length c.significant-shown.result.now = grind (arith, nat_tests, c.is_empty.ensures, c.if-is_empty.false) in
    let there : 0 < length (significant ds) = omega (arith, some, ap length c.significant-shown.ensures.significant) in
    let shown : map (λ d. 48 + d) (reverse c.significant-shown.result.now) ≡ numeral (value ds) =
    ap (λ es. map (λ d. 48 + d) (reverse es)) c.significant-shown.ensures.significant ∙ sym (numeral_of_digits ds c.requires there) in
    IfOk-weaker c.ascii_of.result (λ v. v.items ≡ map (λ d. 48 + d) (reverse c.significant-shown.result.now)) (λ v. v.items ≡ numeral (value ds)) (λ v e. e ∙ shown) c.ascii_of.ensures
