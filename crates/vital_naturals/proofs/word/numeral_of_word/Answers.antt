use Rattle.std.proofs.Common.{◌≡◌, ◌∙◌}
use Rattle.std.proofs.lemmas.Result.{IfOk-weaker}
use Rattle.vital_naturals.proofs.WordLemmas.{numeral_of_decimal}
use Rattle.vital_naturals.proofs.word.numeral_of_word.Goals as goal
use Rattle.vital_naturals.specs.Numerals.{numeral}

pub returns : goal.returns
returns c =
    let is : c.as_bytes.result.now ≡ numeral c.args.word = c.as_bytes.ensures.value ∙ c.format.ensures.text ∙ numeral_of_decimal c.args.word c.ranges.word.fits in
    IfOk-weaker c.from_slice.result (λ v. v.items ≡ c.as_bytes.result.now) (λ v. v.items ≡ numeral c.args.word) (λ v e. e ∙ is) c.from_slice.ensures.items
