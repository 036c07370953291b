use Rattle.std.proofs.Common.{◌≡◌, ◌+◌, ◌-◌, ◌*◌, ◌/◌, ◌^◌, FitsSigned, w64, to_z, of_z, rules, sym, ◌∙◌, ap, arith}
use Rattle.std.proofs.Math.Nat.{mul_assoc, pow-suc}
use Rattle.std.proofs.lemmas.Int.{ints}
use Rattle.vital_sdf_words.specs.Decimals.{all_digits, count_behind_point, signed}
use Rattle.vital_sdf_words.specs.Readings.{capped}
use Rattle.vital_sdf_words.proofs.ReadingLemmas.{ten_pow}
use Rattle.vital_sdf_words.proofs.SignLemmas.{nearest-clipped}
use Rattle.vital_sdf_words.proofs.TenthLemmas.{tenths}
use Rattle.vital_sdf_words.proofs.reading.Reading.rounded.Goals as goal

pub loop-preserved : goal.loop-preserved
loop-preserved c = λ n is.
    let i = c.loop.counter in
    let power : 10 ^ (i + 1) ≡ 10 ^ i * 10 = ap (λ j. 10 ^ j) (omega arith) ∙ pow-suc 10 i in
    let next : n * 10 ^ (i + 1) ≡ n * 10 ^ i * 10 + 0 = ap (λ p. n * p) power ∙ sym (mul_assoc n (10 ^ i) 10) ∙ omega arith in
    c.with_digit-tenths.ensures (n * 10 ^ i) (c.loop.invariant n is) ∙ ap capped (sym next)

pub returns : goal.returns
returns c = λ power bytes read.
    let m = all_digits bytes in
    let f = count_behind_point bytes in
    let t = tenths m f power in
    let fits : FitsSigned w64 c.signed.result = search rules in
    let same : to_z w64 (of_z w64 c.signed.result) ≡ c.signed.result = omega (arith, ints) in
    let turns : c.loop.counter ≡ (power + 1) - f = omega (arith, read.places) in
    let all : c.loop.tenths ≡ capped (m * 10 ^ power * 10 / 10 ^ f) =
    c.loop.invariant (m / 10 ^ (f - (power + 1))) read.tenths
    ∙ ap (λ k. capped (m / 10 ^ (f - (power + 1)) * 10 ^ k)) turns
    ∙ ap capped t.all in
    same
    ∙ c.signed.ensures
    ∙ ap (signed c.args.is_negative) (c.nearest.ensures.nearest (m * 10 ^ power) (10 ^ f) (ten_pow f) (record { tenths_are = all; more = read.more ∙ t.more }))
    ∙ nearest-clipped c.args.is_negative (m * 10 ^ power) (10 ^ f) (ten_pow f)
