-- Numbers that are cut to tenths and then to the nearest whole number.
use Rattle.std.proofs.Common.{◌≡◌, ℕ, ◌+◌, ◌-◌, ◌*◌, ◌/◌, ◌%◌, ◌^◌, ◌<◌, ◌≤◌, true, false, sym, ◌∙◌, ap, arith}
use Rattle.std.specs.Prelude.{Bool, min}
use Rattle.std.proofs.Math.Nat.{add-mul-div_right, div-div-eq-div-mul}
use Rattle.std.proofs.lemmas.Nat.{div-add-mod', div-mul-add, mod_below}
use Rattle.std.proofs.lemmas.Bool.Decides.{nat_tests}
use Rattle.vital_sdf_words.specs.Readings.{IsCut, capped, half, magnitude}

-- a quotient of whole numbers, then cut to a tenth, is one quotient
cut : (x a d : ℕ) → 0 < d → (x / d + a) / 10 ≡ (x + a * d) / (d * 10)
cut x a d some = ap (λ q. q / 10) (sym (add-mul-div_right x a some)) ∙ div-div-eq-div-mul (x + a * d) d 10

-- both parts of a quotient divided by five
fifth : (x m r d : ℕ) → r < 5 → x ≡ m * 5 + r → x / (d * 10) ≡ m / (2 * d)
fifth x m r d small is =
    let five : d * 10 ≡ 5 * (2 * d) = omega arith in
    ap (λ k. x / k) five ∙ sym (div-div-eq-div-mul x 5 (2 * d)) ∙ ap (λ y. y / 5 / (2 * d)) is ∙ ap (λ q. q / (2 * d)) (div-mul-add m 5 r small)

nearest-up : (n d : ℕ) → 0 < d → (n * 10 / d + 5) / 10 ≡ (2 * n + d) / (2 * d)
nearest-up n d some = cut (n * 10) 5 d some ∙ fifth (n * 10 + 5 * d) (2 * n + d) 0 d (omega arith) (omega arith)

-- below its negative: where nothing is cut off, and where something is
nearest-down : (n d : ℕ) → 0 < d → n * 10 % d ≡ 0 → (n * 10 / d + 4) / 10 ≡ (2 * n + d - 1) / (2 * d)
nearest-down n d some none =
    let q = n * 10 / d in
    let whole : q * d + n * 10 % d ≡ n * 10 = div-add-mod' (n * 10) d in
    let up : (n * 10 + (d - 1)) / d ≡ q =
    let is : n * 10 + (d - 1) ≡ q * d + (d - 1) = omega arith in
    ap (λ x. x / d) is ∙ div-mul-add q d (d - 1) (omega arith) in
    ap (λ x. (x + 4) / 10) (sym up) ∙ cut (n * 10 + (d - 1)) 4 d some ∙ fifth (n * 10 + (d - 1) + 4 * d) (2 * n + d - 1) 4 d (omega arith) (omega arith)

nearest-down-more : (n d : ℕ) → 0 < d → 0 < n * 10 % d → (n * 10 / d + 5) / 10 ≡ (2 * n + d - 1) / (2 * d)
nearest-down-more n d some more =
    let q = n * 10 / d in
    let r = n * 10 % d in
    let whole : q * d + r ≡ n * 10 = div-add-mod' (n * 10) d in
    let below : r < d = mod_below (n * 10) d some in
    let up : (n * 10 + (d - 1)) / d ≡ q + 1 =
    let next : (q + 1) * d ≡ q * d + d = omega arith in
    let is : n * 10 + (d - 1) ≡ (q + 1) * d + (r - 1) = omega arith in
    ap (λ x. x / d) is ∙ div-mul-add (q + 1) d (r - 1) (omega arith) in
    let five : q + 5 ≡ (q + 1) + 4 = omega arith in
    ap (λ x. x / 10) five ∙ ap (λ x. (x + 4) / 10) (sym up) ∙ cut (n * 10 + (d - 1)) 4 d some ∙ fifth (n * 10 + (d - 1) + 4 * d) (2 * n + d - 1) 4 d (omega arith) (omega arith)

-- tenths that are no more than ten times the greatest answer give it
cap : (t q h : ℕ) → h ≤ 5 → 4 ≤ h → t ≡ capped q → t / 10 + (t % 10 + h) / 10 ≡ min (2 ^ 60) ((q + h) / 10)
cap t q h most least is = omega arith

pub nearest-of : (is_negative has_more : Bool) (n d t : ℕ) → 0 < d → IsCut n d t has_more → t / 10 + (t % 10 + half is_negative has_more) / 10 ≡ min (2 ^ 60) (magnitude is_negative n d)
nearest-of false has_more n d t some is = cap t (n * 10 / d) 5 (omega arith) (omega arith) is.tenths_are ∙ ap (min (2 ^ 60)) (nearest-up n d some)
nearest-of true false n d t some is =
    let flag = is.more in
    let none : n * 10 % d ≡ 0 = grind (arith, nat_tests) in
    cap t (n * 10 / d) 4 (omega arith) (omega arith) is.tenths_are ∙ ap (min (2 ^ 60)) (nearest-down n d some none)
nearest-of true true n d t some is =
    let flag = is.more in
    let rest : 0 < n * 10 % d = grind (arith, nat_tests) in
    cap t (n * 10 / d) 5 (omega arith) (omega arith) is.tenths_are ∙ ap (min (2 ^ 60)) (nearest-down-more n d some rest)
