-- The nearest whole number, as a sign and a natural number.
use Rattle.std.proofs.Common.{◌≡◌, ℕ, ◌+◌, ◌-◌, ◌*◌, ◌/◌, ◌^◌, ◌<◌, ◌≤◌, true, false, refl, sym, ◌∙◌, ap, arith, inl, inr}
use Rattle.std.specs.Prelude.{◌⊎◌, Bool, min, pos, negsuc, neg_ℤ, ◌+ℤ◌}
use Rattle.std.specs.Int.{int_div_euclid}
use Rattle.std.proofs.Math.Nat.{add-div_right, div-eq_of_lt}
use Rattle.std.proofs.lemmas.Int.{ints, clamps}
use Rattle.vital_sdf_words.specs.Decimals.{clipped, nearest, signed}
use Rattle.vital_sdf_words.specs.Readings.{magnitude}

below : (n d : ℕ) → 0 < d → (2 * n ≤ d) ⊎ (d < 2 * n) → nearest true n d ≡ neg_ℤ (pos (magnitude true n d))
below n d some (inl near) =
    let sum : neg_ℤ (pos (2 * n)) +ℤ pos d ≡ pos (d - 2 * n) = omega (arith, ints) in
    let up : (d - 2 * n) / (2 * d) ≡ 0 = div-eq_of_lt (omega arith) in
    let down : (2 * n + d - 1) / (2 * d) ≡ 0 = div-eq_of_lt (omega arith) in
    ap (λ z. int_div_euclid z (pos (2 * d))) sum ∙ ap pos up ∙ ap (λ k. neg_ℤ (pos k)) (sym down)
below n d some (inr far) =
    let sum : neg_ℤ (pos (2 * n)) +ℤ pos d ≡ negsuc (2 * n - d - 1) = omega (arith, ints) in
    let more : 2 * n + d - 1 ≡ (2 * n - d - 1) + 2 * d = omega arith in
    let down : (2 * n + d - 1) / (2 * d) ≡ (2 * n - d - 1) / (2 * d) + 1 = ap (λ x. x / (2 * d)) more ∙ add-div_right (2 * n - d - 1) (omega arith) in
    let next : negsuc ((2 * n - d - 1) / (2 * d)) ≡ neg_ℤ (pos ((2 * n - d - 1) / (2 * d) + 1)) = omega (arith, ints) in
    ap (λ z. int_div_euclid z (pos (2 * d))) sum ∙ next ∙ ap (λ k. neg_ℤ (pos k)) (sym down)

near_or_far : (a d : ℕ) → (a ≤ d) ⊎ (d < a)
near_or_far a d = grind arith

nearest-signed : (is_negative : Bool) (n d : ℕ) → 0 < d → nearest is_negative n d ≡ signed is_negative (magnitude is_negative n d)
nearest-signed false n d some = refl
nearest-signed true n d some = below n d some (near_or_far (2 * n) d)

clipped-signed : (is_negative : Bool) (m : ℕ) → clipped (signed is_negative m) ≡ signed is_negative (min (2 ^ 60) m)
clipped-signed false m = omega (arith, ints, clamps)
clipped-signed true m = omega (arith, ints, clamps)

pub nearest-clipped : (is_negative : Bool) (n d : ℕ) → 0 < d → signed is_negative (min (2 ^ 60) (magnitude is_negative n d)) ≡ clipped (nearest is_negative n d)
nearest-clipped is_negative n d some = sym (ap clipped (nearest-signed is_negative n d some) ∙ clipped-signed is_negative (magnitude is_negative n d))
