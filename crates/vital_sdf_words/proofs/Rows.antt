-- The definitions, tried on worked words.
use Rattle.std.proofs.Common.{◌≡◌, [], ◌∷◌, refl}
use Rattle.std.specs.Prelude.{codes, pos, negsuc}
use Rattle.vital_sdf_words.specs.Conditions.{condition_name, quoted_condition_name}
use Rattle.vital_sdf_words.specs.Decimals.{femtoseconds}
use Rattle.vital_sdf_words.specs.Paths.{parts}

-- numbers of nanoseconds
whole : femtoseconds (codes "1") 6 ≡ pos 1_000_000
whole = refl

signed_whole : femtoseconds (codes "+12") 6 ≡ pos 12_000_000
signed_whole = refl

negative : femtoseconds (codes "-1.5") 6 ≡ negsuc 1_499_999
negative = refl

fraction_alone : femtoseconds (codes ".25") 6 ≡ pos 250_000
fraction_alone = refl

-- half a femtosecond goes up, for either sign
half : femtoseconds (codes "0.0000005") 6 ≡ pos 1
half = refl

below_half : femtoseconds (codes "0.00000049999999999999999999999999999999999999") 6 ≡ pos 0
below_half = refl

negative_half : femtoseconds (codes "-0.0000005") 6 ≡ pos 0
negative_half = refl

past_negative_half : femtoseconds (codes "-0.00000050000000000000000000000000000000000001") 6 ≡ negsuc 0
past_negative_half = refl

three_negative_halves : femtoseconds (codes "-1.5") 0 ≡ negsuc 0
three_negative_halves = refl

three_halves : femtoseconds (codes "1.5") 0 ≡ pos 2
three_halves = refl

-- 2^50 and the first number of nanoseconds past it
greatest_delay : femtoseconds (codes "1125899906.842624") 6 ≡ pos 1_125_899_906_842_624
greatest_delay = refl

past_greatest_delay : femtoseconds (codes "1125899906.842625") 6 ≡ pos 1_125_899_906_842_625
past_greatest_delay = refl

-- the ends
at_end : femtoseconds (codes "1152921504606846976") 0 ≡ pos 1_152_921_504_606_846_976
at_end = refl

before_end : femtoseconds (codes "1152921504606846975.4") 0 ≡ pos 1_152_921_504_606_846_975
before_end = refl

clipped_high : femtoseconds (codes "1152921504606846977") 0 ≡ pos 1_152_921_504_606_846_976
clipped_high = refl

clipped_low : femtoseconds (codes "-99999999999999999999999999999999999999999999.9") 17 ≡ negsuc 1_152_921_504_606_846_975
clipped_low = refl

before_low_end : femtoseconds (codes "-1152921504606846975") 0 ≡ negsuc 1_152_921_504_606_846_974
before_low_end = refl

hundreds_of_seconds : femtoseconds (codes "2") 17 ≡ pos 200_000_000_000_000_000
hundreds_of_seconds = refl

leading_zeros : femtoseconds (codes "0000000000000000000000000000007") 3 ≡ pos 7_000
leading_zeros = refl

-- conditions
equal_and_equal : condition_name (codes "A==1'b1&&B==1'b0") ≡ codes "a_eq_1_and_b_eq_0"
equal_and_equal = refl

not_or_not : condition_name (codes "!A||~B") ≡ codes "not_a_or_not_b"
not_or_not = refl

exclusive_or : condition_name (codes "A^B") ≡ codes "a_xor_b"
exclusive_or = refl

bit_at_second_byte : condition_name (codes "X1'b0") ≡ codes "x0"
bit_at_second_byte = refl

case_not_equal : condition_name (codes "a!==b") ≡ codes "a_ne_b"
case_not_equal = refl

case_equal : condition_name (codes "a===b") ≡ codes "a_eq_b"
case_equal = refl

not_equal : condition_name (codes "a!=b") ≡ codes "a_ne_b"
not_equal = refl

one_bar : condition_name (codes "a|b&c") ≡ codes "a_or_b_and_c"
one_bar = refl

bits_without_width : condition_name (codes "a=='b0||b=='b1") ≡ codes "a_eq_0_or_b_eq_1"
bits_without_width = refl

capital_b : condition_name (codes "1'B0") ≡ codes "1_b0"
capital_b = refl

colon_stays_apart : condition_name (codes "ab:c") ≡ codes "ab_c"
colon_stays_apart = refl

hyphen : condition_name (codes "-") ≡ []
hyphen = refl

no_condition : condition_name [] ≡ []
no_condition = refl

quoted_underscores : quoted_condition_name (codes "_x1__y0") ≡ codes "x1_y0"
quoted_underscores = refl

quoted_capitals : quoted_condition_name (codes "X1_Y0") ≡ codes "x1_y0"
quoted_capitals = refl

quoted_blank : quoted_condition_name (codes "x1 y0") ≡ codes "x1 y0"
quoted_blank = refl

quoted_operator : quoted_condition_name (codes "a==b_") ≡ codes "a==b"
quoted_operator = refl

-- paths
two_parts : parts 46 (codes "a.b") ≡ codes "a" ∷ codes "b" ∷ []
two_parts = refl

escaped_divider : parts 46 (97 ∷ 92 ∷ 46 ∷ 98 ∷ []) ≡ codes "a.b" ∷ []
escaped_divider = refl

empty_last_part : parts 46 (codes "U1.") ≡ codes "U1" ∷ [] ∷ []
empty_last_part = refl

empty_first_part : parts 46 (codes ".A") ≡ [] ∷ codes "A" ∷ []
empty_first_part = refl

no_part : parts 46 [] ≡ [] ∷ []
no_part = refl

other_divider : parts 47 (codes "U1/A.b") ≡ codes "U1" ∷ codes "A.b" ∷ []
other_divider = refl

escaped_star : parts 46 (92 ∷ 42 ∷ []) ≡ codes "*" ∷ []
escaped_star = refl

-- a\\.b: the backslash is escaped, and the divider behind it is not
escaped_backslash : parts 46 (97 ∷ 92 ∷ 92 ∷ 46 ∷ 98 ∷ []) ≡ (97 ∷ 92 ∷ []) ∷ codes "b" ∷ []
escaped_backslash = refl

-- what an extended identifier holds keeps its doubled backslash
doubled_backslash : parts 46 (97 ∷ 92 ∷ 92 ∷ 92 ∷ 92 ∷ 98 ∷ []) ≡ (97 ∷ 92 ∷ 92 ∷ 98 ∷ []) ∷ []
doubled_backslash = refl

last_backslash : parts 46 (97 ∷ 46 ∷ 92 ∷ []) ≡ codes "a" ∷ (92 ∷ []) ∷ []
last_backslash = refl
