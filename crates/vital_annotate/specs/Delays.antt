-- What becomes of the delay of a generic by the values of an entry.
use Rattle.std.specs.Prelude.{ℕ, ◌^◌, Bool, true, false, nat_lt, List, [], ◌∷◌, ◌++◌, map, replicate, take, Option, Some, None, ℤ, pos, negsuc, ◌+ℤ◌}
use Rattle.std.specs.List.{list_any, zip}
use Rattle.vital_base.specs.declared.corner.Corner.{Corner}
use Rattle.vital_base.specs.declared.corner.Corner.TheVariants as corner
use Rattle.vital_sdf.specs.declared.entry.Mode.{Mode}
use Rattle.vital_sdf.specs.declared.entry.Mode.TheVariants as mode
use Rattle.vital_sdf.specs.declared.entry.Triple.{Triple}
use Rattle.vital_timing.specs.declared.delay.Delay.{Delay}
use Rattle.vital_timing.specs.declared.delay.Delay.TheVariants as delay

-- The value of a triple at a corner, if it has one.
abbrev pub picked : Corner → Triple → Option ℤ
picked corner.Min t = t.min
picked corner.Typ t = t.typ
picked corner.Max t = t.max

-- The values of the changes to and from 1, 0 and Z, in the order 01, 10, 0Z, Z1, 1Z, Z0 (IEEE 1497). One value stands for all; of two the first
-- is for changes towards 1, and the second for those towards 0; with three, the third is for changes to Z; from four on they stand in order,
-- and those that are absent are empty.
abbrev pub by_changes : List (Option ℤ) → List (Option ℤ)
by_changes [] = replicate 6 None
by_changes (a ∷ []) = a ∷ a ∷ a ∷ a ∷ a ∷ a ∷ []
by_changes (a ∷ b ∷ []) = a ∷ b ∷ a ∷ a ∷ b ∷ b ∷ []
by_changes (a ∷ b ∷ c ∷ []) = a ∷ b ∷ c ∷ a ∷ c ∷ b ∷ []
by_changes (a ∷ b ∷ c ∷ d ∷ more) = take 6 (a ∷ b ∷ c ∷ d ∷ more ++ None ∷ None ∷ [])

-- ---- one time

-- A value stands in the place of a time, or is added to it; an empty one leaves it.
abbrev pub with_value : Mode → Option ℤ → ℕ → ℤ
with_value m None old = pos old
with_value mode.Replace (Some v) old = v
with_value mode.Add (Some v) old = pos old +ℤ v

-- A negative result becomes 0.
abbrev pub at_least_zero : ℤ → ℕ
at_least_zero (pos n) = n
at_least_zero (negsuc n) = 0

abbrev pub is_negative : ℤ → Bool
is_negative (pos n) = false
is_negative (negsuc n) = true

-- ---- a delay

-- A new delay, and whether a result was negative, and whether one is above 2^50 fs.
pub record Changed : Type 0 where
  pub delay : Delay
  pub is_negative : Bool
  pub is_large : Bool

abbrev pub times_of : Delay → List ℕ
times_of (delay.One t) = t ∷ []
times_of (delay.Two t01 t10) = t01 ∷ t10 ∷ []
times_of (delay.Six t01 t10 t0z tz1 t1z tz0) = t01 ∷ t10 ∷ t0z ∷ tz1 ∷ t1z ∷ tz0 ∷ []

-- A delay of the same type with these times.
abbrev pub with_times : Delay → List ℕ → Delay
with_times (delay.One t) (a ∷ more) = delay.One a
with_times (delay.Two t01 t10) (a ∷ b ∷ more) = delay.Two a b
with_times (delay.Six t01 t10 t0z tz1 t1z tz0) (a ∷ b ∷ c ∷ d ∷ e ∷ f ∷ more) = delay.Six a b c d e f
with_times d times = d

-- The results for the times of a delay: it takes as many values as it has times.
abbrev pub results : Corner → Mode → List Triple → Delay → List ℤ
results c m values d = map (λ p. with_value m p.1 p.0) (zip (times_of d) (by_changes (map (picked c) values)))

unfoldable pub changed : Corner → Mode → List Triple → Delay → Changed
changed c m values d = record {
  delay = with_times d (map at_least_zero (results c m values d));
  is_negative = list_any is_negative (results c m values d);
  is_large = list_any (λ z. nat_lt (2 ^ 50) (at_least_zero z)) (results c m values d);
}
