-- How long a change from an old level to a new one takes (IEEE 1076.4, package VITAL_Timing, VitalCalcDelay).
use Rattle.std.specs.Prelude.{ℕ, ◌==◌, min, max, List, [], ◌∷◌, if◌then◌else◌}
use Rattle.std.specs.List.{slice_index_or}
use Rattle.vital_logic.specs.declared.level.Level.{Level}
use Rattle.vital_logic.specs.declared.level.Level.TheVariants.{U, X, Zero, One, Z, W, L, H, Dash}
use Rattle.vital_timing.specs.declared.delay.Delay.{Delay}
use Rattle.vital_timing.specs.declared.delay.Delay.TheVariants as delay

-- The number of a level's class among 0, 1, Z and X, in which the rows and the columns of the table stand: 0 and L are of class 0,
-- 1 and H of class 1, Z of class Z, and all others of class X.
abbrev pub class_of : Level → ℕ
class_of Zero = 0
class_of L = 0
class_of One = 1
class_of H = 1
class_of Z = 2
class_of U = 3
class_of X = 3
class_of W = 3
class_of Dash = 3

-- Of two times: by the new level where that is 0 or 1, else by the old level where that is 0 or 1; else the greater one for Z, and
-- the lesser one for any other level.
abbrev pub time_of_two : Level → Level → ℕ → ℕ → ℕ
time_of_two new old tr01 tr10 =
    if class_of new == 0 then tr10
    else if class_of new == 1 then tr01
    else if class_of old == 0 then tr01
    else if class_of old == 1 then tr10
    else if class_of new == 2 then max tr01 tr10
    else min tr01 tr10

-- Of six times: the class of the old level is the row, and that of the new level the column.
abbrev pub table_of_six : ℕ → ℕ → ℕ → ℕ → ℕ → ℕ → List (List ℕ)
table_of_six tr01 tr10 tr0z trz1 tr1z trz0 =
    (tr10 ∷ tr01 ∷ tr0z ∷ min tr01 tr0z ∷ [])
    ∷ (tr10 ∷ tr01 ∷ tr1z ∷ min tr10 tr1z ∷ [])
    ∷ (trz0 ∷ trz1 ∷ max tr0z tr1z ∷ min trz1 trz0 ∷ [])
    ∷ (max tr10 trz0 ∷ max tr01 trz1 ∷ max tr1z tr0z ∷ min tr10 tr01 ∷ [])
    ∷ []

-- The time in a table at a row and a column. A table has all four rows and columns.
abbrev pub time_at : List (List ℕ) → ℕ → ℕ → ℕ
time_at table row column = slice_index_or (slice_index_or table row []) column 0

-- CalcDelay of a new level, an old level and a delay.
abbrev pub calc_delay : Level → Level → Delay → ℕ
calc_delay new old (delay.One time) = time
calc_delay new old (delay.Two tr01 tr10) = time_of_two new old tr01 tr10
calc_delay new old (delay.Six tr01 tr10 tr0z trz1 tr1z trz0) =
    time_at (table_of_six tr01 tr10 tr0z trz1 tr1z trz0) (class_of old) (class_of new)
