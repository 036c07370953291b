-- Masks of the rows of a table. Bit k of a mask stands for row k.
use Rattle.std.specs.Prelude.{◌≡◌, ℕ, ◌+◌, ◌≤◌, Bool, true, List, [], ◌∷◌, map, length, slice_index}
use Rattle.std.specs.Simd.Lanes.{mask_l}
use Rattle.vital_logic.specs.declared.level.Level.{Level}
use Rattle.vital_logic.specs.declared.level.Level.TheVariants.{X, Zero, One}
use Rattle.vital_table.specs.declared.masks.ChangeMasks.{ChangeMasks}
use Rattle.vital_table.specs.declared.masks.LevelMasks.{LevelMasks}
use Rattle.vital_table.specs.Matches.{input_matches, level_matches, x01}

-- The mask of the rows that pass a test: the bit of a row is 1 where it passes and else 0, and all bits past the last row are 0.
abbrev pub mask_of : (List ℕ → Bool) → List (List ℕ) → ℕ
mask_of passes rows = mask_l (map passes rows)

-- Of masks for X, 0 and 1, the one for one of these.
abbrev pub mask_for : LevelMasks → Level → ℕ
mask_for masks Zero = masks.zero
mask_for masks One = masks.one
mask_for masks _ = masks.x

-- The mask for a level, which is taken without its strength.
abbrev pub mask_at : LevelMasks → Level → ℕ
mask_at masks level = mask_for masks (x01 level)

-- Of masks for changes from X, 0 and 1, those for one of these.
abbrev pub masks_from : ChangeMasks → Level → LevelMasks
masks_from masks Zero = masks.from_zero
masks_from masks One = masks.from_one
masks_from masks _ = masks.from_x

-- The mask for a previous and a present level, which are taken without their strengths.
abbrev pub change_mask_at : ChangeMasks → Level → Level → ℕ
change_mask_at masks old new = mask_at (masks_from masks (x01 old)) new

-- The masks for X, 0 and 1 are those of the rows that pass the test of each.
pub record AreFor (rows : List (List ℕ)) (passes : Level → List ℕ → Bool) (masks : LevelMasks) : Type 0 where
  pub x : masks.x ≡ mask_of (passes X) rows
  pub zero : masks.zero ≡ mask_of (passes Zero) rows
  pub one : masks.one ≡ mask_of (passes One) rows

-- The mask for each previous and present level is that of the rows whose symbol in the column of an input matches them.
abbrev pub IsInputColumn : List (List ℕ) → ℕ → ChangeMasks → Type 0
IsInputColumn rows column masks =
    (old new : Level) → change_mask_at masks old new ≡ mask_of (λ row. input_matches (slice_index row column) (x01 old) (x01 new)) rows

-- The mask for each level is that of the rows whose symbol in the column of a state matches it.
abbrev pub IsStateColumn : List (List ℕ) → ℕ → LevelMasks → Type 0
IsStateColumn rows column masks =
    (level : Level) → mask_at masks level ≡ mask_of (λ row. level_matches (slice_index row column) (x01 level)) rows

-- The same of several columns, the first of which has a number.
abbrev pub AreInputColumns : List (List ℕ) → ℕ → List ChangeMasks → Type 0
AreInputColumns rows column [] = Unit {0}
AreInputColumns rows column (masks ∷ more) = IsInputColumn rows column masks × AreInputColumns rows (column + 1) more

abbrev pub AreStateColumns : List (List ℕ) → ℕ → List LevelMasks → Type 0
AreStateColumns rows column [] = Unit {0}
AreStateColumns rows column (masks ∷ more) = IsStateColumn rows column masks × AreStateColumns rows (column + 1) more

-- The masks of a table: those of its inputs, those of its states, and that of all its rows.
pub record AreMasks (rows : List (List ℕ)) (inputs : List ChangeMasks) (states : List LevelMasks) (all : ℕ) : Type 0 where
  pub few : length rows ≤ 128
  pub of_inputs : AreInputColumns rows 0 inputs
  pub of_states : AreStateColumns rows (length inputs) states
  pub of_all : all ≡ mask_of (λ row. true) rows
