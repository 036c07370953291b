-- Instances of cells that are alike: they have the same cell and the same delays.
use Rattle.std.specs.Prelude.{◌≡◌, ℕ, ◌<◌, ◌≤◌, List, [], All, IfSome, length, slice_get, slice_index, slice_index_or}
use Rattle.vital_kernel.specs.declared.network.NetCell.{NetCell}
use Rattle.vital_timing.specs.declared.delay.Delay.{Delay}

-- The instance to which one is said to be alike is there, and has its cell and its delays.
pub record IsAlike (cells : List NetCell) (c : NetCell) : Type 0 where
  pub there : c.alike < length cells
  pub same : IfSome (slice_get cells c.alike) (λ other. (other.cell.now ≡ c.cell.now) × (other.values.now ≡ c.values.now))

abbrev pub AreAlike : List NetCell → Type 0
AreAlike cells = All (IsAlike cells) cells

-- ---- by the numbers of the cells of the instances, and their delays

-- The instance of a number, or one before it, has its cell and its delays.
pub record IsTwin (kinds : List ℕ) (values : List (List Delay)) (own other : ℕ) : Type 0 where
  pub before : other ≤ own
  pub kind : slice_index kinds other ≡ slice_index kinds own
  pub delays : slice_index_or values other [] ≡ slice_index_or values own []

-- There is one for each of the first so many instances.
pub record AreTwins (kinds : List ℕ) (values : List (List Delay)) (count : ℕ) (alike : List ℕ) : Type 0 where
  pub all : length alike ≡ count
  pub twins : (own : ℕ) → own < count → IsTwin kinds values own (slice_index alike own)
