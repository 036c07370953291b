-- The tables of the levels, as the standard prints them (IEEE 1164-1993, package body std_logic_1164).
use Rattle.std.specs.Prelude.{ℕ, List, [], ◌∷◌, codes, fold}
use Rattle.std.specs.List.{filter_map, slice_index_or}
use Rattle.vital_logic.specs.declared.level.Level.{Level}
use Rattle.vital_logic.specs.declared.level.Level.TheVariants.{U, X, Zero, One, Z, W, L, H, Dash}
use Rattle.vital_logic.specs.Levels.{level_of}

-- The number of a level in the order of the standard, U X 0 1 Z W L H -, in which the rows and the columns of tables stand.
abbrev pub position_of : Level → ℕ
position_of U = 0
position_of X = 1
position_of Zero = 2
position_of One = 3
position_of Z = 4
position_of W = 5
position_of L = 6
position_of H = 7
position_of Dash = 8

-- The levels that the bytes of a printed row write.
abbrev pub row : List ℕ → List Level
row bytes = filter_map level_of bytes

-- The result in a row at a level's column. A row has all nine columns, so that U stands for none that is missing.
abbrev pub entry : List Level → Level → Level
entry results a = slice_index_or results (position_of a) U

-- The result in a table at the first operand's row and the second operand's column. A table has all nine rows.
abbrev pub entry_at : List (List Level) → Level → Level → Level
entry_at table a b = entry (slice_index_or table (position_of a) []) b

-- resolution_table
abbrev pub resolution_table : List (List Level)
resolution_table =
    row (codes "UUUUUUUUU")
    ∷ row (codes "UXXXXXXXX")
    ∷ row (codes "UX0X0000X")
    ∷ row (codes "UXX11111X")
    ∷ row (codes "UX01ZWLHX")
    ∷ row (codes "UX01WWWWX")
    ∷ row (codes "UX01LWLWX")
    ∷ row (codes "UX01HWWHX")
    ∷ row (codes "UXXXXXXXX")
    ∷ []

-- and_table
abbrev pub and_table : List (List Level)
and_table =
    row (codes "UU0UUU0UU")
    ∷ row (codes "UX0XXX0XX")
    ∷ row (codes "000000000")
    ∷ row (codes "UX01XX01X")
    ∷ row (codes "UX0XXX0XX")
    ∷ row (codes "UX0XXX0XX")
    ∷ row (codes "000000000")
    ∷ row (codes "UX01XX01X")
    ∷ row (codes "UX0XXX0XX")
    ∷ []

-- or_table
abbrev pub or_table : List (List Level)
or_table =
    row (codes "UUU1UUU1U")
    ∷ row (codes "UXX1XXX1X")
    ∷ row (codes "UX01XX01X")
    ∷ row (codes "111111111")
    ∷ row (codes "UXX1XXX1X")
    ∷ row (codes "UXX1XXX1X")
    ∷ row (codes "UX01XX01X")
    ∷ row (codes "111111111")
    ∷ row (codes "UXX1XXX1X")
    ∷ []

-- xor_table
abbrev pub xor_table : List (List Level)
xor_table =
    row (codes "UUUUUUUUU")
    ∷ row (codes "UXXXXXXXX")
    ∷ row (codes "UX01XX01X")
    ∷ row (codes "UX10XX10X")
    ∷ row (codes "UXXXXXXXX")
    ∷ row (codes "UXXXXXXXX")
    ∷ row (codes "UX01XX01X")
    ∷ row (codes "UX10XX10X")
    ∷ row (codes "UXXXXXXXX")
    ∷ []

-- not_table
abbrev pub not_table : List Level
not_table = row (codes "UX10XX10X")

-- cvt_to_x01
abbrev pub x01_table : List Level
x01_table = row (codes "XX01XX01X")

-- cvt_to_x01z
abbrev pub x01z_table : List Level
x01z_table = row (codes "XX01ZX01X")

-- cvt_to_ux01
abbrev pub ux01_table : List Level
ux01_table = row (codes "UX01XX01X")

-- What the drivers of a signal have together: one value is itself, and of more each is resolved with what those before it
-- give, from Z on.
abbrev pub resolved : List Level → Level
resolved (value ∷ []) = value
resolved values = fold (entry_at resolution_table) Z values
