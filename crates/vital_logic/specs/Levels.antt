-- The nine levels of a signal, and the bytes that they are written with (IEEE 1164-1993, 4.1).
use Rattle.std.specs.Prelude.{ℕ, List, [], ◌∷◌, Option, ◌==◌, ◌||◌, Bool, find}
use Rattle.std.specs.Char.{to_ascii_lowercase}
use Rattle.vital_logic.specs.declared.level.Level.{Level}
use Rattle.vital_logic.specs.declared.level.Level.TheVariants.{U, X, Zero, One, Z, W, L, H, Dash}

-- The levels, in the order of the standard.
abbrev pub levels : List Level
levels = U ∷ X ∷ Zero ∷ One ∷ Z ∷ W ∷ L ∷ H ∷ Dash ∷ []

-- The character of each level, as ASCII.
abbrev pub byte_of : Level → ℕ
byte_of U = 85
byte_of X = 88
byte_of Zero = 48
byte_of One = 49
byte_of Z = 90
byte_of W = 87
byte_of L = 76
byte_of H = 72
byte_of Dash = 45

-- Is a level written with this byte? Its letter may be small.
abbrev pub is_written : ℕ → Level → Bool
is_written byte level = byte == byte_of level || byte == to_ascii_lowercase (byte_of level)

-- The level that a byte writes, where there is one.
abbrev pub level_of : ℕ → Option Level
level_of byte = find (is_written byte) levels
