-- Classes of bytes (IEEE 1497, the lexical conventions of an SDF file).
use Rattle.std.specs.Prelude.{ℕ, Bool, not, ◌&&◌, ◌||◌, ◌==◌, nat_lt}

-- A blank: a space, or a tab, LF or CR. VT and FF are none.
abbrev pub is_blank : ℕ → Bool
is_blank b = b == 32 || b == 9 || b == 10 || b == 13

-- A byte that a word may have as it stands: above the space, and no `"`, `(`, `)` or `:`.
abbrev pub is_word_byte : ℕ → Bool
is_word_byte b = nat_lt 32 b && not (b == 34 || b == 40 || b == 41 || b == 58)
