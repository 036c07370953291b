-- Lines and columns of a text.
use Rattle.std.specs.Prelude.{ℕ, ◌+◌, ◌==◌, List, length, take, count_by}
use Rattle.std.specs.List.{after_last}

-- The line of an offset, from 1: one plus the number of LF before it.
abbrev pub line_of : List ℕ → ℕ → ℕ
line_of text offset = 1 + count_by (λ b. b == 10) (take offset text)

-- The column of an offset, from 1: one plus the bytes before it since the last LF.
abbrev pub column_of : List ℕ → ℕ → ℕ
column_of text offset = 1 + length (after_last (λ b. b == 10) (take offset text))
