-- Texts of several lines.
use Rattle.std.specs.Prelude.{ℕ, zero, suc, List, [], ◌∷◌, ◌++◌}

-- The text of these lines: each ends with a line feed.
abbrev pub text_of_lines : List (List ℕ) → List ℕ
text_of_lines [] = []
text_of_lines (line ∷ lines) = line ++ 10 ∷ text_of_lines lines

-- The texts that 0 to count - 1 give, one behind another.
unfoldable pub texts_below : (ℕ → List ℕ) → ℕ → List ℕ
texts_below text_of zero = []
texts_below text_of (suc count) = texts_below text_of count ++ text_of count
