-- How deep a list of lexemes is nested.
use Rattle.std.specs.Prelude.{ℕ, ◌≤◌, List, [], ◌∷◌, length, take, Option, Some, None}
use Rattle.vital_lex.specs.Lexicon.{Lexicon}
use Rattle.vital_lex.specs.Pieces.{Lexeme}

-- The nesting after all of the lexemes, from `depth` on.
abbrev pub nesting_from : {Kind : Type 0} → Lexicon Kind → Option Kind → ℕ → List (Lexeme Kind) → ℕ
nesting_from lexicon before depth [] = depth
nesting_from lexicon before depth (l ∷ ls) = nesting_from lexicon (Some l.kind) (lexicon.nesting_after before depth l.kind) ls

-- The nesting just after the last of a text's lexemes.
unfoldable pub nesting : {Kind : Type 0} → Lexicon Kind → List (Lexeme Kind) → ℕ
nesting lexicon lexemes = nesting_from lexicon None 0 lexemes

-- After no lexeme the nesting is above 64.
abbrev pub IsShallow : {Kind : Type 0} → Lexicon Kind → List (Lexeme Kind) → Type 0
IsShallow lexicon lexemes = (n : ℕ) → n ≤ length lexemes → nesting lexicon (take n lexemes) ≤ 64
