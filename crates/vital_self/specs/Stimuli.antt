-- The file of the stimuli.
use Rattle.std.specs.Prelude.{ℕ, ◌+◌, ◌*◌, List, [], ◌∷◌, ◌++◌, codes, decimal}
use Rattle.vital_self.specs.Draws.{draw}
use Rattle.vital_self.specs.Lines.{text_of_lines, texts_below}

-- A port i0 to i7 gets this level at this time.
abbrev pub stimulus_of : ℕ → ℕ → ℕ → List ℕ
stimulus_of time port level = decimal time ++ codes " ns i" ++ decimal port ++ codes " " ++ decimal level ++ codes "\n"

-- The stimulus of this number, at one nanosecond more. Its port and then its level are drawn, behind the draws of the netlist
-- and of the stimuli before it.
abbrev pub stimulus : ℕ → ℕ → ℕ → List ℕ
stimulus seed cells k =
    stimulus_of (k + 1) (draw seed (2 * cells + 2 * k) 8) (draw seed (2 * cells + 2 * k + 1) 2)

-- Each port is 0 at first.
abbrev pub stimuli_start : List ℕ
stimuli_start = text_of_lines (
    codes "0 ns i0 0"
    ∷ codes "0 ns i1 0"
    ∷ codes "0 ns i2 0"
    ∷ codes "0 ns i3 0"
    ∷ codes "0 ns i4 0"
    ∷ codes "0 ns i5 0"
    ∷ codes "0 ns i6 0"
    ∷ codes "0 ns i7 0"
    ∷ [])

-- The text of `s`: twenty stimuli behind 0 ns.
abbrev pub stimuli : ℕ → ℕ → List ℕ
stimuli seed cells = stimuli_start ++ texts_below (stimulus seed cells) 20
