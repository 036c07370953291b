-- The file of the netlist: instances of AND2, each of which may drive any later one.
use Rattle.std.specs.Prelude.{ℕ, ◌+◌, ◌-◌, ◌*◌, ◌==◌, nat_lt, List, [], ◌∷◌, ◌++◌, codes, decimal, if◌then◌else◌}
use Rattle.vital_self.specs.Draws.{draw}
use Rattle.vital_self.specs.Lines.{text_of_lines, texts_below}

-- What an input is associated with, by number: a port i0 to i7, or else a signal.
abbrev pub source : ℕ → List ℕ
source number = if nat_lt number 8 then codes "i" ++ decimal number else codes "n" ++ decimal (number - 8)

-- What an instance drives: the signal of its number, and the last instance the port o.
abbrev pub driven : ℕ → ℕ → List ℕ
driven cells k = if k + 1 == cells then codes "o" else codes "n" ++ decimal k

-- The instance of this number, whose inputs are associated with these sources.
abbrev pub instance_of : ℕ → ℕ → ℕ → ℕ → List ℕ
instance_of cells k a b =
    codes "  u" ++ decimal k ++ codes " : AND2 port map (A => " ++ source a ++ codes ", B => " ++ source b
    ++ codes ", Y => " ++ driven cells k ++ codes ");\n"

-- The instance of this number. Its inputs are drawn, A before B, among the ports and what the instances before it drive.
abbrev pub instance : ℕ → ℕ → ℕ → List ℕ
instance seed cells k = instance_of cells k (draw seed (2 * k) (8 + k)) (draw seed (2 * k + 1) (8 + k))

-- The declaration of the signal of this number.
abbrev pub signal : ℕ → List ℕ
signal k = codes "  signal n" ++ decimal k ++ codes " : STD_ULOGIC;\n"

-- The entity, and where its architecture begins.
abbrev pub netlist_start : List ℕ
netlist_start = text_of_lines (
    codes "entity g is"
    ∷ codes "  port ("
    ∷ codes "    i0 : in STD_LOGIC;"
    ∷ codes "    i1 : in STD_LOGIC;"
    ∷ codes "    i2 : in STD_LOGIC;"
    ∷ codes "    i3 : in STD_LOGIC;"
    ∷ codes "    i4 : in STD_LOGIC;"
    ∷ codes "    i5 : in STD_LOGIC;"
    ∷ codes "    i6 : in STD_LOGIC;"
    ∷ codes "    i7 : in STD_LOGIC;"
    ∷ codes "    o : out STD_LOGIC);"
    ∷ codes "end g;"
    ∷ codes "architecture s of g is"
    ∷ [])

-- The text of `g.vhd`: so many instances, and a signal for each but the last.
abbrev pub netlist : ℕ → ℕ → List ℕ
netlist seed cells =
    netlist_start ++ texts_below signal (cells - 1) ++ codes "begin\n" ++ texts_below (instance seed cells) cells ++ codes "end s;\n"
