-- Worked rows of the definitions, by computation.
use Rattle.std.proofs.Common.{◌≡◌, [], ◌∷◌, refl}
use Rattle.vital_netlist.specs.Cells.{firsts}

row_none : firsts [] ≡ []
row_none = refl

row_firsts : firsts (3 ∷ 1 ∷ 3 ∷ 2 ∷ 1 ∷ []) ≡ 3 ∷ 1 ∷ 2 ∷ []
row_firsts = refl

row_same : firsts (7 ∷ 7 ∷ 7 ∷ []) ≡ 7 ∷ []
row_same = refl
