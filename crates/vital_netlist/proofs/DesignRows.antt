-- Worked rows of the definitions, by computation.
use Rattle.std.proofs.Common.{◌≡◌, [], ◌∷◌, refl}
use Rattle.std.specs.Prelude.{codes, Some, None}
use Rattle.vital_netlist.specs.Names.{bit_name, path_name, signal_name}

row_path_of_top : path_name [] ≡ codes "-"
row_path_of_top = refl

row_path_of_label : path_name (codes "u1" ∷ []) ≡ codes "u1"
row_path_of_label = refl

row_path : path_name (codes "u1" ∷ codes "v2" ∷ codes "w" ∷ []) ≡ codes "u1.v2.w"
row_path = refl

row_first_bit : bit_name (codes "q") (Some 0) ≡ codes "q(0)"
row_first_bit = refl

row_signal_of_top : signal_name [] (codes "p") (Some 1) ≡ codes "p(1)"
row_signal_of_top = refl

row_signal : signal_name (codes "u1" ∷ []) (codes "a_ipd") None ≡ codes "u1.a_ipd"
row_signal = refl

row_bit : signal_name (codes "u1" ∷ codes "v2" ∷ []) (codes "d") (Some 120) ≡ codes "u1.v2.d(120)"
row_bit = refl
