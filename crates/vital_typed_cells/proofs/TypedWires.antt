-- The wires of a typed tree are those of its cell.
use Rattle.std.proofs.Common.{◌≡◌, List, [], ◌∷◌, Option, Some, None, map, refl, ap, ◌∙◌}
use Rattle.std.specs.List.{cons_option, filter_map}
use Rattle.std.specs.Option.{option_map}
use Rattle.vital_typed_cells.specs.declared.wire.WireDelay.{WireDelay}
use Rattle.vital_typed_cells.specs.Wires.{joined, wire}
use Rattle.vital_drivers.specs.Wires.{Wire, wire_of}
use Rattle.vital_names.specs.Sites.{Cell}
use Rattle.vital_nodes.specs.declared.stmt.Conc.{Conc}

module _ {B : Type 0} (g : WireDelay → B) (h : Wire → B) (same : (w : Wire) → g (joined w) ≡ h w) where
  put : (o : Option Wire) (xs : List WireDelay) (ws : List Wire) → map g xs ≡ map h ws → map g (cons_option (option_map joined o) xs) ≡ map h (cons_option o ws)
  put None xs ws is = is
  put (Some w) xs ws is = ap (λ y. y ∷ map g xs) (same w) ∙ ap (λ ys. h w ∷ ys) is

  pub wires-kept : (cell : Cell) (cs : List Conc) → map g (filter_map (wire cell) cs) ≡ map h (filter_map (wire_of cell) cs)
  wires-kept cell [] = refl
  wires-kept cell (c ∷ cs) = put (wire_of cell c) (filter_map (wire cell) cs) (filter_map (wire_of cell) cs) (wires-kept cell cs)
