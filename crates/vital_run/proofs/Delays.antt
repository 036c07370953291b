-- Delays that fit the instances of cells of a design fit those that the network of the design places.
use Rattle.std.proofs.Common.{◌≡◌, ℕ, ◌+◌, List, [], ◌∷◌, map, Option, Some, None, refl, sym, ap, subst}
use Rattle.std.specs.Borrow.{Bor}
use Rattle.std.specs.List.{AllZip, cons_option, enumerate_from, filter_map, slice_get}
use Rattle.std.specs.Option.{option_and_then, option_map}
use Rattle.vital_annotate.specs.Instances.{CellInstance, cell_instance, cell_instances}
use Rattle.vital_kernel.specs.DesignNetworks.{placed_cell, placed_cells}
use Rattle.vital_netlist.specs.Designs.{Design, DesignInstance, labels}
use Rattle.vital_timing.specs.declared.delay.Delay.{Delay}
use Rattle.vital_typed_cells.specs.Fits.{FitsCell}
use Rattle.vital_typed_cells.specs.declared.typed_cell.TypedCell.{TypedCell}

-- ---- they are instances of the same cells

one_more : (d : Design) (k : ℕ) (i : DesignInstance) (found : Option TypedCell) (is : List CellInstance) (ps : List (ℕ × TypedCell)) → map (λ x. x.cell) is ≡ map (λ p. p.1) ps
    → map (λ x. x.cell) (cons_option (option_map (λ cell. record { labels = labels d k; entity = i.unit; cell = cell }) found) is) ≡ map (λ p. p.1) (cons_option (option_map (λ tree. (k, tree)) found) ps)
one_more d k i None is ps same = same
one_more d k i (Some tree) is ps same = ap (λ (cells : List TypedCell). tree ∷ cells) same

same_cells : (d : Design) (k : ℕ) (instances : List DesignInstance)
    → map (λ i. i.cell) (filter_map (cell_instance d) (enumerate_from k instances)) ≡ map (λ p. p.1) (filter_map (placed_cell d) (enumerate_from k instances))
same_cells d k [] = refl
same_cells d k (i ∷ instances) =
    one_more d k i (option_and_then (slice_get d.cells) i.cell) (filter_map (cell_instance d) (enumerate_from (k + 1) instances)) (filter_map (placed_cell d) (enumerate_from (k + 1) instances))
    (same_cells d (k + 1) instances)

-- ---- what fits the one fits the other

lent_fit : (is : List CellInstance) (ps : List (ℕ × TypedCell)) (values : List (List Delay)) (lent : List (Bor (List Delay))) → map (λ i. i.cell) is ≡ map (λ p. p.1) ps → map (λ v. v.now) lent ≡ values
    → AllZip (λ i delays. FitsCell i.cell delays) is values → AllZip (λ p delays. FitsCell p.1 delays.now) ps lent
lent_fit [] [] [] [] same are fit = tt
lent_fit (i ∷ is) (p ∷ ps) (v ∷ values) (l ∷ lent) same are fit =
    let cell : i.cell ≡ p.1 = cc in
    let cells : map (λ (x : CellInstance). x.cell) is ≡ map (λ (x : ℕ × TypedCell). x.1) ps = cc in
    let first : l.now ≡ v = cc in
    let others : map (λ (x : Bor (List Delay)). x.now) lent ≡ values = cc in (
      subst (λ (c : TypedCell). FitsCell c l.now) cell (subst (λ (delays : List Delay). FitsCell i.cell delays) (sym first) fit.0),
      lent_fit is ps values lent cells others fit.1,
    )
lent_fit [] (p ∷ ps) values lent same are fit = absurd cc
lent_fit (i ∷ is) [] values lent same are fit = absurd cc
lent_fit [] [] (v ∷ values) lent same are fit = absurd fit
lent_fit [] [] [] (l ∷ lent) same are fit = absurd cc
lent_fit (i ∷ is) (p ∷ ps) [] lent same are fit = absurd fit
lent_fit (i ∷ is) (p ∷ ps) (v ∷ values) [] same are fit = absurd cc

pub delays_fit : (d : Design) (values : List (List Delay)) (lent : List (Bor (List Delay))) → map (λ v. v.now) lent ≡ values → AllZip (λ i delays. FitsCell i.cell delays) (cell_instances d) values
    → AllZip (λ placed delays. FitsCell placed.1 delays.now) (placed_cells d) lent
delays_fit d values lent are fit = lent_fit (cell_instances d) (placed_cells d) values lent (same_cells d 0 d.instances) are fit
