use Rattle.std.proofs.Common.{ℕ, List, ◌+◌, ◌∷◌, [], get_or, map, refl, ap, ◌∙◌, arith}
use Rattle.std.specs.Borrow.{Bor}
use Rattle.std.proofs.lemmas.List.{get_or_default, map-append}
use Rattle.vital_kernel.specs.DesignNetworks.{placed_cells}
use Rattle.vital_kernel.specs.Networks.{NetCell as NetCell', lent_cell}
use Rattle.vital_kernel.specs.declared.network.NetCell.{NetCell}
use Rattle.vital_kernel.specs.declared.placed.Placed.{Placed}
use Rattle.vital_kernel.proofs.AlikeCells.{one-more, one-more-number}
use Rattle.vital_kernel.proofs.PlacedCells.{cells-turn, count-at, seen, seen-are}
use Rattle.vital_kernel.proofs.Turns.{rest-one, rest-seen}
use Rattle.vital_kernel.proofs.cells.cells_from.Goals as goal
use Rattle.vital_timing.specs.declared.delay.Delay.{Delay}

pub loop-k-preserved : goal.loop-k-preserved
loop-k-preserved c =
    let d = c.args.design.now in
    let placed = c.args.placed.now in
    let values = c.args.values.now in
    let k = c.loop-k.k in
    let place = c.index-placed-k.result in
    let delays = c.index-values-k.result in
    let wires = c.index-wiring-k.result in
    let cell = c.in_ok-cell.cell in
    let made =
    cells-turn d (placed_cells d) (map (λ (v : Bor (List Delay)). v.now) values) c.args.wiring.now k c.loop-k.next c.in_ok-next.next (seen place) delays.now wires (lent_cell cell)
    (map lent_cell c.loop-k.cells.items) (map lent_cell c.push.new.self.items) _
    (rest-seen seen placed (placed_cells d) k place (seen-are placed (placed_cells d) c.requires.placed) (omega arith) c.index-placed-k.is)
    (rest-seen (λ (v : Bor (List Delay)). v.now) values (map (λ (v : Bor (List Delay)). v.now) values) k delays refl (omega arith) c.index-values-k.is)
    (rest-one c.args.wiring.now k wires (omega arith) c.index-wiring-k.is)
    c.in_ok-cell.ensures.cell
    (ap (λ (cells : List NetCell). map lent_cell cells) c.in_ok-push.ensures.items ∙ map-append lent_cell c.loop-k.cells.items (cell ∷ []))
    (c.in_ok-next.ensures ∙ ap (λ (n : ℕ). c.loop-k.next + n) (count-at placed (placed_cells d) k place c.requires.placed (omega arith) c.index-placed-k.is))
    c.loop-k.invariant.made in
    record {
      made = made;
      trees =
          one-more (λ (n : NetCell). n.cell.now) (λ (p : Placed). p.cell.now) c.loop-k.cells.items c.push.new.self.items cell placed k place (omega arith) c.index-placed-k.is c.in_ok-push.ensures.items
          (ap (λ (n : NetCell'). n.tree) c.in_ok-cell.ensures.cell) c.loop-k.invariant.trees;
      delays =
          one-more (λ (n : NetCell). n.values.now) (λ (v : Bor (List Delay)). v.now) c.loop-k.cells.items c.push.new.self.items cell values k delays (omega arith) c.index-values-k.is c.in_ok-push.ensures.items
          (ap (λ (n : NetCell'). n.delays) c.in_ok-cell.ensures.cell) c.loop-k.invariant.delays;
      alike =
          one-more-number (λ (n : NetCell). n.alike) c.loop-k.cells.items c.push.new.self.items cell c.args.alike.now k (get_or c.args.alike.now k 0) (omega arith)
          (get_or_default c.args.alike.now k 0 _ (omega arith)) c.in_ok-push.ensures.items c.in_ok-cell.ensures.alike c.loop-k.invariant.alike;
    }
