use Rattle.std.proofs.Common.{List, get_or, map, ◌≡◌, ◌++◌, [], Option, refl, sym, ap, subst, ◌∙◌, arith}
use Rattle.std.specs.Prelude.{IfSome, slice_get, Some}
use Rattle.std.specs.List.{cons_option, enumerate_from, filter_map}
use Rattle.std.specs.Option.{option_and_then, option_map}
use Rattle.vital_netlist.specs.Designs.{lent_instance}
use Rattle.vital_kernel.specs.DesignNetworks.{placed_cell}
use Rattle.vital_kernel.specs.Placed.{CountedCell, HaveKinds, lent_placed, with_count}
use Rattle.vital_kernel.specs.declared.placed.Placed.{Placed}
use Rattle.vital_kernel.proofs.AlikeCells.{kinds-put}
use Rattle.vital_kernel.proofs.PlacedCells.{as-read, map-made, nothing, put-is}
use Rattle.vital_kernel.proofs.Turns.{filter_map-turn, rest-seen}
use Rattle.vital_kernel.proofs.placed.placed_cells.Goals as goal
use Rattle.vital_typed_cells.specs.declared.typed_cell.TypedCell.{TypedCell}

pub loop-number-init : goal.loop-number-init
loop-number-init c =
    let d = c.args.design.now in
    record {
      counted =
          ap (λ (all : List Placed). map lent_placed all ++ filter_map (λ i. option_map with_count (placed_cell d i)) (enumerate_from 0 d.instances)) c.new-all.ensures.items
          ∙ map-made with_count (placed_cell d) (enumerate_from 0 d.instances);
      kinds = subst (HaveKinds d.cells) (sym c.new-all.ensures.items) refl;
    }

pub loop-number-preserved : goal.loop-number-preserved
loop-number-preserved c =
    let d = c.args.design.now in
    let n = c.loop-number.number in
    let instances = c.instances-instances.result.now in
    let instance = get_or instances n nothing in
    let all = c.loop-number.all.items in
    record {
      counted =
          filter_map-turn (λ i. option_map with_count (placed_cell d i)) d.instances n (lent_instance instance) (map lent_placed all) (map lent_placed c.put.new.all.items) _
          (rest-seen lent_instance instances d.instances n instance c.instances-instances.ensures (omega arith) (as-read instances n (omega arith))) c.loop-number.invariant.counted
          (put-is c.place_of.result all c.put.new.all.items c.in_ok-put.ensures
          ∙ ap (λ (o : Option CountedCell). map lent_placed all ++ cons_option o [])
          (c.place_of.ensures.counted ∙ ap (λ (cells : List TypedCell). option_map with_count (option_map (λ tree. (n, tree)) (option_and_then (slice_get cells) instance.cell))) c.cells-cells.ensures));
      kinds =
          kinds-put d.cells c.place_of.result all c.put.new.all.items c.loop-number.invariant.kinds
          (subst (λ (cells : List TypedCell). IfSome c.place_of.result (λ place. slice_get cells place.kind ≡ Some place.cell.now)) c.cells-cells.ensures c.place_of.ensures.kind) c.in_ok-put.ensures;
    }
