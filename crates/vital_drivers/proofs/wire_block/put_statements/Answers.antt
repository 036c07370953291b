use Rattle.std.proofs.Common.{◌∙◌, ap, sym, true, take, arith}
use Rattle.std.specs.Prelude.{◌||◌}
use Rattle.std.specs.List.{filter_map, list_any}
use Rattle.std.specs.Option.{option_to_list}
use Rattle.vital_drivers.specs.Clauses.{places_6_at}
use Rattle.vital_drivers.specs.Wires.{shares, wire_of}
use Rattle.vital_nodes.proofs.Lists.{turn-behind}
use Rattle.vital_statements.proofs.Steps.{any-kept, each-take, or-same, or-swap, place_if-same}
use Rattle.vital_drivers.proofs.wire_block.put_statements.Goals as goal

pub loop-conc-preserved : goal.loop-conc-preserved
loop-conc-preserved c =
    let x = c.conc-item.result in
    let cell = c.args.names.now in
    record {
      places = turn-behind _ _ _ _ _ _ _ c.in_ok-put_if.ensures c.loop-conc.invariant.places
          (place_if-same _ _ _ _ (c.in_ok-is_wrong.ensures.wrong ∙ or-same _ _ (wire_of cell x) true c.loop-conc.invariant.joined) c.place.ensures)
          (each-take (places_6_at cell) c.args.statements.now c.loop-conc.conc-index x (omega arith) c.conc-item.is);
      joined = λ w.
          c.in_ok-is_wrong.ensures.joined w
          ∙ ap (λ b. list_any (λ v. shares v w) (option_to_list (wire_of cell x)) || b) (c.loop-conc.invariant.joined w)
          ∙ or-swap (list_any (λ v. shares v w) (option_to_list (wire_of cell x))) (list_any (λ v. shares v w) (filter_map (wire_of cell) (take c.loop-conc.conc-index c.args.statements.now)))
          ∙ sym (any-kept (λ v. shares v w) (wire_of cell) c.args.statements.now c.loop-conc.conc-index x (omega arith) c.conc-item.is);
    }
