use Rattle.std.proofs.Common.{◌≡◌, List, drop, length, map, reverse, refl, ◌∙◌, ap}
use Rattle.std.specs.Prelude.{find}
use Rattle.std.specs.Iterator.Adapters.{rev_source}
use Rattle.std.specs.Option.{option_and_then}
use Rattle.std.specs.Slice.Iter.{iter_rest}
use Rattle.vital_nodes.specs.declared.decl.Iface.{Iface}
use Rattle.vital_objects.proofs.Turns.{all_left, all_taken, left_before, none_taken, put_one_before, value_here, with_taken}
use Rattle.vital_objects.specs.Ports.{default_behind, port, port_with}
use Rattle.vital_objects.specs.Together.{beside_lasts, is_last_interface}
use Rattle.vital_typed_declarations.specs.Declarations.{lent_sited}
use Rattle.vital_uses.specs.Sited.{Sited}
use Rattle.vital_objects.proofs.port.ports_backwards.Goals as goal

pub loop-port-init : goal.loop-port-init
loop-port-init c =
    let names = c.args.reader.now.names.now in
    let faults = c.args.reader.now.faults.now in
    let ds = c.args.ports.now in
    let rest = iter_rest (rev_source c.into_iter-port-iterator.result) in
    let all : rest ≡ ds = ap (λ s. iter_rest (rev_source s)) c.into_iter-port-iterator.ensures.into_iter_gives ∙ ap iter_rest c.rev-port-items.ensures.source ∙ c.iter.ensures.rest in
    record {
      left = all_left ds rest all;
      default = none_taken lent_sited (λ es. option_and_then (default_behind names faults) (find is_last_interface es)) _ ds rest all refl;
      put = none_taken lent_sited (λ es. reverse (map (port names faults) (beside_lasts is_last_interface es))) _ ds rest all c.new-found.ensures.items;
    }

pub loop-port-preserved : goal.loop-port-preserved
loop-port-preserved c =
    let names = c.args.reader.now.names.now in
    let faults = c.args.reader.now.faults.now in
    let ds = c.args.ports.now in
    let rest = iter_rest (rev_source c.loop-port.port-iterator) in
    let front = iter_rest (rev_source c.next.new.self) in
    let d = c.in-Some.port.now in
    let last = c.in-Some.ensures.steps in
    let left = c.loop-port.invariant.left in
    let done : List (Sited Iface) = map lent_sited (drop (length rest) ds) in
    let behind = value_here is_last_interface (default_behind names faults) (lent_sited d) done c.loop-port.default c.in_ok-default.default c.loop-port.invariant.default c.in_ok-default.ensures in
    record {
      left = left_before ds rest front d last left;
      default = with_taken lent_sited (λ es. option_and_then (default_behind names faults) (find is_last_interface es)) _ ds rest front d last left behind;
      put = with_taken lent_sited (λ es. reverse (map (port names faults) (beside_lasts is_last_interface es))) _ ds rest front d last left
          (put_one_before is_last_interface (port names faults) (lent_sited d) done _ _ _ c.loop-port.invariant.put c.in_ok-push.ensures.items (c.in_ok-port_with.ensures ∙ ap (λ o. port_with o d.declaration.now) behind));
    }

pub returns : goal.returns
returns c =
    all_taken lent_sited (λ es. reverse (map (port c.args.reader.now.names.now c.args.reader.now.faults.now) (beside_lasts is_last_interface es))) _ c.args.ports.now _ c.in-None.ensures.steps.0 c.loop-port.invariant.put
