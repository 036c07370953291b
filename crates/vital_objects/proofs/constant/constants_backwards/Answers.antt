use Rattle.std.proofs.Common.{◌≡◌, List, drop, length, map, reverse, refl, ◌∙◌, ap}
use Rattle.std.specs.Prelude.{find}
use Rattle.std.specs.Iterator.Adapters.{rev_source}
use Rattle.std.specs.List.{filter_map}
use Rattle.std.specs.Option.{option_and_then}
use Rattle.std.specs.Slice.Iter.{iter_rest}
use Rattle.vital_nodes.specs.declared.decl.Decl.{Decl}
use Rattle.vital_objects.proofs.Turns.{all_left, all_taken, left_before, none_taken, put_before, value_here, with_taken}
use Rattle.vital_objects.specs.Constants.{constant, constant_of, value_behind}
use Rattle.vital_objects.specs.Together.{beside_lasts, is_last_declaration}
use Rattle.vital_typed_declarations.specs.Declarations.{lent_sited}
use Rattle.vital_uses.specs.Sited.{Sited}
use Rattle.vital_objects.proofs.constant.constants_backwards.Goals as goal

pub loop-declaration-init : goal.loop-declaration-init
loop-declaration-init c =
    let names = c.args.reader.now.names.now in
    let faults = c.args.reader.now.faults.now in
    let ds = c.args.declarations.now in
    let rest = iter_rest (rev_source c.into_iter-declaration-iterator.result) in
    let all : rest ≡ ds = ap (λ s. iter_rest (rev_source s)) c.into_iter-declaration-iterator.ensures.into_iter_gives ∙ ap iter_rest c.rev-declaration-items.ensures.source ∙ c.iter.ensures.rest in
    record {
      left = all_left ds rest all;
      value = none_taken lent_sited (λ es. option_and_then (value_behind names faults) (find is_last_declaration es)) _ ds rest all refl;
      put = none_taken lent_sited (λ es. reverse (filter_map (constant names faults) (beside_lasts is_last_declaration es))) _ ds rest all c.new-constants.ensures.items;
    }

pub loop-declaration-preserved : goal.loop-declaration-preserved
loop-declaration-preserved c =
    let names = c.args.reader.now.names.now in
    let faults = c.args.reader.now.faults.now in
    let ds = c.args.declarations.now in
    let rest = iter_rest (rev_source c.loop-declaration.declaration-iterator) in
    let front = iter_rest (rev_source c.next.new.self) in
    let d = c.in-Some.declaration.now in
    let last = c.in-Some.ensures.steps in
    let left = c.loop-declaration.invariant.left in
    let done : List (Sited Decl) = map lent_sited (drop (length rest) ds) in
    let behind = value_here is_last_declaration (value_behind names faults) (lent_sited d) done c.loop-declaration.value c.in_ok-value.value c.loop-declaration.invariant.value c.in_ok-value.ensures in
    record {
      left = left_before ds rest front d last left;
      value = with_taken lent_sited (λ es. option_and_then (value_behind names faults) (find is_last_declaration es)) _ ds rest front d last left behind;
      put = with_taken lent_sited (λ es. reverse (filter_map (constant names faults) (beside_lasts is_last_declaration es))) _ ds rest front d last left
          (put_before is_last_declaration (constant names faults) (lent_sited d) done _ _ _ c.loop-declaration.invariant.put c.in_ok-put_constant.ensures (ap (constant_of d.declaration.now) behind));
    }

pub returns : goal.returns
returns c =
    all_taken lent_sited (λ es. reverse (filter_map (constant c.args.reader.now.names.now c.args.reader.now.faults.now) (beside_lasts is_last_declaration es))) _ c.args.declarations.now _ c.in-None.ensures.steps.0 c.loop-declaration.invariant.put
