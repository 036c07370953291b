use Rattle.std.proofs.Common.{◌<◌, length, refl, arith}
use Rattle.std.proofs.lemmas.List.{get_or_default}
use Rattle.std.specs.BTreeSet.{contains}
use Rattle.std.specs.Ordering.{nat_cmp}
use Rattle.vital_nodes.proofs.Lists.{filter_map-one, turn-behind}
use Rattle.vital_level1.specs.Uses.{wrong_use}
use Rattle.vital_level1.proofs.WrongLemmas.{numbers_more}
use Rattle.vital_level1.proofs.symbols.put_wrong.Goals as goal

pub loop-used-preserved : goal.loop-used-preserved
loop-used-preserved c =
    let uses = c.args.uses.now in
    let i = c.loop-used.used-index in
    let within : i < length uses = omega arith in
    record {
      places = turn-behind _ _ _ _ _ _ _ c.in_ok-put_wrong_use.ensures.places c.loop-used.invariant.places refl (filter_map-one (wrong_use c.args.names.now) uses i _ within (get_or_default uses i _ _ within));
      numbers = λ n. numbers_more c.args.names.now.files uses i _ n (contains nat_cmp c.args.numbers.now n) (contains nat_cmp c.loop-used.numbers n) _ within (get_or_default uses i _ _ within) (c.loop-used.invariant.numbers n) (c.in_ok-put_wrong_use.ensures.numbers n);
    }
