use Rattle.std.proofs.Common.{refl, arith}
use Rattle.vital_objects.specs.Generics.{plain_generic, timing_generic}
use Rattle.vital_typed_declarations.specs.Declarations.{lent_sited}
use Rattle.vital_nodes.proofs.Lists.{filter_map-seen, turn}
use Rattle.vital_objects.proofs.generic.generics_among.Goals as goal

pub loop-generic-preserved : goal.loop-generic-preserved
loop-generic-preserved c =
    let names = c.args.reader.now.names.now in
    let faults = c.args.reader.now.faults.now in
    record {
      timing = turn _ _ _ _ _ _ c.in_ok-put.ensures.timing c.loop-generic.invariant.timing refl
          (filter_map-seen lent_sited (timing_generic names faults c.args.known.now) c.args.generics.now c.loop-generic.generic-index c.generic-item.result (omega arith) c.generic-item.is);
      plain = turn _ _ _ _ _ _ c.in_ok-put.ensures.plain c.loop-generic.invariant.plain refl
          (filter_map-seen lent_sited (plain_generic names faults c.args.known.now) c.args.generics.now c.loop-generic.generic-index c.generic-item.result (omega arith) c.generic-item.is);
    }
