use Rattle.std.proofs.Common.{[], arith}
use Rattle.std.specs.Prelude.{None}
use Rattle.vital_annotate.specs.Instances.{cell_instance}
use Rattle.vital_netlist.specs.Designs.{lent_instance}
use Rattle.vital_annotate.proofs.IndexLemmas.{found-more}
use Rattle.vital_annotate.proofs.target.targets.Goals as goal

pub loop-number-preserved : goal.loop-number-preserved
loop-number-preserved c =
    found-more (cell_instance c.args.design.now) lent_instance c.instances-instances.result.now c.loop-number.number (record { site = None; unit = record { ref_ptr = (0, 0); now = [] }; cell = None }) _ _ (omega arith)
    c.loop-number.invariant (c.in_ok-put_target.ensures c.args.design.now c.requires)
