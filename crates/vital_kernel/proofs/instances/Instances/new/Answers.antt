use Rattle.std.proofs.Common.{arith}
use Rattle.vital_kernel.proofs.StartLemmas.{all-first, all-run, alike-stands, begin-more, none-in, none-more}
use Rattle.vital_kernel.proofs.instances.Instances.new.Goals as goal

pub put_instance-requires-clause-alike : goal.put_instance-requires-clause-alike
put_instance-requires-clause-alike c =
    alike-stands c.args.cells.now c.loop-cell.cell-index c.cell-item.result c.loop-cell.programs.items c.loop-cell.instances.items (omega arith) c.cell-item.is c.requires.alike c.loop-cell.invariant.begin

pub loop-cell-preserved : goal.loop-cell-preserved
loop-cell-preserved c =
    let before = c.loop-cell.programs.items in
    let after = c.put_instance.new.programs.items in
    let more = c.in_ok-put_instance.ensures.more in
    record {
      begin = begin-more c.args.cells.now c.loop-cell.cell-index c.cell-item.result before after c.loop-cell.instances.items c.put_instance.new.instances.items (omega arith) c.cell-item.is c.loop-cell.invariant.begin more c.in_ok-put_instance.ensures.put;
      none = none-more before after c.loop-cell.invariant.none more;
    }

pub returns-clause-are : goal.returns-clause-are
returns-clause-are c =
    all-run c.args.cells.now c.loop-cell.cell-index c.loop-cell.programs.items c.loop-cell.instances.items (omega arith) c.loop-cell.invariant.begin

pub returns-clause-first : goal.returns-clause-first
returns-clause-first c =
    all-first c.args.cells.now c.loop-cell.cell-index c.loop-cell.programs.items c.loop-cell.instances.items (omega arith) c.loop-cell.invariant.begin

pub returns-clause-none : goal.returns-clause-none
returns-clause-none c = none-in c.loop-cell.programs.items 0 c.loop-cell.invariant.none
