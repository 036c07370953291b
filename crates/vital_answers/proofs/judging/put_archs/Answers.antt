use Rattle.std.proofs.Common.{refl}
use Rattle.vital_library.specs.Units.{archs_of_entity}
use Rattle.vital_answers.specs.Cells.{cell_with}
use Rattle.vital_answers.specs.Kept.{lent}
use Rattle.vital_answers.proofs.ListedCells.{one_more}
use Rattle.vital_answers.proofs.judging.put_archs.Goals as goal

pub loop-arch-preserved : goal.loop-arch-preserved
loop-arch-preserved c =
    let library = c.args.library.now in
    one_more (lent library) (cell_with library c.args.entity.now) c.args.found.now.items c.loop-arch.found.items _ _ (archs_of_entity c.args.number library) c.loop-arch.arch c.arch.result.now c.in_ok-push.ensures.items c.loop-arch.invariant
    c.arch.ensures refl
