use Rattle.std.proofs.Common.{None, map, take}
use Rattle.vital_answers.specs.Cells.{AreJudged}
use Rattle.vital_answers.specs.Kept.{lent}
use Rattle.vital_answers.proofs.judging.judge_by.Given as goal

abbrev pub invariant-loop-cell : goal.invariant-loop-cell
invariant-loop-cell l = AreJudged (map (lent l.packages) (take l.cell-index l.cells)) l.levels.items None
