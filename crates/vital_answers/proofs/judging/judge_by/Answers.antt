use Rattle.std.proofs.Common.{◌+◌, ◌<◌, List, Some, drop, length, map, take, sym, subst, arith}
use Rattle.vital_names.specs.Sites.{Cell}
use Rattle.vital_answers.specs.Cells.{AreJudged}
use Rattle.vital_answers.specs.Kept.{lent}
use Rattle.vital_answers.proofs.Judged.{ended, more}
use Rattle.vital_answers.proofs.ListedCells.{next, parted}
use Rattle.vital_answers.proofs.judging.judge_by.Goals as goal

pub returns-in-Err-Limit : goal.returns-in-Err-Limit
returns-in-Err-Limit c =
    let see = lent c.args.packages.now in
    let cells = c.args.cells.now in
    let i = c.loop-cell.cell-index in
    let here = c.cell-item.result in
    let within : i < length cells = omega arith in
    let is = rw (c.in-Err-Limit.is, c.in-Err-Limit.field-0-is) at c.verdict.ensures in
    let all = ended (map see (take i cells)) (map see (drop (i + 1) cells)) c.loop-cell.levels.items (see here) c.in-Err-Limit.limit c.loop-cell.invariant is in
    rw (c.in-Err-Limit.field-0-is) (subst (λ (cs : List Cell). AreJudged cs c.loop-cell.levels.items (Some c.in-Err-Limit.limit)) (sym (parted see cells i here within c.cell-item.is)) all)

pub loop-cell-preserved : goal.loop-cell-preserved
loop-cell-preserved c =
    let see = lent c.args.packages.now in
    let cells = c.args.cells.now in
    let i = c.loop-cell.cell-index in
    let here = c.cell-item.result in
    let within : i < length cells = omega arith in
    let is = rw c.in-Ok.is at c.verdict.ensures in
    let all = more (map see (take i cells)) c.loop-cell.levels.items (see here) c.in-Ok.level c.loop-cell.invariant is in
    rw (next see cells i here within c.cell-item.is, c.in_ok-push-in-Ok.ensures.items) all
