use Rattle.std.proofs.Common.{◌+◌, length, sym, ap, ◌∙◌}
use Rattle.vital_cell.specs.Execution.{all_executed}
use Rattle.vital_kernel.proofs.PlaceLemmas.{count-said, executed-long}
use Rattle.vital_kernel.proofs.places.process_count.Goals as goal

pub returns : goal.returns
returns c =
    let tree = c.cell-tree.result.now in
    count-said c.checked_add.result _ (c.len.result + c.len-2.result) (length (all_executed c.args.cell.now)) c.checked_add.ensures
    (ap (λ n. n + c.len-2.result) c.len.ensures
    ∙ ap (λ n. length tree.processes + n) c.len-2.ensures
    ∙ ap (λ t. length t.processes + length t.wires) c.cell-tree.ensures.value
    ∙ sym (executed-long c.args.cell.now))
