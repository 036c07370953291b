use Rattle.std.proofs.Common.{◌+◌, ◌∙◌, ap}
use Rattle.vital_cell.proofs.CellPutLemmas.{put-one}
use Rattle.vital_cell.specs.Execution.{Process'}
use Rattle.vital_cell.specs.Scopes.{lent}
use Rattle.vital_cell.proofs.processes.Processes.put_cell_process.Goals as goal

pub returns : goal.returns
returns c =
    put-one (lent c.args.scope.now) (Process' c.args.process.now) c.args.self.now c.put.new.self c.in_ok-driver.driver c.in_ok-made.made c.in_ok-driver.ensures.first
    c.in_ok-made.ensures.made c.in_ok-made.ensures.is c.in_ok-put.ensures.processes (c.in_ok-put.ensures.drivers ∙ ap (λ n. c.args.self.now.drivers + n) c.len-drivers.ensures)
