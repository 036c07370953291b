use Rattle.vital_cell.proofs.CellPutLemmas.{put-one}
use Rattle.vital_cell.proofs.StepLemmas.{wire-is}
use Rattle.vital_cell.specs.Execution.{Wire}
use Rattle.vital_cell.specs.Scopes.{lent}
use Rattle.vital_cell.proofs.processes.Processes.put_wire.Goals as goal

pub returns : goal.returns
returns c =
    let k = lent c.args.scope.now in
    let driver = c.in_ok-driver.driver in
    let made = c.wire_process-made.result in
    put-one k (Wire c.args.wire.now) c.args.self.now c.put.new.self driver made c.in_ok-driver.ensures.first c.wire_process-made.ensures
    (wire-is k driver c.args.wire.now made c.requires c.wire_process-made.ensures) c.in_ok-put.ensures.processes c.in_ok-put.ensures.drivers
