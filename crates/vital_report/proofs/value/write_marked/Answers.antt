use Rattle.std.proofs.Common.{decimal, sym}
use Rattle.vital_report.proofs.Passing.{fault_puts, puts_then}
use Rattle.vital_report.proofs.value.write_marked.Goals as goal

pub returns-in_err-put-clause-puts : goal.returns-in_err-put-clause-puts
returns-in_err-put-clause-puts g c =
    fault_puts c.from_residual.result _ _ _ (decimal c.args.number) _ _ c.from_residual.ensures.0 c.in_err-put.ensures.puts

pub returns-clause-puts : goal.returns-clause-puts
returns-clause-puts g c =
    rw (sym c.from.ensures) (puts_then c.write.result _ _ c.args.mark.now _ _ _ _ _ c.in_ok-put.ensures.puts c.write.ensures.puts)
