use Rattle.std.proofs.Common.{◌++◌, codes, decimal}
use Rattle.vital_report.proofs.Passing.{fault_puts, puts_then}
use Rattle.vital_report.proofs.value.ClauseValue.write.Goals as goal

pub returns-in_err-write_marked-clause-puts : goal.returns-in_err-write_marked-clause-puts
returns-in_err-write_marked-clause-puts g c =
    fault_puts c.from_residual.result _ _ (codes "L" ++ decimal c.args.self.now.level) (codes "." ++ decimal c.args.self.now.number) _ _
    c.from_residual.ensures.0 c.in_err-write_marked.ensures.puts

pub returns-clause-puts : goal.returns-clause-puts
returns-clause-puts g c =
    puts_then c.write_marked-2.result _ _ (codes "L" ++ decimal c.args.self.now.level) _ _ (codes "." ++ decimal c.args.self.now.number) _ _
    c.in_ok-write_marked.ensures.puts c.write_marked-2.ensures.puts
