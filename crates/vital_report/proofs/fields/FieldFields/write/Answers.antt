use Rattle.std.proofs.Common.{[], ◌++◌, codes}
use Rattle.std.proofs.lemmas.List.{append-nil}
use Rattle.vital_report.proofs.Passing.{fault_puts, puts_then}
use Rattle.vital_report.proofs.fields.FieldFields.write.Goals as goal

pub returns-in_err-put-clause-puts : goal.returns-in_err-put-clause-puts
returns-in_err-put-clause-puts g c =
    fault_puts c.from_residual.result _ _ (codes " ") (g.V.Value.bytes c.args.self.now.0 ++ []) _ _ c.from_residual.ensures.0 c.in_err-put.ensures.puts

pub returns-clause-puts : goal.returns-clause-puts
returns-clause-puts g c =
    rw (append-nil (g.V.Value.bytes c.args.self.now.0))
    (puts_then c.write.result _ _ (codes " ") _ _ _ _ _ c.in_ok-put.ensures.puts c.write.ensures.puts)
