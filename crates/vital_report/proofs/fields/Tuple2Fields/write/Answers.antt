use Rattle.vital_report.proofs.FieldTexts.{fields_text-append}
use Rattle.vital_report.proofs.Passing.{fault_puts, puts_then}
use Rattle.vital_report.proofs.fields.Tuple2Fields.write.Goals as goal

pub returns-in_err-write-clause-puts : goal.returns-in_err-write-clause-puts
returns-in_err-write-clause-puts g c =
    rw (fields_text-append (g.A.Fields.listed c.args.self.now.0) (g.B.Fields.listed c.args.self.now.1))
    (fault_puts c.from_residual.result _ _ _ _ _ _ c.from_residual.ensures.0 c.in_err-write.ensures.puts)

pub returns-clause-puts : goal.returns-clause-puts
returns-clause-puts g c =
    rw (fields_text-append (g.A.Fields.listed c.args.self.now.0) (g.B.Fields.listed c.args.self.now.1))
    (puts_then c.write-2.result _ _ _ _ _ _ _ _ c.in_ok-write.ensures.puts c.write-2.ensures.puts)
