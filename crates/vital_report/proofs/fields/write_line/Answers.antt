use Rattle.std.proofs.Common.{◌++◌, codes, append_assoc}
use Rattle.vital_report.specs.Fields.{fields_text}
use Rattle.vital_report.proofs.Passing.{fault_puts, fault_then, wrote_then, puts_then}
use Rattle.vital_report.proofs.fields.write_line.Goals as goal

pub returns-in_err-put-clause-puts : goal.returns-in_err-put-clause-puts
returns-in_err-put-clause-puts g c =
    let fields = fields_text (g.F.Fields.listed c.args.fields.now) in
    rw (append_assoc c.args.start.now fields (codes "\n"))
    (fault_puts c.from_residual.result _ _ c.args.start.now (fields ++ codes "\n") _ _ c.from_residual.ensures.0 c.in_err-put.ensures.puts)

pub returns-in_err-write-clause-puts : goal.returns-in_err-write-clause-puts
returns-in_err-write-clause-puts g c =
    let fields = fields_text (g.F.Fields.listed c.args.fields.now) in
    fault_puts c.from_residual-in_err-write.result _ _ (c.args.start.now ++ fields) (codes "\n") _ _ c.from_residual-in_err-write.ensures.0
    (fault_then _ c.args.held.now c.args.start.now _ c.put.new.self fields _ c.in_ok-put.ensures.puts c.in_err-write.ensures.puts)

pub returns-clause-puts : goal.returns-clause-puts
returns-clause-puts g c =
    let fields = fields_text (g.F.Fields.listed c.args.fields.now) in
    puts_then c.put-2.result _ _ (c.args.start.now ++ fields) _ _ (codes "\n") _ _
    (wrote_then _ _ c.args.start.now _ _ fields _ _ c.in_ok-put.ensures.puts c.in_ok-write.ensures.puts) c.put-2.ensures.puts
