use Rattle.std.proofs.Common.{◌≡◌, ◌∙◌, [], ap, arith, rules}
use Rattle.std.proofs.lemmas.Grind.{common_steps}
use Rattle.vital_report.specs.Reporters.{PrinterState, ReporterState}
use Rattle.vital_run.proofs.Finishing.{same_lender}
use Rattle.vital_run.proofs.Selves.{gives_over}
use Rattle.vital_run.proofs.self_run.run_over.Goals as goal

pub returns-clause-gives : goal.returns-clause-gives
returns-clause-gives g c = λ answer is.
    let old = c.new-printer.result in
    let mid = c.run_sources-status.new.printer in
    let new = c.finish-ended.new.printer in
    let held : old.held ≡ [] = ap (λ (x : PrinterState). x.held) c.new-printer.ensures ∙ ap (λ (r : ReporterState). r.held) c.in-Ok.ensures in
    let told : old.told ≡ g.K.Sink.told c.args.sink.now = ap (λ (x : PrinterState). x.told) c.new-printer.ensures in
    let stage = c.run_sources-status.ensures in
    let lender = same_lender c.run_sources-status.result c.finish-ended.result mid new c.finish-ended.ensures in
    gives_over answer c.run_sources-status.result c.finish-ended.result old mid new (g.K.Sink.told c.args.sink.now) _ held told (first_of (search rules, grind (arith, common_steps)))
    (λ e. absurd (stage.no_read_fault e)) (stage.prints answer is) c.finish-ended.ensures
