use Rattle.std.proofs.Common.{◌≡◌, ◌∙◌, [], ap, arith, rules}
use Rattle.std.proofs.lemmas.Grind.{common_steps}
use Rattle.vital_report.specs.Reporters.{PrinterState, ReporterState}
use Rattle.vital_run.proofs.Finishing.{answered, same_lender}
use Rattle.vital_run.proofs.OneAnswer.{nothing_given}
use Rattle.vital_answers.proofs.Printing.{if_told}
use Rattle.vital_run.proofs.program.run.Goals as goal

pub returns-in_default-clause-answered : goal.returns-in_default-clause-answered
returns-in_default-clause-answered g c =
    if_told (g.S.Shelf.files c.args.shelf.now) _ (λ files. nothing_given (record { first = c.one_first_breach.ensures; reads = record { vhdl = c.one_reading.ensures; sdf = c.one_reading-2.ensures }; judge = record { is = c.one_judge.ensures.is; only = c.one_judge.ensures.only }; run = record { one = c.one_run.ensures; ports = c.port_run.ensures } }) c.args.words.now.items files (g.K.Sink.told c.args.sink.now))

pub returns-clause-answered : goal.returns-clause-answered
returns-clause-answered g c =
    let old = c.new-printer.result in
    let mid = c.run_words-status.new.printer in
    let new = c.finish-ended.new.printer in
    let held : old.held ≡ [] = ap (λ (x : PrinterState). x.held) c.new-printer.ensures ∙ ap (λ (r : ReporterState). r.held) c.in-Ok.ensures in
    let told : old.told ≡ g.K.Sink.told c.args.sink.now = ap (λ (x : PrinterState). x.told) c.new-printer.ensures in
    let runs = c.run_words-status.ensures.runs in
    let lender = same_lender c.run_words-status.result c.finish-ended.result mid new c.finish-ended.ensures in
    answered (record { first = c.one_first_breach.ensures; reads = record { vhdl = c.one_reading.ensures; sdf = c.one_reading-2.ensures }; judge = record { is = c.one_judge.ensures.is; only = c.one_judge.ensures.only }; run = record { one = c.one_run.ensures; ports = c.port_run.ensures } }) c.args.words.now.items c.deref.result.now (g.S.Shelf.files c.args.shelf.now) c.run_words-status.result c.finish-ended.result old mid new
    (g.K.Sink.told c.args.sink.now) _ c.deref.ensures.value held told (first_of (search rules, grind (arith, common_steps))) runs.read_fault_prints_nothing runs.prints c.finish-ended.ensures
