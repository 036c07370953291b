use Rattle.std.proofs.Common.{◌≡◌, List, None, length, sym, ap, ◌∙◌, arith}
use Rattle.std.specs.List.{filter_map}
use Rattle.vital_words.specs.Commands.{rules_of}
use Rattle.vital_words.specs.Jobs.{file_in}
use Rattle.vital_words.specs.Refusals.{first_fault}
use Rattle.vital_words.specs.declared.command.KeyRule.{KeyRule}
use Rattle.vital_words.proofs.Room.{few_files}
use Rattle.vital_words.proofs.job.job_of.Goals as goal

pub returns-in-Some-2-clause-few_files : goal.returns-in-Some-2-clause-few_files
returns-in-Some-2-clause-few_files c =
    let words = c.args.words.now in
    let named : c.new.result ≡ filter_map (file_in (rules_of c.args.command)) words = c.new.ensures ∙ c.in_ok-files.ensures ∙ ap (λ (rules : List KeyRule). filter_map (file_in rules) words) c.rules-rules.ensures in
    let faultless : first_fault (rules_of c.args.command) words ≡ None = ap (λ (rules : List KeyRule). first_fault rules words) (sym c.rules-rules.ensures) ∙ sym c.first_fault.ensures ∙ c.in_default.is in
    omega (arith, ap length named, few_files c.args.command words faultless)
