use Rattle.std.proofs.Common.{map, sym, ◌∙◌, ap, arith}
use Rattle.std.specs.Prelude.{cond, Some, None}
use Rattle.std.specs.List.{position_from}
use Rattle.std.specs.Option.{option_or}
use Rattle.std.specs.Str.{bytes_eq}
use Rattle.std.proofs.lemmas.Iterator.Adapters.{position_from-zero}
use Rattle.std.proofs.lemmas.List.{take_all}
use Rattle.vital_names.specs.FirstNames.{first_in}
use Rattle.vital_structure.specs.Faults.{is_named}
use Rattle.vital_structure.specs.Signals.{lent}
use Rattle.vital_structure.proofs.NumberLemmas.{number-more}
use Rattle.vital_structure.proofs.structure.numbers_of.Goals as goal

pub loop-number-preserved : goal.loop-number-preserved
loop-number-preserved c = λ name.
    let i = c.loop-number.number in
    let x = c.index-signals-number.result in
    let before = first_in c.loop-number.numbers name in
    number-more lent (λ s. is_named s name) c.args.signals.now i x before (first_in c.put_first.new.names name) (omega arith) (c.loop-number.invariant name)
    (
    c.in_ok-put_first.ensures name
    ∙ ap (λ n. option_or before (cond (bytes_eq n name) (Some i) None)) c.as_slice.ensures
    ∙ ap (λ y. option_or before (cond (is_named (lent y) name) (Some i) None)) c.index-signals-number.is
    )

pub returns : goal.returns
returns c = λ name.
    c.loop-number.invariant name
    ∙ ap (λ ss. position_from (λ s. is_named s name) 0 (map lent ss)) (take_all c.loop-number.number c.args.signals.now (omega arith))
    ∙ sym (position_from-zero (λ s. is_named s name) (map lent c.args.signals.now))
