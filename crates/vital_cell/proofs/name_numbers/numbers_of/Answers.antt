use Rattle.std.proofs.Common.{[], map, sym, ◌∙◌, ap, arith}
use Rattle.std.specs.List.{position_from}
use Rattle.std.specs.Str.{bytes_eq}
use Rattle.std.proofs.lemmas.Iterator.Adapters.{position_from-zero}
use Rattle.std.proofs.lemmas.List.{take_all}
use Rattle.vital_names.specs.FirstNames.{first_in}
use Rattle.vital_cell.proofs.NumberLemmas.{number-more}
use Rattle.vital_cell.proofs.name_numbers.numbers_of.Goals as goal

pub loop-number-preserved : goal.loop-number-preserved
loop-number-preserved c = λ name.
    number-more (λ n. n.now) (λ n. bytes_eq n name) c.args.names.now c.loop-number.number (record { ref_ptr = (0, 0); now = [] })
    (first_in c.loop-number.numbers name) _ (omega arith) (c.loop-number.invariant name) (c.in_ok-put_first.ensures name)

pub returns : goal.returns
returns c = λ name.
    c.loop-number.invariant name
    ∙ ap (λ ns. position_from (λ n. bytes_eq n name) 0 (map (λ n. n.now) ns)) (take_all c.loop-number.number c.args.names.now (omega arith))
    ∙ sym (position_from-zero (λ n. bytes_eq n name) (map (λ n. n.now) c.args.names.now))
