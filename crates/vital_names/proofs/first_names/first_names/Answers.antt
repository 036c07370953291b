use Rattle.std.proofs.Common.{◌∙◌, ap, arith}
use Rattle.std.specs.Str.{bytes_eq}
use Rattle.vital_names.specs.Declarations.{identifier_of, lent}
use Rattle.vital_names.specs.FirstNames.{first_in}
use Rattle.vital_names.proofs.FirstLemmas.{first-more}
use Rattle.vital_names.proofs.first_names.first_names.Goals as goal

pub loop-one-preserved : goal.loop-one-preserved
loop-one-preserved c = λ name.
    first-more lent (λ d. bytes_eq (identifier_of d).name name) c.args.declared.now c.loop-one.one-index c.one-item.result
    (first_in c.loop-one.names name) _ (bytes_eq c.as_slice.result.now name) (omega arith) c.one-item.is
    (ap (λ bs. bytes_eq bs name) (c.as_slice.ensures ∙ ap (λ i. i.name) c.identifier.ensures))
    (c.loop-one.invariant name) (c.in_ok-put_first.ensures name)
