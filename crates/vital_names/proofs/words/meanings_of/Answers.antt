use Rattle.std.proofs.Common.{arith}
use Rattle.std.specs.Prelude.{[], false}
use Rattle.std.specs.Str.{bytes_eq}
use Rattle.vital_names.specs.declared.predeclared.Predeclared.TheVariants as word
use Rattle.vital_names.specs.FirstNames.{first_in}
use Rattle.vital_names.proofs.FirstLemmas.{value-more}
use Rattle.vital_names.proofs.words.meanings_of.Goals as goal

pub loop-word-preserved : goal.loop-word-preserved
loop-word-preserved c = λ name.
    value-more (λ entry. (entry.0.now, entry.1)) (λ w. bytes_eq w.0 name) (λ w. w.1) c.args.words.now c.loop-word.word-index (record { ref_ptr = (0, 0); now = [] }, word.Boolean false)
    (first_in c.loop-word.meanings name) (first_in c.put_first.new.names name) (omega arith)
    (c.loop-word.invariant name) (c.in_ok-put_first.ensures name)
