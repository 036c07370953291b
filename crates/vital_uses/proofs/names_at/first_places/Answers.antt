use Rattle.std.proofs.Common.{[], arith}
use Rattle.std.specs.Str.{bytes_eq}
use Rattle.vital_names.specs.FirstNames.{first_in}
use Rattle.vital_names.proofs.FirstLemmas.{value-more}
use Rattle.vital_uses.specs.NamesAt.{lent_name}
use Rattle.vital_uses.proofs.names_at.first_places.Goals as goal

pub loop-one-preserved : goal.loop-one-preserved
loop-one-preserved c = λ name.
    value-more lent_name (λ n. bytes_eq n.name name) (λ n. n.place) c.args.names.now c.loop-one.one-index
    (record { name = record { ref_ptr = (0, 0); now = [] }; place = record { file = 0; line = 0; column = 0 } })
    (first_in c.loop-one.places name) _ (omega arith) (c.loop-one.invariant name) (c.in_ok-put_first.ensures name)
