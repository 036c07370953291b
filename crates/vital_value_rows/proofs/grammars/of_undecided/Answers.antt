use Rattle.std.proofs.Common.{refl, sym, subst}
use Rattle.vital_ll.specs.Choice.{IsWellFormed}
use Rattle.vital_ll.specs.Example.{undecided, undecided_ranks}
use Rattle.vital_value_rows.proofs.grammars.of_undecided.Goals as goal

pub make-requires : goal.make-requires
make-requires c = subst (λ g. IsWellFormed g) (sym c.in_ok-grammar.ensures) (c.ranks_derive.ensures undecided undecided_ranks refl)
