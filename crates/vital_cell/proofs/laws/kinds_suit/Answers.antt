use Rattle.vital_cell.specs.Scopes.{names_of_variables}
use Rattle.vital_cell.proofs.CheckLemmas.{all-keep-on}
use Rattle.vital_cell.proofs.FitsLemmas.{kinds-suit}
use Rattle.vital_cell.proofs.laws.kinds_suit.Goals as goal

pub returns : goal.returns
returns c = λ k checks slots others same are kept. (
  kinds-suit k.variables slots others same are,
  all-keep-on (names_of_variables k) slots others checks same kept,
)
