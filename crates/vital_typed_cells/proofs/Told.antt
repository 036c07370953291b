-- What is told of the outcomes of expressions.
use Rattle.vital_typed_cells.proofs.ToldNodes.{expression-told}
use Rattle.vital_typed_cells.proofs.ValueTrees.{AllTold}

pub all-told : AllTold
all-told = record {
  levels = λ c e none. (expression-told c e none).level;
  times = λ c e none. (expression-told c e none).time;
  delays = λ c d e none. (expression-told c e none).delay d;
}
