use Rattle.std.proofs.Common.{◌≡◌, ◌++◌, take}
use Rattle.vital_calls.specs.Formals as all_formals
use Rattle.vital_expr.specs.Seen.{lent}
use Rattle.vital_typed_statements.specs.Given.{all_given, are_all_typed, broken_ones, typed_ones}
use Rattle.vital_typed_statements.proofs.given.read_all_given.Given as goal

abbrev pub invariant-loop-position : goal.invariant-loop-position
invariant-loop-position l = record {
  given : l.given.given.items ≡ typed_ones (all_given (lent l.reader) (all_formals.lent l.formals) (take l.position l.items));
  all : l.given.are_all ≡ are_all_typed (all_given (lent l.reader) (all_formals.lent l.formals) (take l.position l.items));
  places : l.broken.items ≡ l.initial.broken.items ++ broken_ones (all_given (lent l.reader) (all_formals.lent l.formals) (take l.position l.items));
}
