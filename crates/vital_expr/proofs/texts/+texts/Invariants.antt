use Rattle.std.proofs.Common.{◌≡◌, ◌++◌, take}
use Rattle.vital_expr.specs.Reading.{texts_of}
use Rattle.vital_expr.specs.Seen.{lent}
use Rattle.vital_expr.specs.Steps as steps
use Rattle.vital_expr.proofs.texts.+texts.Given as goal

abbrev pub invariant-texts-loop-term : goal.invariant-texts-loop-term
invariant-texts-loop-term l = record {
  trees : l.texts ≡ (texts_of (steps.readings_behind (lent l.reader) (take l.term-index l.terms))).tree;
  places : l.broken.items ≡ l.initial.broken.items ++ (texts_of (steps.readings_behind (lent l.reader) (take l.term-index l.terms))).places;
}
