-- The order of breaches.
use Rattle.std.specs.Prelude.{List}
use Rattle.std.specs.List.Sorted.{IsStrictlySortedBy}
use Rattle.std.specs.Ordering.{nat_cmp, ordering_then}
use Rattle.std.specs.declared.cmp.Ordering.{Ordering}
use Rattle.vital_base.specs.declared.breach.Breach.{Breach}
use Rattle.vital_base.specs.declared.breach.Clause.{Clause}
use Rattle.vital_base.specs.Places.{compare_places}

-- Clauses are ordered by level and then by number, and breaches by place and then by clause.
abbrev pub compare_clauses : Clause → Clause → Ordering
compare_clauses a b = ordering_then (nat_cmp a.level b.level) (nat_cmp a.number b.number)

abbrev pub compare : Breach → Breach → Ordering
compare a b = ordering_then (compare_places a.place b.place) (compare_clauses a.clause b.clause)

-- Each breach stands before those after it.
abbrev pub Rises : List Breach → Type 0
Rises breaches = IsStrictlySortedBy compare breaches
