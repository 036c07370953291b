-- The order of places.
use Rattle.std.specs.Prelude.{Bool}
use Rattle.std.specs.Ordering.{is_lt, nat_cmp, ordering_then}
use Rattle.std.specs.declared.cmp.Ordering.{Ordering}
use Rattle.vital_base.specs.declared.place.Place.{Place}

-- Places are ordered by file, then line, then column.
abbrev pub compare_places : Place → Place → Ordering
compare_places a b = ordering_then (nat_cmp a.file b.file) (ordering_then (nat_cmp a.line b.line) (nat_cmp a.column b.column))

-- One place stands before another.
abbrev pub is_before : Place → Place → Bool
is_before a b = is_lt (compare_places a b)
