-- What cells break by naming constants of packages.
use Rattle.std.specs.Prelude.{ℕ, Bool, List, ◌++◌, filter, map, Option}
use Rattle.std.specs.List.{filter_map, flat_map}
use Rattle.std.specs.Option.{option_and_then, option_map}
use Rattle.vital_base.specs.declared.place.Place.{Place}
use Rattle.vital_level1.specs.declared.package_names.NamedConstant.{NamedConstant}
use Rattle.vital_level1.specs.declared.package_names.PackageClause.{PackageClause}
use Rattle.vital_level1.specs.declared.package_names.PackageClause.TheVariants as clause
use Rattle.vital_limits.specs.ConstantLimits.{constant_meant}
use Rattle.vital_names.specs.Sites.{Cell}
use Rattle.vital_nodes.specs.declared.stmt.Process.{Process}
use Rattle.vital_package_constants.specs.declared.breaches.ConstantBreaches.{ConstantBreaches}
use Rattle.vital_package_constants.specs.Breaches.{breaches_at, breaks_any}
use Rattle.vital_uses.specs.Asked.{Asked, asked}
use Rattle.vital_uses.specs.Nodes.{nodes_of_process, nodes_outside_processes}
use Rattle.vital_uses.specs.Statements.{processes}

-- ---- names

-- A name that means a constant of a package, with the number of the constant.
abbrev pub named_by : Asked → Option NamedConstant
named_by a = option_map (λ n. record { number = n; place = a.identifier.place }) (option_and_then constant_meant a.meaning)

abbrev pub named_in : List Asked → List NamedConstant
named_in as' = filter_map named_by as'

abbrev pub named_in_process : Cell → Process → List NamedConstant
named_in_process cell p = named_in (asked cell (nodes_of_process p))

-- All such names of a cell.
abbrev pub named_constants : Cell → List NamedConstant
named_constants cell = named_in (asked cell (nodes_outside_processes cell)) ++ flat_map (named_in_process cell) (processes cell.arch)

-- The places of those of which a test of their number holds.
abbrev pub places_where : (ℕ → Bool) → List NamedConstant → List Place
places_where test named = map (λ c. c.place) (filter (λ c. test c.number) named)

-- ---- clauses

abbrev pub is_broken_by : PackageClause → ConstantBreaches → Bool
is_broken_by clause.Any b = breaks_any b
is_broken_by clause.Constants b = b.clause_3
is_broken_by clause.Calls b = b.clause_14
is_broken_by clause.Forms b = b.clause_15
is_broken_by clause.Names b = b.clause_16

abbrev pub breaks : PackageClause → List ConstantBreaches → ℕ → Bool
breaks clause known n = is_broken_by clause (breaches_at known n)
