-- What indexes hold.
use Rattle.std.specs.Prelude.{◌≡◌, ℕ, ◌||◌, List, Option}
use Rattle.std.specs.BTreeMap.{BTreeMap, get}
use Rattle.std.specs.BTreeSet.{BTreeSet, contains}
use Rattle.std.specs.Borrow.{Bor}
use Rattle.std.specs.Ordering.{nat_cmp}
use Rattle.std.specs.Option.{option_map, option_or}
use Rattle.vital_base.specs.declared.place.Place.{Place}
use Rattle.vital_base.specs.Places.{compare_places}
use Rattle.vital_names.specs.declared.site.Site.{Site as Site'}
use Rattle.vital_names.specs.Sites as sites
use Rattle.vital_nodes.specs.declared.decl.Decl.{Decl}
use Rattle.vital_nodes.specs.declared.decl.Object.{Object}
use Rattle.vital_nodes.specs.declared.unit.Units.{Units}
use Rattle.vital_table_uses.specs.declared.table_use.TableUse.{TableUse}
use Rattle.vital_uses.specs.Sited.{Sited}
use Rattle.vital_level1.specs.Uses.{first_constant, is_among, wrong_numbers}

-- What is borrowed of a constant and its site.
abbrev pub lent_constant : (Site' × Bor Object) → Sited Object
lent_constant c = record { site = sites.lent c.0; declaration = c.1.now }

-- The constant that a map has at a place.
abbrev pub kept_at : BTreeMap Place (Site' × Bor Object) → Place → Option (Sited Object)
kept_at constants place = option_map lent_constant (get compare_places constants place)

-- A map has at each place the first constant of some declarations.
abbrev pub HasConstants : BTreeMap Place (Site' × Bor Object) → List (Sited Decl) → Type 0
HasConstants constants ds = (place : Place) → kept_at constants place ≡ first_constant place ds

-- It has those of one map, and behind them those of some declarations.
abbrev pub HasMoreConstants : BTreeMap Place (Site' × Bor Object) → BTreeMap Place (Site' × Bor Object) → List (Sited Decl) → Type 0
HasMoreConstants new old ds = (place : Place) → kept_at new place ≡ option_or (kept_at old place) (first_constant place ds)

-- A set has the numbers of one set, and those of the constants of packages that calls make wrong.
abbrev pub HasMoreWrong : BTreeSet ℕ → BTreeSet ℕ → List Units → List TableUse → Type 0
HasMoreWrong new old files us = (n : ℕ) → contains nat_cmp new n ≡ (contains nat_cmp old n || is_among (wrong_numbers files us) n)
