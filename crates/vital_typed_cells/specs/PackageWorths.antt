-- What the constants of packages are worth, each of which names only those before it.
use Rattle.std.specs.Prelude.{ℕ, true, List, [], ◌∷◌, ◌++◌, map, slice_get, Option, None}
use Rattle.std.specs.List.{fold}
use Rattle.std.specs.Option.{option_and_then, option_map}
use Rattle.vital_logic.specs.declared.level.Level.{Level}
use Rattle.vital_logic.specs.declared.level.Level.TheVariants.{U}
use Rattle.vital_objects.specs.declared.package_value.PackageValue.{PackageValue}
use Rattle.vital_objects.specs.declared.package_value.PackageValue.TheVariants as packaged
use Rattle.vital_operands.specs.declared.tree.ConstantName.{ConstantName}
use Rattle.vital_operands.specs.declared.tree.ConstantName.TheVariants as constant
use Rattle.vital_operands.specs.declared.tree.LevelExpr.{LevelExpr}
use Rattle.vital_timing.specs.declared.delay.Delay.TheVariants as delay
use Rattle.vital_typed_cells.specs.Expressions.{Delay', Level', Names, Rows, Time, Truth, Worth, level, level_of, truth}

-- By the numbers of the constants of all packages. One whose value is not of its type is worth nothing.
abbrev pub worth_at : List (Option Worth) → ℕ → Option Worth
worth_at ws n = option_and_then (λ w. w) (slice_get ws n)

abbrev pub of_packages : List (Option Worth) → ConstantName → Option Worth
of_packages ws (constant.Cell name) = None
of_packages ws (constant.Package n) = worth_at ws n

-- Nothing is named but constants of packages.
abbrev pub in_packages : List (Option Worth) → Names
in_packages ws = record { signal = λ name. U; variable = λ name. []; constant = of_packages ws; generic = λ name. delay.One 0; control = λ c. true }

abbrev pub package_worth : List (Option Worth) → PackageValue → Worth
package_worth ws (packaged.Level t) = Level' (level (in_packages ws) t)
package_worth ws (packaged.Boolean b) = Truth (truth (in_packages ws) b)
package_worth ws (packaged.Time t) = Time t
package_worth ws (packaged.Delay d) = Delay' d
package_worth ws (packaged.Table rows) = Rows rows

-- The rows of a value that is a table.
abbrev pub rows_in : PackageValue → List (List ℕ)
rows_in (packaged.Table rows) = rows
rows_in other = []

unfoldable pub packages_worth : List (Option PackageValue) → List (Option Worth)
packages_worth vs = fold (λ ws v. ws ++ option_map (package_worth ws) v ∷ []) [] vs

-- ---- as levels

-- The level that a value is worth where constants before it have these.
abbrev pub level_of_value : List (Option PackageValue) → Option PackageValue → Level
level_of_value vs v = level_of (option_map (package_worth (packages_worth vs)) v)

-- The levels that constants of packages are worth, by their numbers: U where one is worth no level.
abbrev pub package_levels : List (Option PackageValue) → List Level
package_levels vs = map level_of (packages_worth vs)

-- The level that an expression is worth in which nothing is named but constants of packages with these values, as in the default of a port
-- of a cell.
abbrev pub level_in_packages : List (Option PackageValue) → LevelExpr → Level
level_in_packages vs t = level (in_packages (packages_worth vs)) t
