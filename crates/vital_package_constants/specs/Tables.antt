-- Calls that make tables wrong: a symbol stands in a column that may not have it. Part of L1.3.
use Rattle.std.specs.Prelude.{ℕ, Bool, false, not, ◌&&◌, List, slice_get}
use Rattle.std.specs.List.{list_any}
use Rattle.std.specs.Option.{option_and_then, option_map_or}
use Rattle.vital_declaration_clauses.specs.Scopes.{Scope, InPackage}
use Rattle.vital_expr.specs.Readings.{Context}
use Rattle.vital_library.specs.Constants.{constants_of}
use Rattle.vital_limits.specs.NodeLimits.{is_long_table}
use Rattle.vital_nodes.specs.declared.decl.Object.{Object}
use Rattle.vital_nodes.specs.declared.unit.Units.{Units}
use Rattle.vital_nodes.specs.Nodes.{Node}
use Rattle.vital_tables.specs.Symbols.{allows}
use Rattle.vital_tables.specs.Tables.{rows_of}
use Rattle.vital_table_uses.specs.declared.table_use.TableUse.{TableUse}
use Rattle.vital_table_uses.specs.declared.table_use.UsedTable.{UsedTable}
use Rattle.vital_table_uses.specs.declared.table_use.UsedTable.TheVariants as used
use Rattle.vital_table_uses.specs.TableUses.{truth_use_at}

-- A constant whose value is no table of symbols breaks L1.3 in any case.
abbrev pub is_wrong_in : TableUse → Scope → Object → Bool
is_wrong_in u scope o = option_map_or (λ rows. not (allows u.kind u.inputs u.states rows)) (option_and_then (rows_of scope) o.parts.value) false

-- The constant of a package that has this number is wrong for a call.
abbrev pub is_wrong_package : List Units → TableUse → ℕ → Bool
is_wrong_package files u n = option_map_or (is_wrong_in u (InPackage files n)) (slice_get (constants_of files) n) false

-- ---- calls in values of constants of packages, which name no table but one of a package

-- The constant of a package that has this number is a table that passes a limit.
abbrev pub is_long_package : List Units → ℕ → Bool
is_long_package files n = option_map_or is_long_table (slice_get (constants_of files) n) false

-- Of a table that passes a limit nothing is asked: no cell may name it, nor a constant whose value names it.
abbrev pub makes_wrong : List Units → TableUse → UsedTable → Bool
makes_wrong files u (used.Cell place) = false
makes_wrong files u (used.Package n) = not (is_long_package files n) && is_wrong_package files u n

-- The call at a node makes the table wrong that it uses.
abbrev pub makes_wrong_at : List Units → Context → Node → Bool
makes_wrong_at files c v = option_map_or (λ u. makes_wrong files u u.table) (truth_use_at c v) false

abbrev pub has_wrong_table : List Units → Context → List Node → Bool
has_wrong_table files c vs = list_any (makes_wrong_at files c) vs
