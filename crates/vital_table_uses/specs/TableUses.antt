-- The tables that calls use, and how their columns are parted there.
use Rattle.std.specs.Prelude.{ℕ, Option, Some, None}
use Rattle.std.specs.Option.{option_and_then, option_map}
use Rattle.vital_declarations.specs.declared.declared_type.TableType.{TableType}
use Rattle.vital_declarations.specs.declared.declared_type.TableType.TheVariants as table
use Rattle.vital_expr.specs.Readings.{Context, vector_of}
use Rattle.vital_expr.specs.Vectors.{length_of}
use Rattle.vital_names.specs.Declarations.{Declared}
use Rattle.vital_names.specs.Declarations as declared
use Rattle.vital_names.specs.Meanings.{Meaning}
use Rattle.vital_names.specs.Meanings as meanings
use Rattle.vital_nodes.specs.declared.expr.Expr.{Expr}
use Rattle.vital_nodes.specs.declared.expr.Reference.{Reference}
use Rattle.vital_nodes.specs.Names.{identifier_of}
use Rattle.vital_nodes.specs.Nodes.{Node, Declaration, Interface, Concurrent, Sequential, Expression, Item, Name}
use Rattle.vital_operands.specs.Calls.{TableActuals, table_actuals, table_items}
use Rattle.vital_operands.specs.Named.{is_table, where_holds}
use Rattle.vital_operands.specs.Positions.{Position, meaning_at}
use Rattle.vital_table_uses.specs.declared.table_use.TableUse.{TableUse}
use Rattle.vital_table_uses.specs.declared.table_use.UsedTable.{UsedTable}
use Rattle.vital_table_uses.specs.declared.table_use.UsedTable.TheVariants as used

-- ---- tables

-- The constant of tables of a kind that a meaning is: one of the cell by the place of its identifier, or one of a package by its number.
abbrev pub used_declared : TableType → Declared → Option UsedTable
used_declared t (declared.Generic i) = None
used_declared t (declared.Port i) = None
used_declared t (declared.Object o) = where_holds (is_table t o) (used.Cell o.identifier.place)
used_declared t (declared.Alias a) = None

abbrev pub used_meaning : TableType → Meaning → Option UsedTable
used_meaning t (meanings.Declared d) = used_declared t d
used_meaning t (meanings.Constant n o) = where_holds (is_table t o) (used.Package n)
used_meaning t (meanings.Predeclared p) = None

-- The table of a kind that an expression names.
abbrev pub used_table : TableType → Position → Expr → Option UsedTable
used_table t p e = option_and_then (λ i. option_and_then (used_meaning t) (meaning_at p i)) (identifier_of e)

abbrev pub use_of : TableType → ℕ → ℕ → UsedTable → TableUse
use_of t inputs states u = record { table = u; kind = t; inputs = inputs; states = states }

-- ---- calls of VitalTruthTable, whose inputs are of their form

abbrev pub truth_use_with : Option UsedTable → Option ℕ → Option TableUse
truth_use_with (Some u) (Some inputs) = Some (use_of table.Truth inputs 0 u)
truth_use_with None inputs = None
truth_use_with (Some u) None = None

-- How many inputs there are.
abbrev pub inputs_given : Context → Expr → Option ℕ
inputs_given c e = option_map length_of (vector_of c None e).tree

abbrev pub truth_use_of : Context → TableActuals → Option TableUse
truth_use_of c a = truth_use_with (used_table table.Truth c.position a.table) (inputs_given c a.inputs)

abbrev pub truth_use : Context → Reference → Option TableUse
truth_use c r = option_and_then (λ is. option_and_then (truth_use_of c) (table_actuals is)) (table_items c.position r)

-- The table that a node uses.
abbrev pub truth_use_at : Context → Node → Option TableUse
truth_use_at c (Declaration d) = None
truth_use_at c (Interface i) = None
truth_use_at c (Concurrent s) = None
truth_use_at c (Sequential s) = None
truth_use_at c (Expression e) = None
truth_use_at c (Item i) = None
truth_use_at c (Name r) = truth_use c r
