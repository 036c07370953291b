-- When the tables that calls use are in a scope, with their columns as they are parted there.
use Rattle.std.specs.Prelude.{◌≡◌, ℕ, ◌+◌, ◌<◌, true, Option, Some, None, ⊤, All, IfSome}
use Rattle.std.specs.Option.{option_and_then}
use Rattle.vital_expr.specs.Readings.{Context, vector_of}
use Rattle.vital_expr.specs.Vectors.{length_of}
use Rattle.vital_nodes.specs.declared.expr.Reference.{Reference}
use Rattle.vital_nodes.specs.Nodes.{Node, Declaration, Interface, Concurrent, Sequential, Expression, Item, Name}
use Rattle.vital_nodes.specs.Walk.{nodes_of}
use Rattle.vital_operands.specs.declared.tree.ConstantName.{ConstantName}
use Rattle.vital_operands.specs.declared.tree.VectorExpr.{VectorExpr}
use Rattle.vital_operands.specs.Calls.{TableActuals, table_actuals, table_items}
use Rattle.vital_operands.specs.Named.{table_named}
use Rattle.vital_operands.specs.Positions.{Position}
use Rattle.vital_nodes.specs.Names.{identifier_of}
use Rattle.vital_typed_cells.specs.ExprScopes.{Scope}

-- A table of so many columns, of which those behind the inputs are results.
abbrev pub HasTable : Scope → Option (ConstantName × ℕ) → Option VectorExpr → Type 0
HasTable s None v = ⊤
HasTable s (Some t) None = ⊤
HasTable s (Some t) (Some v) = (results : ℕ) → 0 < results → t.1 ≡ length_of v + results → s.has_table t.0 (length_of v) results ≡ true

-- The table that an actual names, with the number of its columns.
abbrev pub table_given : Position → TableActuals → Option (ConstantName × ℕ)
table_given p a = option_and_then (table_named p) (identifier_of a.table)

abbrev pub HasActuals : Scope → Context → TableActuals → Type 0
HasActuals s c a = HasTable s (table_given c.position a) (vector_of c None a.inputs).tree

-- The table of a name that is a call of VitalTruthTable.
abbrev pub HasTableOf : Scope → Context → Reference → Type 0
HasTableOf s c r = IfSome (option_and_then table_actuals (table_items c.position r)) (HasActuals s c)

abbrev pub HasTableAt : Scope → Context → Node → Type 0
HasTableAt s c (Declaration d) = ⊤
HasTableAt s c (Interface i) = ⊤
HasTableAt s c (Concurrent k) = ⊤
HasTableAt s c (Sequential k) = ⊤
HasTableAt s c (Expression e) = ⊤
HasTableAt s c (Item i) = ⊤
HasTableAt s c (Name r) = HasTableOf s c r

-- The table of each call in a node.
abbrev pub HasTables : Scope → Context → Node → Type 0
HasTables s c v = All (HasTableAt s c) (nodes_of v)
