-- The limits that a node passes, as the text stands: whatever clauses are broken, and whatever a name means.
use Rattle.std.specs.Prelude.{ℕ, Bool, true, false, ◌&&◌, ◌||◌, nat_lt, is_none, List, [], ◌∷◌, ◌++◌, length, slice_get, Option, Some, codes, if◌then◌else◌}
use Rattle.std.specs.List.{flat_map}
use Rattle.std.specs.Option.{option_map_or}
use Rattle.std.specs.Str.{bytes_eq}
use Rattle.vital_base.specs.declared.place.Place.{Place}
use Rattle.vital_calls.specs.Calls.{Call, call_of}
use Rattle.vital_limits.specs.declared.passed.CellLimit.{CellLimit}
use Rattle.vital_limits.specs.declared.passed.CellLimit.TheVariants.{Rows, Columns, Paths, Delay}
use Rattle.vital_limits.specs.declared.passed.PassedLimit.{PassedLimit}
use Rattle.vital_limits.specs.Counts.{listed, listed_in, longest}
use Rattle.vital_names.specs.declared.predeclared.Predeclared.{Predeclared}
use Rattle.vital_names.specs.declared.predeclared.Predeclared.TheVariants as word
use Rattle.vital_names.specs.declared.predeclared.Procedure.{Procedure}
use Rattle.vital_names.specs.declared.predeclared.Procedure.TheVariants as procedure
use Rattle.vital_names.specs.declared.predeclared.TypeName.{TypeName}
use Rattle.vital_names.specs.declared.predeclared.TypeName.TheVariants as type
use Rattle.vital_names.specs.TypeNames.{type_named}
use Rattle.vital_names.specs.Words.{predeclared}
use Rattle.vital_nodes.specs.declared.decl.Decl.{Decl}
use Rattle.vital_nodes.specs.declared.decl.Decl.TheVariants as decl
use Rattle.vital_nodes.specs.declared.decl.Object.{Object}
use Rattle.vital_nodes.specs.declared.expr.Actual.TheOpen.{Choice-F, Expr-F}
use Rattle.vital_nodes.specs.declared.expr.Actual.TheViews.{out-Choice, out-Expr}
use Rattle.vital_nodes.specs.declared.expr.Choice.{Choice}
use Rattle.vital_nodes.specs.declared.expr.Item.{Item as Item'}
use Rattle.vital_nodes.specs.declared.expr.Physical.{Physical}
use Rattle.vital_nodes.specs.declared.expr.Reference.{Reference}
use Rattle.vital_nodes.specs.declared.stmt.Conc.{Conc}
use Rattle.vital_nodes.specs.declared.stmt.Stmt.{Stmt}
use Rattle.vital_nodes.specs.declared.stmt.Stmt.TheOpen.{Stmt-F}
use Rattle.vital_nodes.specs.declared.stmt.Stmt.TheViews.{out-Stmt}
use Rattle.vital_nodes.specs.Layers.{ChoiceLayer, ExprLayer, StmtLayer}
use Rattle.vital_nodes.specs.Nodes.{Node, Declaration, Interface, Concurrent, Sequential, Expression, Item, Name}
use Rattle.vital_nodes.specs.Places.{place_of_expr, place_of_item}
use Rattle.vital_timing.specs.TimeLiterals.{literal_time, unit_named}
use Rattle.vital_nodes.specs.Calls.{call}
use Rattle.vital_nodes.specs.Items.{formal}
use Rattle.vital_nodes.specs.Names.{identifier_of}
use Rattle.vital_nodes.specs.Objects.{is_constant}

abbrev pub if_passed : Bool → CellLimit → Place → List PassedLimit
if_passed is_passed limit place = if is_passed then record { place = place; limit = limit } ∷ [] else []

-- ---- tables

-- The type of a name is one of tables, whatever bounds stand behind it.
abbrev pub is_table_name : Option TypeName → Bool
is_table_name (Some type.TruthTable) = true
is_table_name (Some type.StateTable) = true
is_table_name other = false

abbrev pub is_table_type : Reference → Bool
is_table_type name = is_table_name (type_named name)

-- An object is a constant of a type of tables.
abbrev pub is_table : Object → Bool
is_table o = is_constant o && is_table_type o.parts.subtype.name

-- The items of its value, if it is one.
abbrev pub items_of : Object → List Item'
items_of o = option_map_or listed o.parts.value []

abbrev pub table_rows : Object → List Item'
table_rows o = if is_table o then items_of o else []

-- A table has at most 128 rows, and its longest row at most 32 items.
abbrev pub are_too_many : List Item' → Bool
are_too_many rows = nat_lt 128 (length rows)

abbrev pub are_too_long : List Item' → Bool
are_too_long rows = nat_lt 32 (longest rows)

abbrev pub is_long_table : Object → Bool
is_long_table o = are_too_many (table_rows o) || are_too_long (table_rows o)

-- The limits of rows, which stand where their table is declared.
abbrev pub limits_of_rows : Place → List Item' → List PassedLimit
limits_of_rows place rows = if_passed (are_too_many rows) Rows place ++ if_passed (are_too_long rows) Columns place

abbrev pub limits_of_object : Object → List PassedLimit
limits_of_object o = limits_of_rows o.identifier.place (table_rows o)

abbrev pub limits_of_declaration : Decl → List PassedLimit
limits_of_declaration (decl.Attribute identifier type_mark) = []
limits_of_declaration (decl.Specification s) = []
limits_of_declaration (decl.Object o) = limits_of_object o
limits_of_declaration (decl.Alias a) = []
limits_of_declaration (decl.Component c) = []

-- ---- paths

abbrev pub is_path_delay_procedure : Procedure → Bool
is_path_delay_procedure (procedure.PathDelay d) = true
is_path_delay_procedure other = false

abbrev pub is_path_delay_word : Predeclared → Bool
is_path_delay_word (word.Procedure p) = is_path_delay_procedure p
is_path_delay_word other = false

-- A name is that of a path delay, read by its text.
abbrev pub is_path_delay : List ℕ → Bool
is_path_delay name = option_map_or is_path_delay_word (predeclared name) false

abbrev pub is_paths_in : ChoiceLayer → Bool
is_paths_in (Choice-F.Choice::Value e) = option_map_or (λ i. bytes_eq i.name (codes "paths")) (identifier_of e) false
is_paths_in (Choice-F.Range r) = false

-- What stands before `=>` is the formal Paths.
abbrev pub is_paths : Choice → Bool
is_paths c = is_paths_in (out-Choice c)

abbrev pub limits_at : Option Item' → List PassedLimit
limits_at i = option_map_or (λ i. if_passed true Paths (place_of_item i)) i []

-- There are at most 64 paths: the limit stands at the first that is one too many.
abbrev pub limits_of_paths : List Item' → List PassedLimit
limits_of_paths paths = limits_at (slice_get paths 64)

abbrev pub limits_of_actual : Item' → List PassedLimit
limits_of_actual i = if option_map_or is_paths (formal i) false then limits_of_paths (listed_in i) else []

abbrev pub limits_of_path_delay : Call → List PassedLimit
limits_of_path_delay c = if is_path_delay c.identifier.name then flat_map limits_of_actual c.items else []

-- A call whose identifier is one of the three path delays, wherever it stands.
abbrev pub limits_of_call : Reference → List PassedLimit
limits_of_call name = option_map_or limits_of_path_delay (call_of name) []

abbrev pub limits_of_concurrent : Conc → List PassedLimit
limits_of_concurrent c = option_map_or limits_of_call (call c) []

abbrev pub limits_in_stmt : StmtLayer → List PassedLimit
limits_in_stmt (Stmt-F.VariableAssignment place a) = []
limits_in_stmt (Stmt-F.SignalAssignment place a) = []
limits_in_stmt (Stmt-F.Call place name) = limits_of_call name
limits_in_stmt (Stmt-F.If place i) = []
limits_in_stmt (Stmt-F.Null place) = []

abbrev pub limits_of_sequential : Stmt → List PassedLimit
limits_of_sequential s = limits_in_stmt (out-Stmt s)

-- ---- times

-- A number before a unit of time is worth more than 2^50 fs.
abbrev pub is_too_long : Physical → Bool
is_too_long p = option_map_or (λ u. is_none (literal_time p.number u)) (unit_named p.unit.name) false

abbrev pub is_too_long_in : ExprLayer → Bool
is_too_long_in (Expr-F.Logical place operator operands) = false
is_too_long_in (Expr-F.Relation r) = false
is_too_long_in (Expr-F.Sum s) = false
is_too_long_in (Expr-F.Product p) = false
is_too_long_in (Expr-F.Not place operand) = false
is_too_long_in (Expr-F.Number place number) = false
is_too_long_in (Expr-F.Physical physical) = is_too_long physical
is_too_long_in (Expr-F.Character place character) = false
is_too_long_in (Expr-F.StringLiteral place text) = false
is_too_long_in (Expr-F.Reference name) = false
is_too_long_in (Expr-F.Parenthesized place is) = false

abbrev pub is_too_long_node : Node → Bool
is_too_long_node (Declaration d) = false
is_too_long_node (Interface i) = false
is_too_long_node (Concurrent c) = false
is_too_long_node (Sequential s) = false
is_too_long_node (Expression e) = is_too_long_in (out-Expr e)
is_too_long_node (Item i) = false
is_too_long_node (Name r) = false

-- ---- nodes

-- The limits that a node passes itself.
unfoldable pub limits_of_node : Node → List PassedLimit
limits_of_node (Declaration d) = limits_of_declaration d
limits_of_node (Interface i) = []
limits_of_node (Concurrent c) = limits_of_concurrent c
limits_of_node (Sequential s) = limits_of_sequential s
limits_of_node (Expression e) = if_passed (is_too_long_node (Expression e)) Delay (place_of_expr e)
limits_of_node (Item i) = []
limits_of_node (Name r) = []
