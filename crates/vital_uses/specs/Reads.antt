-- What processes read that their sensitivity lists lack: clause L1.8 of Level 1.
use Rattle.std.specs.Prelude.{ℕ, Bool, true, false, not, ◌&&◌, List, [], ◌∷◌, ◌++◌, filter, map, Option, Some, None}
use Rattle.std.specs.List.{filter_map, flat_map}
use Rattle.vital_base.specs.declared.place.Place.{Place}
use Rattle.vital_nodes.specs.declared.decl.Mode.{Mode}
use Rattle.vital_nodes.specs.declared.decl.Mode.TheVariants as mode
use Rattle.vital_nodes.specs.declared.decl.ObjectClass.{ObjectClass}
use Rattle.vital_nodes.specs.declared.decl.ObjectClass.TheVariants as class
use Rattle.vital_nodes.specs.declared.stmt.Process.{Process}
use Rattle.vital_nodes.specs.declared.stmt.Stmt.{Stmt}
use Rattle.vital_nodes.specs.declared.stmt.Stmt.TheOpen.{Stmt-F}
use Rattle.vital_nodes.specs.declared.stmt.Stmt.TheViews.{out-If, out-Stmt}
use Rattle.vital_nodes.specs.Layers.{StmtLayer}
use Rattle.vital_nodes.specs.Nodes.{Node, Declaration, Interface, Concurrent, Sequential, Expression, Item, Name, expression_if_there, parts_of}
use Rattle.vital_names.specs.Declarations.{Declared as Declared', Generic, Port, Object, Alias}
use Rattle.vital_names.specs.Meanings.{Meaning, Declared, Constant, Predeclared}
use Rattle.vital_names.specs.Sites.{Cell}
use Rattle.vital_nodes.specs.Names.{plain_identifier}
use Rattle.vital_nodes.specs.Statements.{all_sequential}
use Rattle.vital_uses.specs.Asked.{Asked, asked}
use Rattle.vital_uses.specs.Unread.{is_unread}
use Rattle.vital_uses.specs.NamesAt.{NameAt, at, has_name}
use Rattle.vital_uses.specs.Nodes.{nodes_in, sited_declarations}
use Rattle.vital_uses.specs.Parts.{value_of_decl}
use Rattle.vital_uses.specs.Sited.{SitedNode, seen_from_themselves}
use Rattle.vital_uses.specs.Statements.{processes}

-- ---- what is read

-- A part of a call is read, unless it is given alone to a formal that isn't read.
abbrev pub is_read : Node → Bool
is_read (Declaration d) = true
is_read (Interface i) = true
is_read (Concurrent c) = true
is_read (Sequential s) = true
is_read (Expression e) = true
is_read (Item i) = not (is_unread i)
is_read (Name r) = true

-- The parts of a statement that it reads. What stands in the parentheses of a target is read, and the target isn't; nor is the
-- name of a procedure. Each statement in an `if` reads for itself.
abbrev pub read_in_layer : StmtLayer → List Node
read_in_layer (Stmt-F.VariableAssignment place a) = parts_of (Name a.target) ++ Expression a.value ∷ []
read_in_layer (Stmt-F.SignalAssignment place a) = parts_of (Name a.target) ++ Expression a.value ∷ expression_if_there a.after
read_in_layer (Stmt-F.Call place name) = filter is_read (parts_of (Name name))
read_in_layer (Stmt-F.If place i) = map (λ b. Expression b.condition) (out-If i).branches
read_in_layer (Stmt-F.Null place) = []

abbrev pub read_in : Stmt → List Node
read_in s = read_in_layer (out-Stmt s)

-- A process reads the values that it declares, and what its statements read.
abbrev pub read_nodes : Process → List SitedNode
read_nodes p =
    nodes_in value_of_decl (sited_declarations (Some p) p.declarations)
    ++ seen_from_themselves (Some p) (flat_map read_in (all_sequential p.statements))

-- ---- what a sensitivity list has to name

abbrev pub is_signal_class : ObjectClass → Bool
is_signal_class class.Constant = false
is_signal_class class.Signal = true
is_signal_class class.Variable = false

abbrev pub is_in_or_inout : Mode → Bool
is_in_or_inout mode.In = true
is_in_or_inout mode.Out = false
is_in_or_inout mode.Inout = true
is_in_or_inout mode.Buffer = false
is_in_or_inout mode.Linkage = false

-- An internal signal, or an in or inout port.
abbrev pub is_signal : Declared' → Bool
is_signal (Generic i) = false
is_signal (Port i) = is_in_or_inout i.parts.mode
is_signal (Object o) = is_signal_class o.class
is_signal (Alias a) = false

abbrev pub means_signal : Option Meaning → Bool
means_signal None = false
means_signal (Some (Declared d)) = is_signal d
means_signal (Some (Constant number object)) = false
means_signal (Some (Predeclared word)) = false

-- The names that stand alone in the list of a process, and whether one is among them.
abbrev pub listed : Process → List NameAt
listed p = map at (filter_map plain_identifier p.sensitivity)

abbrev pub is_listed : Process → List ℕ → Bool
is_listed p name = has_name (listed p) name

-- ---- the clause

-- An identifier that means such a signal or port, and is not among the listed.
abbrev pub is_unlisted : (List ℕ → Bool) → Asked → Bool
is_unlisted is_among a = means_signal a.meaning && not (is_among a.identifier.name)

abbrev pub unlisted : Cell → Process → List Place
unlisted cell p = map (λ a. a.identifier.place) (filter (is_unlisted (is_listed p)) (asked cell (read_nodes p)))

-- Each internal signal, in or inout port that is read in a process whose list lacks it.
abbrev pub clause_8 : Cell → List Place
clause_8 cell = flat_map (unlisted cell) (processes cell.arch)
