-- Variables that are used or assigned once more than they may be: clause L1.13 of Level 1.
use Rattle.std.specs.Prelude.{Bool, true, false, not, ◌==◌, ◌&&◌, List, [], ◌∷◌, ◌++◌, filter, map, Option, Some, None}
use Rattle.std.specs.List.{filter_map, flat_map}
use Rattle.vital_base.specs.declared.place.Place.{Place}
use Rattle.vital_nodes.specs.declared.identifier.Identifier.{Identifier}
use Rattle.vital_nodes.specs.declared.stmt.Process.{Process}
use Rattle.vital_nodes.specs.declared.stmt.Stmt.{Stmt}
use Rattle.vital_nodes.specs.declared.stmt.Stmt.TheOpen.{Stmt-F}
use Rattle.vital_nodes.specs.declared.stmt.Stmt.TheViews.{out-Stmt}
use Rattle.vital_nodes.specs.Layers.{StmtLayer}
use Rattle.vital_names.specs.Sites.{Cell}
use Rattle.vital_nodes.specs.Statements.{all_sequential}
use Rattle.vital_uses.specs.Asked.{asked}
use Rattle.vital_variables.specs.declared.formal_use.FormalUse.{FormalUse}
use Rattle.vital_variables.specs.declared.formal_use.FormalUse.TheVariants.{State, Violation, Assigned}
use Rattle.vital_variables.specs.Given.{given, given_in_call}
use Rattle.vital_uses.specs.NamesAt.{NameAt, first_place, has_name}
use Rattle.vital_uses.specs.Nodes.{nodes_of_process}
use Rattle.vital_uses.specs.Statements.{processes}
use Rattle.vital_variables.specs.Variables.{direct_use, use_of, use_through}

-- A place is another than this, if there is this one.
abbrev pub is_elsewhere : Place → Option Place → Bool
is_elsewhere place None = false
is_elsewhere place (Some p) = not (p.file == place.file && (p.line == place.line && p.column == place.column))

-- The first use of the variable in a list stands elsewhere than this use.
abbrev pub is_second : List NameAt → NameAt → Bool
is_second us u = is_elsewhere u.place (first_place us u.name)

-- The uses of variables that are given alone to formals with which procedures do this.
abbrev pub given_uses : FormalUse → Cell → Process → List NameAt
given_uses formals cell p = filter_map (direct_use cell p) (flat_map (given formals cell p) (all_sequential p.statements))

-- ---- variables in which procedures keep their states

-- All uses of variables in a process.
abbrev pub uses : Cell → Process → List NameAt
uses cell p = filter_map use_of (asked cell (nodes_of_process p))

-- The first use to keep a state is the good one. Each other use of that variable is not.
abbrev pub second_uses : Cell → Process → List NameAt
second_uses cell p = filter (is_second (given_uses State cell p)) (uses cell p)

-- ---- variables that tell violations

-- The identifiers that a statement assigns: the first of a target, and what a check or a state table is given to assign.
abbrev pub assigned_in : Cell → Process → StmtLayer → List Identifier
assigned_in cell p (Stmt-F.VariableAssignment place a) = a.target.identifier ∷ []
assigned_in cell p (Stmt-F.SignalAssignment place a) = []
assigned_in cell p (Stmt-F.Call place name) = given_in_call Assigned cell p name
assigned_in cell p (Stmt-F.If place i) = []
assigned_in cell p (Stmt-F.Null place) = []

abbrev pub assigned : Cell → Process → Stmt → List Identifier
assigned cell p s = assigned_in cell p (out-Stmt s)

-- Where variables are assigned, also by an alias.
abbrev pub assignments : Cell → Process → List NameAt
assignments cell p = filter_map (use_through cell p) (flat_map (assigned cell p) (all_sequential p.statements))

-- The assignments of variables that tell violations, and those of them that are not the first of their variable.
abbrev pub violation_assignments : Cell → Process → List NameAt
violation_assignments cell p = filter (λ u. has_name (given_uses Violation cell p) u.name) (assignments cell p)

abbrev pub second_assignments : Cell → Process → List NameAt
second_assignments cell p = filter (is_second (assignments cell p)) (violation_assignments cell p)

-- ---- the clause
abbrev pub used_again : Cell → Process → List Place
used_again cell p = map (λ u. u.place) (second_uses cell p) ++ map (λ u. u.place) (second_assignments cell p)

-- Each second or other use of a variable given as TimingData, PeriodData or GlitchData, and each second assignment of a Violation.
abbrev pub clause_13 : Cell → List Place
clause_13 cell = flat_map (used_again cell) (processes cell.arch)
