-- The statements of a process are sound in a scope that has what the names in them stand for, and the tables of their calls.
use Rattle.std.proofs.Common.{◌≡◌, Bool, true, List, [], ◌∷◌, ◌++◌, Option, Some, None, refl, subst}
use Rattle.std.specs.Prelude.{IfSome}
use Rattle.std.specs.List.{AllByRecursion, cons_option, filter_map, flat_map, list_all}
use Rattle.std.specs.Option.{option_and_then, option_map}
use Rattle.std.proofs.lemmas.List.{append-nil}
use Rattle.vital_calls.specs.Calls.{Call, call_of, items_behind}
use Rattle.vital_expr.specs.Readings.{Context}
use Rattle.vital_names.specs.declared.predeclared.Procedure.{Procedure}
use Rattle.vital_names.specs.declared.predeclared.Procedure.TheVariants as procedure
use Rattle.vital_names.specs.Sites.{Cell}
use Rattle.vital_nodes.specs.declared.expr.Actual.TheOpen.{Suffix-F}
use Rattle.vital_nodes.specs.declared.expr.Actual.TheViews.{out-Suffix}
use Rattle.vital_nodes.specs.declared.expr.Item.{Item as Item'}
use Rattle.vital_nodes.specs.declared.expr.Reference.{Reference}
use Rattle.vital_nodes.specs.declared.expr.Suffix.{Suffix}
use Rattle.vital_nodes.specs.declared.identifier.Identifier.{Identifier}
use Rattle.vital_nodes.specs.declared.stmt.Process.{Process}
use Rattle.vital_nodes.specs.declared.stmt.Stmt.{Stmt}
use Rattle.vital_nodes.specs.declared.stmt.Stmt.TheOpen.{Stmt-F}
use Rattle.vital_nodes.specs.declared.stmt.Stmt.TheViews.{out-Stmt}
use Rattle.vital_nodes.specs.Layers.{StmtLayer, SuffixLayer}
use Rattle.vital_nodes.specs.Nodes.{Node, Declaration, Interface, Concurrent, Sequential, Expression, Item, Name, items, parts_in_stmt, parts_in_suffix, parts_of, parts_of_suffix, sequentials}
use Rattle.vital_nodes.specs.Walk.{nodes_of_all}
use Rattle.vital_sections.specs.declared.sections.FunctionalStatement.{FunctionalStatement}
use Rattle.vital_sections.specs.Given.{GivenCall}
use Rattle.vital_sections.specs.Sections.{assigned, called, called_by, check, check_called, functional_in, functional_statement, given_call, path_delay_called, path_delay_of, sections, state_table_called}
use Rattle.vital_statements.specs.Called.{call_in, call_of_stmt, procedure_of}
use Rattle.vital_typed_statements.specs.declared.statement.TypedStatement.{TypedStatement}
use Rattle.vital_typed_statements.specs.declared.statement.TypedStatement.TheVariants as statement
use Rattle.vital_typed_statements.specs.Statements.{assignment, context}
use Rattle.vital_nodes.specs.Names.{items_in}
use Rattle.vital_nodes.specs.Statements.{all_sequential, sequential}
use Rattle.vital_typed_cells.specs.ActualPositions.{IsActualScopeOf}
use Rattle.vital_typed_cells.specs.ActualScopes.{ActualScope}
use Rattle.vital_typed_cells.specs.ExprScopes.{Scope}
use Rattle.vital_typed_cells.proofs.Nodes.{IsKnown, IsKnownAt, known-here, known-parts, known-sound}
use Rattle.vital_typed_cells.proofs.Outcomes.{if-and-then}
use Rattle.vital_typed_cells.specs.SoundStatements.{is_sound_check, is_sound_path_delay}
use Rattle.vital_typed_cells.proofs.Checks.{SoundCheck, check-sound}
use Rattle.vital_typed_cells.proofs.SectionGiven.{IsCallIn}
use Rattle.vital_typed_cells.proofs.PathDelays.{SoundPathDelay, path-delay-sound}
use Rattle.vital_typed_cells.proofs.Assignments.{SoundAssignment, assignment-known}
use Rattle.vital_typed_cells.specs.Scopes.{StateTableTest}
use Rattle.vital_typed_cells.specs.SoundSections.{are_sound_sections, is_sound_functional}
use Rattle.vital_typed_cells.proofs.Closed.{closed}
use Rattle.vital_typed_cells.proofs.Found.{all-kept, weaker}
use Rattle.vital_typed_cells.proofs.Lists.{all-both}
use Rattle.vital_typed_cells.proofs.Tests.{both-true}

-- ---- the items of calls

abbrev KnownItems : Scope → Context → List Item' → Type 0
KnownItems s c is = AllByRecursion (λ i. IsKnown s c (Item i)) is

each-item : (s : Scope) (c : Context) (is : List Item') → AllByRecursion (IsKnown s c) (items is) → KnownItems s c is
each-item s c [] known = tt
each-item s c (i ∷ is) known = (known.0, each-item s c is known.1)

suffix-items : (s : Scope) (c : Context) (l : SuffixLayer) → AllByRecursion (IsKnown s c) (parts_in_suffix l ++ []) → IfSome (items_in l) (KnownItems s c)
suffix-items s c (Suffix-F.Selected identifier) known = tt
suffix-items s c (Suffix-F.All place) known = tt
suffix-items s c (Suffix-F.Attribute identifier) known = tt
suffix-items s c (Suffix-F.Qualified is) known = tt
suffix-items s c (Suffix-F.Items is) known = each-item s c is (subst (AllByRecursion (IsKnown s c)) (append-nil (items is)) known)

items-behind : (s : Scope) (c : Context) (ss : List Suffix) → AllByRecursion (IsKnown s c) (flat_map parts_of_suffix ss) → IfSome (items_behind ss) (KnownItems s c)
items-behind s c [] known = tt
items-behind s c (t ∷ []) known = suffix-items s c (out-Suffix t) known
items-behind s c (t ∷ u ∷ ss) known = tt

abbrev pub KnownCall : Scope → Context → Call → Type 0
KnownCall s c k = KnownItems s c k.items

call-of : (s : Scope) (c : Context) (i : Identifier) (o : Option (List Item')) → IfSome o (KnownItems s c) → IfSome (option_map (λ is. record { identifier = i; items = is }) o) (KnownCall s c)
call-of s c i None known = tt
call-of s c i (Some is) known = known

name-call : (s : Scope) (c : Context) (r : Reference) → IsKnown s c (Name r) → IfSome (call_of r) (KnownCall s c)
unfolding parts_of
name-call s c r known = call-of s c r.identifier (items_behind r.suffixes) (items-behind s c r.suffixes (known-parts s c (Name r) known))

pub layer-call : (s : Scope) (c : Context) (l : StmtLayer) → AllByRecursion (IsKnown s c) (parts_in_stmt l) → IfSome (call_in l) (KnownCall s c)
layer-call s c (Stmt-F.VariableAssignment place a) known = tt
layer-call s c (Stmt-F.SignalAssignment place a) known = tt
layer-call s c (Stmt-F.Call place name) known = name-call s c name known.0
layer-call s c (Stmt-F.If place i) known = tt
layer-call s c (Stmt-F.Null place) known = tt

pub stmt-parts : (s : Scope) (c : Context) (t : Stmt) → IsKnown s c (Sequential t) → AllByRecursion (IsKnown s c) (parts_in_stmt (out-Stmt t))
unfolding parts_of
stmt-parts s c t known = known-parts s c (Sequential t) known

-- ---- calls of procedures

-- A procedure and a call of it, of which all that is given is known.
abbrev CalledIn : ActualScope → (Procedure × GivenCall) → Type 0
CalledIn s k = IsCallIn s k.1

given-in : (s : ActualScope) (cell : Cell) (p : Process) (call : Call) (q : Option Procedure) → IsActualScopeOf s (context cell (Some p) []).position → KnownCall s.names (context cell (Some p) []) call
    → IfSome (option_map (λ r. (r, given_call cell [] p call r)) q) (CalledIn s)
given-in s cell p call None scope known = tt
given-in s cell p call (Some q) scope known = record { scope = scope; known = known }

called-in : (s : ActualScope) (cell : Cell) (p : Process) (t : Stmt) → IsActualScopeOf s (context cell (Some p) []).position → IsKnown s.names (context cell (Some p) []) (Sequential t) → IfSome (called cell [] p t) (CalledIn s)
called-in s cell p t scope known =
    if-and-then (KnownCall s.names (context cell (Some p) [])) (CalledIn s) (called_by cell [] p) (call_of_stmt t)
    (layer-call s.names (context cell (Some p) []) (out-Stmt t) (stmt-parts s.names (context cell (Some p) []) t known))
    (λ call items. given-in s cell p call (procedure_of cell (Some p) call) scope items)

check-in : (s : ActualScope) (q : Procedure) (k : GivenCall) → IsCallIn s k → IfSome (check_called q k) (SoundCheck s)
check-in s procedure.WireDelay k in-call = tt
check-in s procedure.StateTable k in-call = tt
check-in s (procedure.PathDelay d) k in-call = tt
check-in s (procedure.Check c) k in-call = check-sound s k c in-call

path-delay-in : (s : ActualScope) (q : Procedure) (k : GivenCall) → IsCallIn s k → IfSome (path_delay_called q k) (SoundPathDelay s)
path-delay-in s procedure.WireDelay k in-call = tt
path-delay-in s procedure.StateTable k in-call = tt
path-delay-in s (procedure.PathDelay d) k in-call = path-delay-sound s k d in-call
path-delay-in s (procedure.Check c) k in-call = tt

-- ---- functional statements

abbrev pub SoundFunctional : StateTableTest → ActualScope → FunctionalStatement → Type 0
SoundFunctional has s f = is_sound_functional has s.names f ≡ true

assigned-sound : (has : StateTableTest) (s : ActualScope) (t : TypedStatement) → SoundAssignment s.names t → IfSome (assigned t) (SoundFunctional has s)
assigned-sound has s (statement.Assignment t v) sound = sound
assigned-sound has s (statement.Call q gs) sound = tt
assigned-sound has s (statement.Conditions ts) sound = tt
assigned-sound has s statement.Other sound = tt

-- The state table that a statement is, if it is one.
abbrev pub SoundState : StateTableTest → ActualScope → Cell → Process → Stmt → Type 0
SoundState has s cell p t = IfSome (option_and_then (λ c. state_table_called c.0 c.1) (called cell [] p t)) (SoundFunctional has s)

functional-in : (has : StateTableTest) (s : ActualScope) (cell : Cell) (p : Process) (t : Stmt) (l : StmtLayer) → IsActualScopeOf s (context cell (Some p) []).position → AllByRecursion (IsKnown s.names (context cell (Some p) [])) (parts_in_stmt l)
    → SoundState has s cell p t → IfSome (functional_in cell [] p t l) (SoundFunctional has s)
functional-in has s cell p t (Stmt-F.VariableAssignment place a) scope known state =
    if-and-then (SoundAssignment s.names) (SoundFunctional has s) assigned (assignment (context cell (Some p) []) a).tree
    (assignment-known s (context cell (Some p) []) a scope (known-here s.names (context cell (Some p) []) (Name a.target) known.0).0 (known-sound s.names (context cell (Some p) []) (Expression a.value) known.1.0))
    (assigned-sound has s)
functional-in has s cell p t (Stmt-F.SignalAssignment place a) scope known state = state
functional-in has s cell p t (Stmt-F.Call place name) scope known state = state
functional-in has s cell p t (Stmt-F.If place i) scope known state = state
functional-in has s cell p t (Stmt-F.Null place) scope known state = state

-- ---- sections

one-made : {B : Type 0} (test : B → Bool) (o : Option B) (bs : List B) → IfSome o (λ y. test y ≡ true) → list_all test bs ≡ true → list_all test (cons_option o bs) ≡ true
one-made test None bs here others = others
one-made test (Some b) bs here others = both-true (test b) (list_all test bs) here others

all-made : {A B : Type 0} (test : B → Bool) (f : A → Option B) (xs : List A) → AllByRecursion (λ x. IfSome (f x) (λ y. test y ≡ true)) xs → list_all test (filter_map f xs) ≡ true
all-made test f [] all = refl
all-made test f (x ∷ xs) all = one-made test (f x) (filter_map f xs) all.0 (all-made test f xs all.1)

statement-known : (s : Scope) (c : Context) (v : Node) → IsKnown s c v → IfSome (sequential v) (λ t. IsKnown s c (Sequential t))
statement-known s c (Declaration d) known = tt
statement-known s c (Interface i) known = tt
statement-known s c (Concurrent k) known = tt
statement-known s c (Sequential t) known = known
statement-known s c (Expression e) known = tt
statement-known s c (Item i) known = tt
statement-known s c (Name r) known = tt

pub statements-known : (s : Scope) (c : Context) (ts : List Stmt) → AllByRecursion (IsKnownAt s c) (nodes_of_all (sequentials ts)) → AllByRecursion (λ t. IsKnown s c (Sequential t)) (all_sequential ts)
statements-known s c ts known =
    all-kept (λ t. IsKnown s c (Sequential t)) sequential (nodes_of_all (sequentials ts))
    (weaker (IsKnown s c) (λ v. IfSome (sequential v) (λ t. IsKnown s c (Sequential t))) (statement-known s c) (nodes_of_all (sequentials ts)) (closed (IsKnownAt s c) (sequentials ts) known))

pub sections-sound : (has : StateTableTest) (s : ActualScope) (cell : Cell) (p : Process) → IsActualScopeOf s (context cell (Some p) []).position → AllByRecursion (IsKnownAt s.names (context cell (Some p) [])) (nodes_of_all (sequentials p.statements))
    → AllByRecursion (SoundState has s cell p) (all_sequential p.statements) → are_sound_sections has s (sections cell [] p) ≡ true
sections-sound has s cell p scope known states =
    let all : AllByRecursion (λ t. IsKnown s.names (context cell (Some p) []) (Sequential t)) (all_sequential p.statements) = statements-known s.names (context cell (Some p) []) p.statements known in
    both-true (list_all (is_sound_check s) (filter_map (check cell [] p) (all_sequential p.statements))) _
    (all-made (is_sound_check s) (check cell [] p) (all_sequential p.statements)
    (weaker (λ t. IsKnown s.names (context cell (Some p) []) (Sequential t)) (λ t. IfSome (check cell [] p t) (SoundCheck s))
    (λ t k. if-and-then (CalledIn s) (SoundCheck s) (λ c. check_called c.0 c.1) (called cell [] p t) (called-in s cell p t scope k) (λ c in-call. check-in s c.0 c.1 in-call)) (all_sequential p.statements) all))
    (both-true (list_all (is_sound_functional has s.names) (filter_map (functional_statement cell [] p) (all_sequential p.statements))) _
    (all-made (is_sound_functional has s.names) (functional_statement cell [] p) (all_sequential p.statements)
    (weaker (λ t. IsKnown s.names (context cell (Some p) []) (Sequential t) × SoundState has s cell p t) (λ t. IfSome (functional_statement cell [] p t) (SoundFunctional has s))
    (λ t both. functional-in has s cell p t (out-Stmt t) scope (stmt-parts s.names (context cell (Some p) []) t both.0) both.1) (all_sequential p.statements)
    (all-both (λ t. IsKnown s.names (context cell (Some p) []) (Sequential t)) (SoundState has s cell p) (all_sequential p.statements) all states)))
    (all-made (is_sound_path_delay s) (path_delay_of cell [] p) (all_sequential p.statements)
    (weaker (λ t. IsKnown s.names (context cell (Some p) []) (Sequential t)) (λ t. IfSome (path_delay_of cell [] p t) (SoundPathDelay s))
    (λ t k. if-and-then (CalledIn s) (SoundPathDelay s) (λ c. path_delay_called c.0 c.1) (called cell [] p t) (called-in s cell p t scope k) (λ c in-call. path-delay-in s c.0 c.1 in-call)) (all_sequential p.statements) all)))
