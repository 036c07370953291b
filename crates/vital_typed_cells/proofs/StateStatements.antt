-- Statements of a process that are calls of VitalStateTable are sound.
use Rattle.std.proofs.Common.{◌≡◌, ◌≤◌, ℕ, ◌+◌, Bool, true, false, List, [], ◌∷◌, Option, Some, None, refl, subst, arith}
use Rattle.std.specs.Prelude.{cond, nat_le, codes, find, IfSome}
use Rattle.std.specs.List.{AllByRecursion, enumerate_from}
use Rattle.std.specs.Option.{option_and_then, option_map, option_map_or, option_to_list}
use Rattle.std.proofs.lemmas.Bool.Decides.{nat_tests}
use Rattle.vital_actuals.specs.declared.target.Target.TheVariants as target
use Rattle.vital_call_clauses.specs.WrongCalls.{has_vector_result}
use Rattle.vital_calls.specs.Calls.{Call, call_of, items_behind}
use Rattle.vital_actuals.specs.Actuals.{actual_of}
use Rattle.vital_calls.specs.declared.actual_form.ActualForm.TheVariants as form
use Rattle.vital_calls.specs.Formals.{Formals, formals_of_procedure}
use Rattle.vital_calls.specs.Matching.{actual_of as item_for, formal_name, is_for}
use Rattle.vital_expr.specs.Outcomes.{typed}
use Rattle.vital_expr.specs.Vectors.{length_of}
use Rattle.vital_names.specs.declared.predeclared.Procedure.{Procedure}
use Rattle.vital_names.specs.declared.predeclared.Procedure.TheVariants as procedure
use Rattle.vital_names.specs.Sites.{Cell}
use Rattle.vital_nodes.specs.declared.expr.Item.{Item as Item'}
use Rattle.vital_nodes.specs.declared.expr.Reference.{Reference}
use Rattle.vital_nodes.specs.declared.stmt.Process.{Process}
use Rattle.vital_nodes.specs.declared.stmt.Stmt.TheOpen.{Stmt-F}
use Rattle.vital_nodes.specs.Layers.{StmtLayer}
use Rattle.vital_nodes.specs.Nodes.{Node, Item, Name, parts_in_stmt}
use Rattle.vital_sections.specs.declared.sections.FunctionalStatement.TheVariants as functional
use Rattle.vital_sections.specs.declared.state_table.StateTable.{StateTable}
use Rattle.vital_sections.specs.Given.{GivenCall, given, target_in}
use Rattle.vital_sections.specs.Sections.{called_by, given_call, state_table_called}
use Rattle.vital_sections.specs.StateTables.{state_table}
use Rattle.vital_statements.specs.Called.{call_in, procedure_of}
use Rattle.vital_statements.specs.Sites.{site_at}
use Rattle.vital_typed_statements.specs.declared.statement.TypedStatement.TheVariants as statement
use Rattle.vital_table_uses.specs.declared.table_use.TableUse.{TableUse}
use Rattle.vital_typed_statements.specs.StateTables.{results_of}
use Rattle.vital_declarations.specs.declared.declared_type.TableType.TheVariants as table
use Rattle.vital_typed_statements.specs.Statements.{call_meant, call_of_procedure, context, statement_in}
use Rattle.vital_table_uses.specs.TableUses.{use_of}
use Rattle.vital_typed_statements.specs.Uses.{parting, state_table as used_in, statement_uses, uses_meant, uses_of_procedure}
use Rattle.vital_typed_cells.specs.ActualPositions.{IsActualScopeOf}
use Rattle.vital_typed_cells.specs.ActualScopes.{ActualScope}
use Rattle.vital_typed_cells.specs.SoundActuals.{is_sound_target}
use Rattle.vital_typed_cells.specs.Trees.{is_sound_vector}
use Rattle.vital_typed_cells.specs.SoundTables.{GoTogether, IsSoundStateTable, columns_given}
use Rattle.vital_typed_cells.proofs.StateTables.{all-typed, state-table-sound}
use Rattle.vital_typed_cells.specs.Scopes.{Visible, state_tables_in}
use Rattle.vital_typed_cells.specs.SoundSections.{is_sound_state_table}
use Rattle.vital_typed_cells.proofs.BehindNames.{IsBehindAll, NameBehind, item-vector}
use Rattle.vital_typed_cells.proofs.Closed.{Within}
use Rattle.vital_typed_cells.proofs.ItemNodes.{ItemsWithin, here-within, items-behind}
use Rattle.vital_typed_cells.proofs.StateFits.{state-fits}
use Rattle.vital_typed_cells.proofs.StateParts.{IsReadAs, parted-as, read-as}
use Rattle.vital_typed_cells.proofs.Statements.{KnownCall, SoundFunctional}
use Rattle.vital_typed_cells.proofs.Tests.{both-true}
use Rattle.vital_typed_cells.proofs.TruthTables.{Reads}
use Rattle.vital_typed_cells.proofs.Uses.{AllFit, Fits}

-- ---- items for formals

first-or : {A : Type 0} (P : A → Type 0) (b : Bool) (e : ℕ × A) (o : Option (ℕ × A)) → P e.1 → IfSome (option_map (λ e. e.1) o) P → IfSome (option_map (λ e. e.1) (cond b (Some e) o)) P
first-or P true e o first others = first
first-or P false e o first others = others

numbered : {A : Type 0} (P : A → Type 0) (test : (ℕ × A) → Bool) (xs : List A) (n : ℕ) → AllByRecursion P xs → IfSome (option_map (λ e. e.1) (find test (enumerate_from n xs))) P
numbered P test [] n all = tt
numbered P test (x ∷ xs) n all = first-or P (test (n, x)) (n, x) (find test (enumerate_from (n + 1) xs)) all.0 (numbered P test xs (n + 1) all.1)

item-there : (P : Item' → Type 0) (is : List Item') (fs : Formals) (name : List ℕ) → AllByRecursion P is → IfSome (item_for is fs name) P
unfolding item_for
item-there P is fs name all = numbered P (λ e. is_for name fs e.0 e.1) is 0 all

-- Which item is for a formal does not depend on whether the number of states is one.
same-item : (b : Bool) (is : List Item') (name : List ℕ) → item_for is (formals_of_procedure procedure.StateTable b) name ≡ item_for is (formals_of_procedure procedure.StateTable false) name
unfolding item_for formal_name formals_of_procedure
same-item true is name = refl
same-item false is name = refl

-- ---- one call

-- A call of VitalStateTable in a process.
abbrev state_call : Cell → Process → Call → GivenCall
state_call cell q call = given_call cell [] q call procedure.StateTable

abbrev has_states : Cell → Process → Call → Bool
has_states cell q call = has_vector_result cell (site_at (Some q) call.identifier.place) call.items

-- What is so of a call: no actual breaks a clause, the table that it uses fits, and all is declared before its names.
pub record CallFacts (cell : Cell) (q : Process) (v : Visible) (Free : Node → Type 0) (call : Call) : Type 0 where
  pub reads : Reads cell v (context cell (Some q) []) Free
  pub free : ItemsWithin Free call.items
  pub behind : ItemsWithin (NameBehind cell q) call.items
  pub called : IsBehindAll cell q call.identifier.place

vector-result : (cell : Cell) (q : Process) (v : Visible) (Free : Node → Type 0) (call : Call) (name : List ℕ) (n : ℕ) → CallFacts cell q v Free call
    → option_and_then target_in (given (state_call cell q call) (codes "result") form.Result) ≡ Some (target.Vector name n) → has_states cell q call ≡ true
unfolding given
vector-result cell q v Free call name n facts is =
    item-vector cell q call.identifier.place (item_for call.items (formals_of_procedure procedure.StateTable false) (codes "result")) name n
    (item-there (λ i. Within (NameBehind cell q) (Item i)) call.items (formals_of_procedure procedure.StateTable false) (codes "result") facts.behind) facts.called
    (subst (λ o. option_and_then target_in (option_and_then (λ i. (actual_of (context cell (Some q) []) form.Result i).tree) o) ≡ Some (target.Vector name n)) (same-item (has_states cell q call) call.items (codes "result")) is)

together : (cell : Cell) (q : Process) (v : Visible) (Free : Node → Type 0) (call : Call) → CallFacts cell q v Free call → (call_of_procedure (context cell (Some q) []) cell (site_at (Some q) call.identifier.place) call.items procedure.StateTable).places ≡ []
    → GoTogether (state_call cell q call) (has_states cell q call)
unfolding formals_of_procedure
together cell q v Free call facts whole = record {
  none = refl;
  formals = refl;
  whole = whole;
  vectors = λ name n is. vector-result cell q v Free call name n facts is;
}

one-use : (cell : Cell) (o : Option TableUse) → AllFit cell (option_to_list o) → IfSome o (Fits cell)
one-use cell None fit = tt
one-use cell (Some u) fit = fit.0

at-most : (n m : ℕ) → n ≤ m → nat_le n m ≡ true
at-most n m is = grind (arith, nat_tests)

table-there : (cell : Cell) (q : Process) (v : Visible) (Free : Node → Type 0) (call : Call) (t : StateTable) → CallFacts cell q v Free call → IsReadAs (state_call cell q call) t
    → columns_given (state_call cell q call) ≡ Some (length_of t.data_in + t.num_states + results_of t.result)
    → IfSome (option_map (use_of table.State (length_of t.data_in) t.num_states) (used_in (context cell (Some q) []) (state_call cell q call).formals call.items)) (Fits cell)
    → state_tables_in v t.table (length_of t.data_in) t.num_states (results_of t.result) ≡ true
unfolding given
table-there cell q v Free call t facts read columns fit =
    state-fits cell v (context cell (Some q) []) Free (item_for call.items (state_call cell q call).formals (codes "statetable")) t.table (length_of t.data_in) t.num_states (results_of t.result) facts.reads
    (item-there (λ i. Within Free (Item i)) call.items (state_call cell q call).formals (codes "statetable") facts.free) read.table columns fit

table-sound : (s : ActualScope) (cell : Cell) (q : Process) (v : Visible) (Free : Node → Type 0) (call : Call) (t : StateTable) → CallFacts cell q v Free call → GoTogether (state_call cell q call) (has_states cell q call)
    → AllFit cell (uses_of_procedure (context cell (Some q) []) cell (site_at (Some q) call.identifier.place) call.items procedure.StateTable) → IsReadAs (state_call cell q call) t → IsSoundStateTable s.names (state_call cell q call) t
    → is_sound_state_table (state_tables_in v) s.names t ≡ true
table-sound s cell q v Free call t facts go fit read sound =
    let k = state_call cell q call in
    let used = one-use cell (option_and_then (λ p. option_map (use_of table.State p.0 p.1) (used_in k.context k.formals k.items)) (parting (all-typed k))) fit in
    both-true (is_sound_vector s.names (length_of t.data_in) t.data_in) _ sound.inputs
    (both-true (is_sound_target s.names t.result) _ sound.result
    (both-true (nat_le t.num_states (results_of t.result)) _ (at-most t.num_states (results_of t.result) sound.states)
    (both-true (state_tables_in v t.table (length_of t.data_in) t.num_states (results_of t.result)) (s.names.has_vector t.previous_data_in (length_of t.data_in))
    (table-there cell q v Free call t facts read sound.columns
    (subst (λ o. IfSome (option_and_then (λ p. option_map (use_of table.State p.0 p.1) (used_in k.context k.formals k.items)) o) (Fits cell)) (parted-as s.names k (has_states cell q call) t go read sound) used))
    sound.kept)))

both-some : {A : Type 0} (P Q R : A → Type 0) (o : Option A) → ((x : A) → P x → Q x → R x) → IfSome o P → IfSome o Q → IfSome o R
both-some P Q R None step first second = tt
both-some P Q R (Some x) step first second = step x first second

made-functional : (s : ActualScope) (v : Visible) (o : Option StateTable) → IfSome o (λ t. is_sound_state_table (state_tables_in v) s.names t ≡ true) → IfSome (option_map (λ t. functional.StateTable t) o) (SoundFunctional (state_tables_in v) s)
made-functional s v None sound = tt
made-functional s v (Some t) sound = sound

call-sound : (s : ActualScope) (cell : Cell) (q : Process) (v : Visible) (Free : Node → Type 0) (call : Call) → IsActualScopeOf s (context cell (Some q) []).position → KnownCall s.names (context cell (Some q) []) call → CallFacts cell q v Free call
    → (call_of_procedure (context cell (Some q) []) cell (site_at (Some q) call.identifier.place) call.items procedure.StateTable).places ≡ []
    → AllFit cell (uses_of_procedure (context cell (Some q) []) cell (site_at (Some q) call.identifier.place) call.items procedure.StateTable)
    → IfSome (option_map (λ t. functional.StateTable t) (state_table (state_call cell q call))) (SoundFunctional (state_tables_in v) s)
call-sound s cell q v Free call scope known facts whole fit =
    let k = state_call cell q call in
    let go = together cell q v Free call facts whole in
    made-functional s v (state_table k)
    (both-some (IsReadAs k) (IsSoundStateTable s.names k) (λ t. is_sound_state_table (state_tables_in v) s.names t ≡ true) (state_table k) (λ t read sound. table-sound s cell q v Free call t facts go fit read sound) (read-as k)
    (state-table-sound s k (has_states cell q call) (record { scope = scope; known = known }) go))

-- ---- calls of procedures

procedure-sound : (s : ActualScope) (cell : Cell) (q : Process) (v : Visible) (Free : Node → Type 0) (call : Call) (p : Option Procedure) → IsActualScopeOf s (context cell (Some q) []).position → KnownCall s.names (context cell (Some q) []) call
    → CallFacts cell q v Free call → (option_map_or (call_of_procedure (context cell (Some q) []) cell (site_at (Some q) call.identifier.place) call.items) p (typed statement.Other)).places ≡ []
    → AllFit cell (option_map_or (uses_of_procedure (context cell (Some q) []) cell (site_at (Some q) call.identifier.place) call.items) p [])
    → IfSome (option_and_then {T = Procedure × GivenCall} (λ c. state_table_called c.0 c.1) (option_map (λ r. (r, given_call cell [] q call r)) p)) (SoundFunctional (state_tables_in v) s)
procedure-sound s cell q v Free call None scope known facts whole fit = tt
procedure-sound s cell q v Free call (Some procedure.WireDelay) scope known facts whole fit = tt
procedure-sound s cell q v Free call (Some procedure.StateTable) scope known facts whole fit = call-sound s cell q v Free call scope known facts whole fit
procedure-sound s cell q v Free call (Some (procedure.PathDelay d)) scope known facts whole fit = tt
procedure-sound s cell q v Free call (Some (procedure.Check c)) scope known facts whole fit = tt

some-sound : (s : ActualScope) (cell : Cell) (q : Process) (v : Visible) (Free : Node → Type 0) (o : Option Call) → IsActualScopeOf s (context cell (Some q) []).position → IfSome o (KnownCall s.names (context cell (Some q) [])) → IfSome o (CallFacts cell q v Free)
    → (option_map_or (call_meant (context cell (Some q) []) cell (Some q)) o (typed statement.Other)).places ≡ [] → AllFit cell (option_map_or (uses_meant (context cell (Some q) []) cell (Some q)) o [])
    → IfSome (option_and_then {T = Procedure × GivenCall} (λ c. state_table_called c.0 c.1) (option_and_then (called_by cell [] q) o)) (SoundFunctional (state_tables_in v) s)
some-sound s cell q v Free None scope known facts whole fit = tt
some-sound s cell q v Free (Some call) scope known facts whole fit = procedure-sound s cell q v Free call (procedure_of cell (Some q) call) scope known facts whole fit

-- ---- statements

facts-of : (cell : Cell) (q : Process) (v : Visible) (Free : Node → Type 0) (r : Reference) (o : Option (List Item')) → Reads cell v (context cell (Some q) []) Free → IfSome o (ItemsWithin Free) → IfSome o (ItemsWithin (NameBehind cell q)) → IsBehindAll cell q r.identifier.place
    → IfSome (option_map (λ is. record { identifier = r.identifier; items = is }) o) (CallFacts cell q v Free)
facts-of cell q v Free r None reads free behind called = tt
facts-of cell q v Free r (Some is) reads free behind called = record { reads = reads; free = free; behind = behind; called = called }

name-facts : (cell : Cell) (q : Process) (v : Visible) (Free : Node → Type 0) (r : Reference) → Reads cell v (context cell (Some q) []) Free → Within Free (Name r) → Within (NameBehind cell q) (Name r) → IfSome (call_of r) (CallFacts cell q v Free)
name-facts cell q v Free r reads free behind =
    facts-of cell q v Free r (items_behind r.suffixes) reads (items-behind Free r free) (items-behind (NameBehind cell q) r behind) (here-within (NameBehind cell q) (Name r) behind)

-- A statement that is a call.
pub layer-sound : (s : ActualScope) (cell : Cell) (q : Process) (v : Visible) (Free : Node → Type 0) (l : StmtLayer) → Reads cell v (context cell (Some q) []) Free → IsActualScopeOf s (context cell (Some q) []).position
    → IfSome (call_in l) (KnownCall s.names (context cell (Some q) [])) → AllByRecursion (Within Free) (parts_in_stmt l) → AllByRecursion (Within (NameBehind cell q)) (parts_in_stmt l)
    → (statement_in (context cell (Some q) []) cell (Some q) l).places ≡ [] → AllFit cell (statement_uses (context cell (Some q) []) cell (Some q) l)
    → IfSome (option_and_then {T = Procedure × GivenCall} (λ c. state_table_called c.0 c.1) (option_and_then (called_by cell [] q) (call_in l))) (SoundFunctional (state_tables_in v) s)
layer-sound s cell q v Free (Stmt-F.VariableAssignment place a) reads scope known free behind whole fit = tt
layer-sound s cell q v Free (Stmt-F.SignalAssignment place a) reads scope known free behind whole fit = tt
layer-sound s cell q v Free (Stmt-F.Call place name) reads scope known free behind whole fit =
    some-sound s cell q v Free (call_of name) scope known (name-facts cell q v Free name reads free.0 behind.0) whole fit
layer-sound s cell q v Free (Stmt-F.If place i) reads scope known free behind whole fit = tt
layer-sound s cell q v Free (Stmt-F.Null place) reads scope known free behind whole fit = tt
