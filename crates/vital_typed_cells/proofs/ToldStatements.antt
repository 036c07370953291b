-- It is told what comes of statements, where no name breaks another clause.
use Rattle.std.proofs.Common.{◌≡◌, ℕ, ◌+◌, Bool, true, false, List, [], ◌∷◌, map, Option, Some, None, refl, ap}
use Rattle.std.specs.Prelude.{◌&&◌, not, IsSome, codes, if◌then◌else◌, is_some}
use Rattle.std.specs.List.{AllByRecursion, cons_option, enumerate_from, filter_map}
use Rattle.std.specs.Option.{option_map, option_map_or}
use Rattle.vital_actuals.specs.declared.target.Target.{Target}
use Rattle.vital_actuals.specs.declared.target.Target.TheVariants as target
use Rattle.vital_actuals.specs.Actuals.{actual_of, target_of}
use Rattle.vital_calls.specs.declared.actual_form.ActualForm.{ActualForm}
use Rattle.vital_calls.specs.Calls.{call_of}
use Rattle.vital_calls.specs.Formals.{Formals}
use Rattle.vital_calls.specs.Matching.{form_of, formal_name}
use Rattle.vital_expr.specs.Outcomes.{Outcome, map_typed, typed}
use Rattle.vital_expr.specs.Readings.{Context, boolean_of, level_of, vector_of}
use Rattle.vital_names.specs.declared.predeclared.Procedure.{Procedure}
use Rattle.vital_names.specs.declared.predeclared.Procedure.TheVariants as procedure
use Rattle.vital_names.specs.Sites.{Cell}
use Rattle.vital_nodes.specs.declared.expr.Expr.{Expr}
use Rattle.vital_nodes.specs.declared.expr.Item.{Item as Item'}
use Rattle.vital_nodes.specs.declared.expr.Reference.{Reference}
use Rattle.vital_nodes.specs.declared.stmt.Branch.{Branch}
use Rattle.vital_nodes.specs.declared.stmt.Process.{Process}
use Rattle.vital_nodes.specs.declared.stmt.Stmt.TheOpen.{Stmt-F}
use Rattle.vital_nodes.specs.declared.stmt.Stmt.TheViews.{out-If}
use Rattle.vital_nodes.specs.declared.stmt.VariableAssignment.{VariableAssignment}
use Rattle.vital_nodes.specs.Layers.{StmtLayer}
use Rattle.vital_statements.specs.Called.{procedure_of}
use Rattle.vital_statements.specs.Sites.{site_at}
use Rattle.vital_typed_statements.specs.declared.given.GivenActual.{GivenActual}
use Rattle.vital_typed_statements.specs.declared.statement.TypedStatement.{TypedStatement}
use Rattle.vital_typed_statements.specs.declared.statement.TypedStatement.TheVariants as statement
use Rattle.vital_typed_statements.specs.declared.statement.Value.TheVariants as value
use Rattle.vital_typed_statements.specs.Given.{actual_for, all_given, are_all_typed, broken_ones, given_as, given_by, typed_ones}
use Rattle.vital_typed_statements.specs.StateTables.{columns, count, count_in, differs, fits, has_too_many_states, has_wrong_inputs, has_wrong_inputs_for, has_wrong_kept, inputs, inputs_in, kept, result, results_of, states_of, target_in, wrong_inputs_by}
use Rattle.vital_typed_statements.specs.Statements.{assigned, assignment, breach_if, call_by, call_meant, call_of_procedure, call_statement, misfits, plain_call, state_table_call, statement_in, typed_call, value_for}
use Rattle.vital_typed_cells.specs.Told.{IsTold}
use Rattle.vital_typed_cells.proofs.ExprTests.{both-true, second-true}
use Rattle.vital_typed_cells.proofs.ExprTold.{none-before, none-behind, told-all, told-mapped, told-then}
use Rattle.vital_typed_cells.proofs.ToldNodes.{expression-told}
use Rattle.vital_typed_cells.proofs.ToldActuals.{item-told, target-told}
use Rattle.vital_typed_cells.proofs.GivenActuals.{gives, item-of}
use Rattle.vital_typed_cells.proofs.Misfits.{greater-some, no-breach, some-in}

-- ---- assignments

value-told : (c : Context) (t : Target) (e : Expr) → c.faults ≡ [] → IsTold (value_for c t e)
value-told c (target.Level name) e none = told-mapped (λ t. value.Level t) (level_of c e) (expression-told c e none).level
value-told c (target.Element name n) e none = told-mapped (λ t. value.Level t) (level_of c e) (expression-told c e none).level
value-told c (target.Vector name n) e none = told-mapped (λ v. value.Vector v) (vector_of c (Some n) e) ((expression-told c e none).vector (Some n))

pub assignment-told : (c : Context) (a : VariableAssignment) → c.faults ≡ [] → IsTold (assignment c a)
assignment-told c a none =
    told-then (assigned c a.value) (target_of c a.target) (target-told c a.target none) (λ t. told-mapped (λ v. statement.Assignment t v) (value_for c t a.value) (value-told c t a.value none))

-- ---- calls

mapped-some : {A B : Type 0} (f : A → B) (o : Option A) → IsSome o → is_some (option_map f o) ≡ true
mapped-some f None there = there
mapped-some f (Some x) there = refl

head-typed : (c : Context) (i : Item') (g : Option ActualForm) (m : Option (List ℕ)) (os : List (Outcome GivenActual)) → c.faults ≡ [] → (broken_ones os ≡ [] → are_all_typed os ≡ true) → broken_ones (cons_option (gives c i g m) os) ≡ [] → are_all_typed (cons_option (gives c i g m) os) ≡ true
head-typed c i None None os none others whole = others whole
head-typed c i None (Some l) os none others whole = others whole
head-typed c i (Some h) None os none others whole = others whole
head-typed c i (Some h) (Some l) os none others whole =
    both-true (is_some (map_typed (given_as l) (actual_of c h i)).tree) (are_all_typed os)
    (mapped-some (given_as l) (actual_of c h i).tree (item-told c h i none (none-before (actual_of c h i).places (broken_ones os) whole)))
    (others (none-behind (actual_of c h i).places (broken_ones os) whole))

all-typed : (c : Context) (fs : Formals) (is : List Item') (n : ℕ) → c.faults ≡ [] → broken_ones (filter_map (given_by c fs) (enumerate_from n is)) ≡ [] → are_all_typed (filter_map (given_by c fs) (enumerate_from n is)) ≡ true
all-typed c fs [] n none whole = refl
all-typed c fs (i ∷ is) n none whole = head-typed c i (form_of fs n i) (formal_name fs n i) (filter_map (given_by c fs) (enumerate_from (n + 1) is)) none (all-typed c fs is (n + 1) none) whole

typed-there : (q : Procedure) (os : List (Outcome GivenActual)) → are_all_typed os ≡ true → IsSome (typed_call q os)
typed-there q os all = ap (λ (b : Bool). is_some (if b then Some (statement.Call q (typed_ones os)) else None)) all

plain-told : (c : Context) (fs : Formals) (is : List Item') (q : Procedure) → c.faults ≡ [] → IsTold (plain_call q (all_given c fs is))
plain-told c fs is q none = λ whole. typed-there q (all_given c fs is) (all-typed c fs is 0 none whole)

-- ---- calls of VitalStateTable

inputs-some : (columns inputs states : Option ℕ) (results : ℕ) → wrong_inputs_by columns inputs states results ≡ true → IsSome inputs
inputs-some columns (Some n) states results is = refl
inputs-some None None states results is = cc
inputs-some (Some m) None states results is = cc

wrong-some : (gs : List GivenActual) (o : Option Target) → option_map_or (λ t. not (has_too_many_states gs) && has_wrong_inputs_for gs t) o false ≡ true → IsSome (inputs gs)
wrong-some gs None is = cc
wrong-some gs (Some t) is = inputs-some (columns gs) (inputs gs) (states_of (count gs) t) (results_of t) (second-true (not (has_too_many_states gs)) (has_wrong_inputs_for gs t) is)

kept-some : (n : Option ℕ) (t : Option Target) → differs n t ≡ true → IsSome t
kept-some n (Some t) is = refl
kept-some None None is = cc
kept-some (Some m) None is = cc

not-true : (b : Bool) → b ≡ false → not b ≡ true
not-true b is = ap not is

all-fit : (c : Context) (fs : Formals) (is : List Item') → c.faults ≡ [] → misfits c fs is (typed_ones (all_given c fs is)) ≡ [] → fits (typed_ones (all_given c fs is)) ≡ true
all-fit c fs is none whole =
    let gs = typed_ones (all_given c fs is) in
    let behind = none-behind (breach_if (has_too_many_states gs) c fs is (codes "numstates")) _ whole in
    both-true (not (has_too_many_states gs)) (not (has_wrong_inputs gs) && not (has_wrong_kept gs))
    (not-true (has_too_many_states gs) (no-breach c fs is (has_too_many_states gs) (codes "numstates") none
    (none-before (breach_if (has_too_many_states gs) c fs is (codes "numstates")) _ whole)
    (λ h. item-of c fs is (codes "numstates") (some-in count_in (actual_for (codes "numstates") gs) (greater-some (count gs) (result gs) h)))))
    (both-true (not (has_wrong_inputs gs)) (not (has_wrong_kept gs))
    (not-true (has_wrong_inputs gs) (no-breach c fs is (has_wrong_inputs gs) (codes "datain") none
    (none-before (breach_if (has_wrong_inputs gs) c fs is (codes "datain")) _ behind)
    (λ h. item-of c fs is (codes "datain") (some-in inputs_in (actual_for (codes "datain") gs) (wrong-some gs (result gs) h)))))
    (not-true (has_wrong_kept gs) (no-breach c fs is (has_wrong_kept gs) (codes "previousdatain") none
    (none-behind (breach_if (has_wrong_inputs gs) c fs is (codes "datain")) _ behind)
    (λ h. item-of c fs is (codes "previousdatain") (some-in target_in (actual_for (codes "previousdatain") gs) (kept-some (inputs gs) (kept gs) h))))))

where-fits : (b : Bool) (o : Option TypedStatement) → b ≡ true → IsSome o → IsSome (if b then o else None)
where-fits true o is there = there
where-fits false o is there = is

table-told : (c : Context) (fs : Formals) (is : List Item') → c.faults ≡ [] → IsTold (state_table_call c fs is (all_given c fs is))
table-told c fs is none = λ whole.
    where-fits (fits (typed_ones (all_given c fs is))) (typed_call procedure.StateTable (all_given c fs is))
    (all-fit c fs is none (none-behind (broken_ones (all_given c fs is)) _ whole))
    (typed-there procedure.StateTable (all_given c fs is) (all-typed c fs is 0 none (none-before (broken_ones (all_given c fs is)) _ whole)))

called-told : (c : Context) (fs : Formals) (is : List Item') (q : Procedure) → c.faults ≡ [] → IsTold (call_by c fs is q)
called-told c fs is procedure.WireDelay none = plain-told c fs is procedure.WireDelay none
called-told c fs is procedure.StateTable none = table-told c fs is none
called-told c fs is (procedure.PathDelay d) none = plain-told c fs is (procedure.PathDelay d) none
called-told c fs is (procedure.Check k) none = plain-told c fs is (procedure.Check k) none

or-other : {A : Type 0} (f : A → Outcome TypedStatement) (o : Option A) → ((t : A) → IsTold (f t)) → IsTold (option_map_or f o (typed statement.Other))
or-other f None told = λ is. refl
or-other f (Some t) told = told t

pub call-told : (c : Context) (cell : Cell) (process : Option Process) (r : Reference) → c.faults ≡ [] → IsTold (call_statement c cell process r)
call-told c cell process r none =
    or-other (call_meant c cell process) (call_of r)
    (λ call. or-other (call_of_procedure c cell (site_at process call.identifier.place) call.items) (procedure_of cell process call) (λ q. called-told c _ call.items q none))

-- ---- statements

each-condition : (c : Context) (bs : List Branch) → c.faults ≡ [] → AllByRecursion IsTold (map (λ b. boolean_of c b.condition) bs)
each-condition c [] none = tt
each-condition c (b ∷ bs) none = ((expression-told c b.condition none).boolean, each-condition c bs none)

pub statement-told : (c : Context) (cell : Cell) (process : Option Process) (l : StmtLayer) → c.faults ≡ [] → IsTold (statement_in c cell process l)
statement-told c cell process (Stmt-F.VariableAssignment place a) none = assignment-told c a none
statement-told c cell process (Stmt-F.SignalAssignment place a) none = λ is. refl
statement-told c cell process (Stmt-F.Call place name) none = call-told c cell process name none
statement-told c cell process (Stmt-F.If place i) none =
    told-mapped (λ ts. statement.Conditions ts) _ (told-all (map (λ b. boolean_of c b.condition) (out-If i).branches) (each-condition c (out-If i).branches none))
statement-told c cell process (Stmt-F.Null place) none = λ is. refl
