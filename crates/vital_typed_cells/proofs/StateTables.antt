-- Calls of state tables whose actuals go with one another are sound.
use Rattle.std.proofs.Common.{◌≡◌, ℕ, ◌+◌, ◌≤◌, Bool, true, false, List, [], Option, Some, None, refl, ap, sym, subst, ◌∙◌, arith}
use Rattle.std.specs.Prelude.{◌&&◌, ◌==◌, not, IfSome, IsSome, codes, is_some}
use Rattle.std.specs.Option.{option_and_then, option_map, option_map_or}
use Rattle.std.proofs.lemmas.Bool.Decides.{nat_tests}
use Rattle.std.proofs.lemmas.Option.{same_Some}
use Rattle.vital_actuals.specs.declared.actual.Actual.{Actual}
use Rattle.vital_actuals.specs.declared.actual.Actual.TheVariants as actual
use Rattle.vital_actuals.specs.declared.target.Target.{Target}
use Rattle.vital_actuals.specs.declared.target.Target.TheVariants as target
use Rattle.vital_calls.specs.declared.actual_form.ActualForm.{ActualForm}
use Rattle.vital_calls.specs.declared.actual_form.ActualForm.TheVariants as form
use Rattle.vital_calls.specs.Formals.{Formals, formals_of_state_table}
use Rattle.vital_calls.specs.Matching.{actual_of as item_for}
use Rattle.vital_expr.specs.Vectors.{length_of}
use Rattle.vital_operands.specs.declared.tree.ConstantName.{ConstantName}
use Rattle.vital_operands.specs.declared.tree.VectorExpr.{VectorExpr}
use Rattle.vital_sections.specs.Given as given
use Rattle.vital_sections.specs.Given.{GivenCall, count_given, inputs_given, kept_given, result_given, table_given}
use Rattle.vital_sections.specs.StateTables.{state_table, state_table_with, vector_in, with_inputs, with_kept, with_result, with_states}
use Rattle.vital_typed_statements.specs.declared.given.GivenActual.{GivenActual}
use Rattle.vital_typed_statements.specs.Given.{actual_for, all_given, broken_ones, typed_ones}
use Rattle.vital_typed_statements.specs.StateTables.{are_parted, columns, columns_in, count, count_in, differs, has_too_many_states, has_wrong_inputs, has_wrong_inputs_for, has_wrong_kept, inputs, inputs_in, is_greater_than_results, kept, result, results_of, states_of, target_in, wrong_inputs_by}
use Rattle.vital_typed_statements.specs.Statements.{breach_if, misfits}
use Rattle.vital_typed_cells.proofs.Outcomes.{if-and-then}
use Rattle.vital_typed_cells.proofs.ExprTests.{number-is}
use Rattle.vital_typed_cells.proofs.ExprTold.{none-before, none-behind}
use Rattle.vital_typed_cells.specs.ActualScopes.{ActualScope}
use Rattle.vital_typed_cells.specs.SoundActuals.{is_sound_target}
use Rattle.vital_typed_cells.proofs.Actuals.{SoundActual}
use Rattle.vital_typed_cells.specs.Trees.{is_sound_vector}
use Rattle.vital_typed_cells.specs.SoundTables.{GoTogether, IsSoundStateTable, columns_given}
use Rattle.vital_typed_cells.proofs.SectionGiven.{IsCallIn, given-sound}
use Rattle.vital_typed_cells.proofs.GivenActuals.{HasForm, item-of, same-found}
use Rattle.vital_typed_cells.proofs.Misfits.{greater-some, no-breach, some-in}
use Rattle.vital_typed_cells.proofs.StateForms.{count-form, inputs-form, kept-form, result-form, table-form}

-- ---- what actuals say

table-columns : (o : Option Actual) (t : ConstantName) → option_and_then given.table_in o ≡ Some t → (n : ℕ) × (option_and_then columns_in o ≡ Some n)
table-columns None t is = cc
table-columns (Some (actual.Table table n)) t is = (n, refl)
table-columns (Some (actual.Named name)) t is = cc
table-columns (Some (actual.Target u)) t is = cc
table-columns (Some (actual.Inputs v)) t is = cc
table-columns (Some (actual.StateCount n)) t is = cc
table-columns (Some (actual.Level u)) t is = cc
table-columns (Some (actual.Delay u)) t is = cc
table-columns (Some (actual.Time u)) t is = cc
table-columns (Some (actual.Boolean u)) t is = cc
table-columns (Some actual.Text) t is = cc
table-columns (Some (actual.Mode m)) t is = cc
table-columns (Some (actual.Severity m)) t is = cc
table-columns (Some actual.Fixed) t is = cc
table-columns (Some (actual.EdgeSymbol b)) t is = cc
table-columns (Some (actual.Paths ps)) t is = cc

input-count : (o : Option Actual) → option_and_then inputs_in o ≡ option_map length_of (option_and_then given.inputs_in o)
input-count None = refl
input-count (Some (actual.Inputs v)) = refl
input-count (Some other) = refl

same-target : (o : Option Actual) → option_and_then target_in o ≡ option_and_then given.target_in o
same-target None = refl
same-target (Some (actual.Target t)) = refl
same-target (Some other) = refl

same-count : (o : Option Actual) → option_and_then count_in o ≡ option_and_then given.count_in o
same-count None = refl
same-count (Some (actual.StateCount n)) = refl
same-count (Some other) = refl

kept-vector : (o : Option Target) (name : List ℕ) → option_and_then vector_in o ≡ Some name → (m : ℕ) × (o ≡ Some (target.Vector name m))
kept-vector None name is = cc
kept-vector (Some (target.Level other)) name is = cc
kept-vector (Some (target.Element other n)) name is = cc
kept-vector (Some (target.Vector other m)) name is = (m, ap (λ (x : List ℕ). Some (target.Vector x m)) (same_Some other name is))

inputs-sound : (s : ActualScope) (o : Option Actual) (v : VectorExpr) → IfSome o (SoundActual s form.Inputs) → option_and_then given.inputs_in o ≡ Some v → is_sound_vector s.names (length_of v) v ≡ true
inputs-sound s None v sound is = cc
inputs-sound s (Some (actual.Inputs w)) v sound is = subst (λ (x : VectorExpr). is_sound_vector s.names (length_of x) x ≡ true) (same_Some w v is) sound
inputs-sound s (Some (actual.Table table n)) v sound is = cc
inputs-sound s (Some (actual.Named name)) v sound is = cc
inputs-sound s (Some (actual.Target u)) v sound is = cc
inputs-sound s (Some (actual.StateCount n)) v sound is = cc
inputs-sound s (Some (actual.Level u)) v sound is = cc
inputs-sound s (Some (actual.Delay u)) v sound is = cc
inputs-sound s (Some (actual.Time u)) v sound is = cc
inputs-sound s (Some (actual.Boolean u)) v sound is = cc
inputs-sound s (Some actual.Text) v sound is = cc
inputs-sound s (Some (actual.Mode m)) v sound is = cc
inputs-sound s (Some (actual.Severity m)) v sound is = cc
inputs-sound s (Some actual.Fixed) v sound is = cc
inputs-sound s (Some (actual.EdgeSymbol b)) v sound is = cc
inputs-sound s (Some (actual.Paths ps)) v sound is = cc

target-in-sound : (s : ActualScope) (f : ActualForm) (a : Actual) → SoundActual s f a → IfSome (given.target_in a) (λ t. is_sound_target s.names t ≡ true)
target-in-sound s f (actual.Target t) sound = sound
target-in-sound s f other sound = tt

some-holds : {A : Type 0} (P : A → Type 0) (o : Option A) (t : A) → IfSome o P → o ≡ Some t → P t
some-holds P o t holds is = subst (λ q. IfSome q P) is holds

target-sound : (s : ActualScope) (k : GivenCall) (name : List ℕ) (f : ActualForm) (t : Target) → IsCallIn s k → option_and_then given.target_in (given.given k name f) ≡ Some t → is_sound_target s.names t ≡ true
target-sound s k name f t in-call is =
    some-holds (λ u. is_sound_target s.names u ≡ true) (option_and_then given.target_in (given.given k name f)) t
    (if-and-then (SoundActual s f) (λ u. is_sound_target s.names u ≡ true) given.target_in (given.given k name f) (given-sound s k name f in-call) (target-in-sound s f)) is

-- ---- what goes with one another

pub is-there : {A : Type 0} (o : Option A) (t : A) → o ≡ Some t → IsSome o
is-there o t is = ap is_some is

few-states : (o : Option ℕ) (t : Target) (n : ℕ) → is_greater_than_results o (Some t) ≡ false → states_of o t ≡ Some n → n ≤ results_of t
few-states o (target.Level name) n few is = let one : 1 ≡ n = same_Some 1 n is in omega arith
few-states o (target.Element name m) n few is = let one : 1 ≡ n = same_Some 1 n is in omega arith
few-states None (target.Vector name m) n few is = cc
few-states (Some q) (target.Vector name m) n few is = let same : q ≡ n = same_Some q n is in let small : q ≤ m = grind (arith, nat_tests) in omega arith

not-false : (b : Bool) → not b ≡ false → b ≡ true
not-false true is = refl
not-false false is = cc

abbrev pub all-typed : GivenCall → List GivenActual
all-typed k = typed_ones (all_given k.context k.formals k.items)

all-whole : (k : GivenCall) (b : Bool) → GoTogether k b → broken_ones (all_given k.context k.formals k.items) ≡ []
all-whole k b go = none-before (broken_ones (all_given k.context k.formals k.items)) (misfits k.context k.formals k.items (all-typed k)) go.whole

nothing-misfits : (k : GivenCall) (b : Bool) → GoTogether k b → misfits k.context k.formals k.items (all-typed k) ≡ []
nothing-misfits k b go = none-behind (broken_ones (all_given k.context k.formals k.items)) (misfits k.context k.formals k.items (all-typed k)) go.whole

same-given : (k : GivenCall) (name : List ℕ) (f : ActualForm) → k.context.faults ≡ [] → HasForm k.formals name f → broken_ones (all_given k.context k.formals k.items) ≡ [] → actual_for name (typed_ones (all_given k.context k.formals k.items)) ≡ given.given k name f
unfolding item_for given.given
same-given k name f none form whole = same-found k.context k.formals name f k.items 0 none form whole

same-actual : (k : GivenCall) (b : Bool) (name : List ℕ) (f : ActualForm) → GoTogether k b → HasForm (formals_of_state_table b) name f → actual_for name (all-typed k) ≡ given.given k name f
same-actual k b name f go has = same-given k name f go.none (subst (λ (fs : Formals). HasForm fs name f) (sym go.formals) has) (all-whole k b go)

pub columns-law : (k : GivenCall) (b : Bool) → GoTogether k b → columns (all-typed k) ≡ columns_given k
columns-law k b go = ap (option_and_then columns_in) (same-actual k b (codes "statetable") form.StateTable go (table-form b))

pub inputs-law : (k : GivenCall) (b : Bool) → GoTogether k b → inputs (all-typed k) ≡ option_map length_of (inputs_given k)
inputs-law k b go = ap (option_and_then inputs_in) (same-actual k b (codes "datain") form.Inputs go (inputs-form b)) ∙ input-count (given.given k (codes "datain") form.Inputs)

pub result-law : (k : GivenCall) (b : Bool) → GoTogether k b → result (all-typed k) ≡ result_given k
result-law k b go = ap (option_and_then target_in) (same-actual k b (codes "result") form.Result go (result-form b)) ∙ same-target (given.given k (codes "result") form.Result)

kept-law : (k : GivenCall) (b : Bool) → GoTogether k b → kept (all-typed k) ≡ kept_given k
kept-law k b go = ap (option_and_then target_in) (same-actual k b (codes "previousdatain") form.PreviousData go (kept-form b)) ∙ same-target (given.given k (codes "previousdatain") form.PreviousData)

count-law : (k : GivenCall) (b : Bool) → GoTogether k b → b ≡ true → count (all-typed k) ≡ count_given k
count-law k b go is =
    ap (option_and_then count_in) (same-actual k b (codes "numstates") form.StateCount go (subst (λ (x : Bool). HasForm (formals_of_state_table x) (codes "numstates") form.StateCount) (sym is) count-form))
    ∙ same-count (given.given k (codes "numstates") form.StateCount)

pub states-law : (k : GivenCall) (b : Bool) (t : Target) → GoTogether k b → result_given k ≡ Some t → states_of (count (all-typed k)) t ≡ states_of (count_given k) t
states-law k b (target.Level name) go is = refl
states-law k b (target.Element name n) go is = refl
states-law k b (target.Vector name n) go is = count-law k b go (go.vectors name n is)

pub few-enough : (k : GivenCall) (b : Bool) → GoTogether k b → has_too_many_states (all-typed k) ≡ false
few-enough k b go =
    no-breach k.context k.formals k.items (has_too_many_states (all-typed k)) (codes "numstates") go.none
    (none-before (breach_if (has_too_many_states (all-typed k)) k.context k.formals k.items (codes "numstates")) _ (nothing-misfits k b go))
    (λ h. item-of k.context k.formals k.items (codes "numstates") (some-in count_in (actual_for (codes "numstates") (all-typed k)) (greater-some (count (all-typed k)) (result (all-typed k)) h)))

pub right-inputs : (k : GivenCall) (b : Bool) → GoTogether k b → IsSome (inputs (all-typed k)) → has_wrong_inputs (all-typed k) ≡ false
right-inputs k b go there =
    no-breach k.context k.formals k.items (has_wrong_inputs (all-typed k)) (codes "datain") go.none
    (none-before (breach_if (has_wrong_inputs (all-typed k)) k.context k.formals k.items (codes "datain")) _
    (none-behind (breach_if (has_too_many_states (all-typed k)) k.context k.formals k.items (codes "numstates")) _ (nothing-misfits k b go)))
    (λ h. item-of k.context k.formals k.items (codes "datain") (some-in inputs_in (actual_for (codes "datain") (all-typed k)) there))

right-kept : (k : GivenCall) (b : Bool) → GoTogether k b → IsSome (kept (all-typed k)) → has_wrong_kept (all-typed k) ≡ false
right-kept k b go there =
    no-breach k.context k.formals k.items (has_wrong_kept (all-typed k)) (codes "previousdatain") go.none
    (none-behind (breach_if (has_wrong_inputs (all-typed k)) k.context k.formals k.items (codes "datain")) _
    (none-behind (breach_if (has_too_many_states (all-typed k)) k.context k.formals k.items (codes "numstates")) _ (nothing-misfits k b go)))
    (λ h. item-of k.context k.formals k.items (codes "previousdatain") (some-in target_in (actual_for (codes "previousdatain") (all-typed k)) there))

-- ---- state tables

states-fit : (k : GivenCall) (b : Bool) (r : Target) (n : ℕ) → GoTogether k b → result_given k ≡ Some r → states_of (count_given k) r ≡ Some n → n ≤ results_of r
states-fit k b r n go is states =
    few-states (count (all-typed k)) r n
    (ap (is_greater_than_results (count (all-typed k))) (sym (result-law k b go ∙ is)) ∙ few-enough k b go)
    (states-law k b r go is ∙ states)

columns-fit : (k : GivenCall) (b : Bool) (v : VectorExpr) (r : Target) (n cols : ℕ) → GoTogether k b → columns_given k ≡ Some cols → inputs_given k ≡ Some v → result_given k ≡ Some r → states_of (count_given k) r ≡ Some n → cols ≡ length_of v + n + results_of r
columns-fit k b v r n cols go table given is states =
    let len : inputs (all-typed k) ≡ Some (length_of v) = inputs-law k b go ∙ ap (option_map length_of) given in
    let wrong : (not (has_too_many_states (all-typed k)) && has_wrong_inputs_for (all-typed k) r) ≡ false =
    ap (λ (o : Option Target). option_map_or (λ t. not (has_too_many_states (all-typed k)) && has_wrong_inputs_for (all-typed k) t) o false) (sym (result-law k b go ∙ is))
    ∙ right-inputs k b go (is-there (inputs (all-typed k)) (length_of v) len) in
    let for-result : has_wrong_inputs_for (all-typed k) r ≡ false =
    ap (λ (x : Bool). not x && has_wrong_inputs_for (all-typed k) r) (sym (few-enough k b go)) ∙ wrong in
    let parted : not (are_parted cols (length_of v) n (results_of r)) ≡ false =
    ap (λ (o : Option ℕ). wrong_inputs_by o (Some (length_of v)) (Some n) (results_of r)) (sym (columns-law k b go ∙ table))
    ∙ ap (λ (o : Option ℕ). wrong_inputs_by (columns (all-typed k)) o (Some n) (results_of r)) (sym len)
    ∙ ap (λ (o : Option ℕ). wrong_inputs_by (columns (all-typed k)) (inputs (all-typed k)) o (results_of r)) (sym (states-law k b r go is ∙ states))
    ∙ for-result in
    number-is cols (length_of v + n + results_of r) (not-false (are_parted cols (length_of v) n (results_of r)) parted)

kept-fits : (k : GivenCall) (b : Bool) (v : VectorExpr) (name : List ℕ) (m : ℕ) → GoTogether k b → inputs_given k ≡ Some v → kept_given k ≡ Some (target.Vector name m) → length_of v ≡ m
kept-fits k b v name m go given is =
    let len : inputs (all-typed k) ≡ Some (length_of v) = inputs-law k b go ∙ ap (option_map length_of) given in
    let keeps : kept (all-typed k) ≡ Some (target.Vector name m) = kept-law k b go ∙ is in
    let same : not (length_of v == m) ≡ false =
    ap (λ (o : Option ℕ). differs o (Some (target.Vector name m))) (sym len) ∙ ap (differs (inputs (all-typed k))) (sym keeps)
    ∙ right-kept k b go (is-there (kept (all-typed k)) (target.Vector name m) keeps) in
    number-is (length_of v) m (not-false (length_of v == m) same)

facts : (s : ActualScope) (k : GivenCall) (b : Bool) (table : ConstantName) (v : VectorExpr) (r : Target) (n : ℕ) (name : List ℕ) → IsCallIn s k → GoTogether k b
    → table_given k ≡ Some table → inputs_given k ≡ Some v → result_given k ≡ Some r → states_of (count_given k) r ≡ Some n → option_and_then vector_in (kept_given k) ≡ Some name
    → IsSoundStateTable s.names k (state_table_with table v r n name)
facts s k b table v r n name in-call go tabled reads is states keeps =
    let cols = table-columns (given.given k (codes "statetable") form.StateTable) table tabled in
    let vector = kept-vector (kept_given k) name keeps in
    record {
      inputs = inputs-sound s (given.given k (codes "datain") form.Inputs) v (given-sound s k (codes "datain") form.Inputs in-call) reads;
      result = target-sound s k (codes "result") form.Result r in-call is;
      states = states-fit k b r n go is states;
      columns = cols.1 ∙ ap (λ (c : ℕ). Some c) (columns-fit k b v r n cols.0 go cols.1 reads is states);
      kept = ap (s.names.has_vector name) (kept-fits k b v name vector.0 go reads vector.1) ∙ target-sound s k (codes "previousdatain") form.PreviousData (target.Vector name vector.0) in-call vector.1;
    }

pub if-is : {A B : Type 0} (Q : B → Type 0) (f : A → Option B) (o : Option A) → ((t : A) → o ≡ Some t → IfSome (f t) Q) → IfSome (option_and_then f o) Q
if-is Q f None step = tt
if-is Q f (Some t) step = step t refl

pub if-made : {A B : Type 0} (Q : B → Type 0) (f : A → B) (o : Option A) → ((t : A) → o ≡ Some t → Q (f t)) → IfSome (option_map f o) Q
if-made Q f None step = tt
if-made Q f (Some t) step = step t refl

pub state-table-sound : (s : ActualScope) (k : GivenCall) (b : Bool) → IsCallIn s k → GoTogether k b → IfSome (state_table k) (IsSoundStateTable s.names k)
state-table-sound s k b in-call go =
    if-is (IsSoundStateTable s.names k) (with_inputs k) (table_given k)
    (λ table tabled. if-is (IsSoundStateTable s.names k) (with_result k table) (inputs_given k)
    (λ v given. if-is (IsSoundStateTable s.names k) (with_states k table v) (result_given k)
    (λ r is. if-is (IsSoundStateTable s.names k) (with_kept k table v r) (states_of (count_given k) r)
    (λ n states. if-made (IsSoundStateTable s.names k) (state_table_with table v r n) (option_and_then vector_in (kept_given k))
    (λ name keeps. facts s k b table v r n name in-call go tabled given is states keeps)))))
