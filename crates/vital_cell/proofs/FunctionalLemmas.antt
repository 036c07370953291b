-- Numbered steps of a functionality section stand for its statements.
use Rattle.std.proofs.Common.{◌≡◌, ℕ, ◌≤◌, true, false, List, [], ◌∷◌, length, map, take, get_or, refl, sym, ◌∙◌, ap, arith}
use Rattle.std.specs.Prelude.{◌&&◌, ◌==◌, nat_le, unwrap_or, Some}
use Rattle.std.specs.List.{AllZip, enumerate_from, fold, list_all, slice_index_or}
use Rattle.std.specs.Option.{option_map_or}
use Rattle.std.proofs.lemmas.Bool.{eqb-true, false≢true}
use Rattle.std.proofs.lemmas.List.{length-map}
use Rattle.std.proofs.lemmas.List.FromFn.{get_or-map-range_with_len, length-enumerate_from}
use Rattle.vital_actuals.specs.declared.target.Target.{Target}
use Rattle.vital_actuals.specs.declared.target.Target.TheVariants as target
use Rattle.vital_cell.specs.Statements as E
use Rattle.vital_cell.specs.Variables as variables
use Rattle.vital_expr.specs.Vectors.{length_of}
use Rattle.vital_logic.specs.declared.level.Level.{Level}
use Rattle.vital_logic.specs.declared.level.Level.TheVariants.{U}
use Rattle.vital_machine.specs.declared.input.Input.{Input}
use Rattle.vital_machine.specs.declared.slot.Slot.{Slot}
use Rattle.vital_machine.specs.declared.slot.Slot.TheVariants as slot
use Rattle.vital_machine.specs.declared.steps.FunctionalStep.{FunctionalStep}
use Rattle.vital_machine.specs.declared.steps.FunctionalStep.TheVariants as step
use Rattle.vital_machine.specs.declared.steps.Place.{Place}
use Rattle.vital_machine.specs.declared.steps.StateTableStep.{StateTableStep}
use Rattle.vital_machine.specs.declared.trees.LevelTree.{LevelTree}
use Rattle.vital_machine.specs.declared.trees.VectorTree.{VectorTree}
use Rattle.vital_machine.specs.Fits.{kinds_of}
use Rattle.vital_machine.specs.Machine as M
use Rattle.vital_machine.specs.Seen.{Seen}
use Rattle.vital_machine.specs.Slots.{levels_at, levels_in, with_levels}
use Rattle.vital_machine.specs.Trees as N
use Rattle.vital_machine.specs.TruthTables.{fitted}
use Rattle.vital_machine.proofs.FitLemmas.{fitted-filled, fitted-whole}
use Rattle.vital_objects.specs.declared.variable.VariableKind.{VariableKind}
use Rattle.vital_objects.specs.declared.variable.VariableKind.TheVariants as kind
use Rattle.vital_operands.specs.declared.tree.LevelExpr.{LevelExpr}
use Rattle.vital_operands.specs.declared.tree.VectorExpr.{VectorExpr}
use Rattle.vital_sections.specs.declared.sections.FunctionalStatement.{FunctionalStatement}
use Rattle.vital_sections.specs.declared.sections.FunctionalStatement.TheVariants as statement
use Rattle.vital_sections.specs.declared.state_table.StateTable.{StateTable}
use Rattle.vital_typed_cells.specs.Named.{has_element, is_scalar, is_vector}
use Rattle.vital_typed_cells.specs.SoundActuals.{is_sound_target}
use Rattle.vital_typed_cells.specs.SoundAssignments.{is_sound_value}
use Rattle.vital_typed_cells.specs.SoundSections.{is_sound_functional}
use Rattle.vital_typed_cells.specs.Trees.{vector_worth}
use Rattle.vital_cell.specs.Formed.{IsFormed}
use Rattle.vital_cell.specs.Kinds.{AreOfKinds, IsShort, is_of_kind}
use Rattle.vital_cell.specs.Named.{held_in, named}
use Rattle.vital_cell.specs.Scopes.{Scope, names_of, names_of_variables, present, variable_of}
use Rattle.vital_cell.specs.Sound.{has_state_table, has_vector, rows_named, tests}
use Rattle.vital_cell.specs.StandsFor.{IsLevel, IsVector}
use Rattle.vital_cell.specs.Steps.{IsFunctionalStep, IsTableStep, place_of, table_of}
use Rattle.vital_cell.proofs.ChangeLemmas.{kinds-changed, named-changed}
use Rattle.vital_cell.proofs.FitsLemmas.{fits-kinds, kinds-suit}
use Rattle.vital_cell.proofs.KindLemmas.{found-variable, kind-of-all}
use Rattle.vital_cell.proofs.NameLemmas.{variable-there}
use Rattle.vital_cell.proofs.PutLemmas.{IsAsLong, levels-kept, numbered-by, put-kept, target-put, vector-put}
use Rattle.vital_cell.proofs.SoundLemmas.{first-holds, second-holds, vector-length}
use Rattle.vital_cell.proofs.StandLemmas.{vector-long}
use Rattle.vital_table.specs.Matches.{first_row}
use Rattle.vital_table.specs.Results.{result_at}
use Rattle.vital_table.specs.Tables.{Table}
use Rattle.vital_typed_cells.specs.Bits.{number_of}
use Rattle.vital_typed_statements.specs.declared.statement.Value.TheVariants as value
use Rattle.vital_typed_statements.specs.StateTables.{results_of}
use Rattle.vital_typed_cells.specs.Expressions as T

abbrev seen_at : List Input → List Slot → Seen
seen_at inputs slots = record { inputs = inputs; slots = slots }

-- ---- assignments

level-long : (k : Scope) (t : Target) (e : LevelExpr) (l : Level) → is_sound_value (tests k) t (value.Level e) ≡ true → IsAsLong t (l ∷ [])
level-long k (target.Level name) e l is = tt
level-long k (target.Element name n) e l is = tt
level-long k (target.Vector name n) e l is = absurd (false≢true is)

level-stands : (k : Scope) (t : Target) (e : LevelExpr) (tree : LevelTree) (p : Place) (now : ℕ) (inputs : List Input) (slots : List Slot)
    → IsFormed k → AreOfKinds k.variables slots → is_sound_functional (has_state_table k) (tests k) (statement.Assignment t (value.Level e)) ≡ true
    → (p ≡ place_of k t) × IsLevel k tree e
    → named (names_of_variables k) (M.functional_step inputs slots (step.Level p tree)) ≡ E.functional_statement (present k now inputs) (named (names_of_variables k) slots) (statement.Assignment t (value.Level e))
level-stands k t e tree p now inputs slots formed are sound is =
    let s = seen_at inputs slots in
    let a = is_sound_target (tests k) t in
    let b = is_sound_value (tests k) t (value.Level e) in
    ap (λ q. named (names_of_variables k) (M.put q (N.level s tree ∷ []) slots)) is.0
    ∙ ap (λ l. named (names_of_variables k) (M.put (place_of k t) (l ∷ []) slots)) (is.1 s (fits-kinds k s formed.distinct are))
    ∙ target-put k t (T.level (names_of k s) e ∷ []) slots formed.distinct are (first-holds a b sound) (level-long k t e (T.level (names_of k s) e) (second-holds a b sound))

-- A vector of at most 256 elements is put whole.
whole-fitted : (n : ℕ) (ls : List Level) → length ls ≡ n → n ≤ 256 → fitted n (fitted 256 ls) ≡ ls
whole-fitted n ls long short =
    sym (fitted-filled n (fitted 256 ls) ls long (λ i below. sym (get_or-map-range_with_len (λ j. get_or ls j U) 0 256 i i U (omega arith) (omega arith))))

short-put : (k : VariableKind) (held : Slot) (n : ℕ) (ls : List Level) → length ls ≡ n → IsShort k → is_vector n k ≡ true → is_of_kind k held ≡ true → held_in (with_levels (fitted 256 ls) held) ≡ variables.given ls (held_in held)
short-put (kind.Vector m d) (slot.Vector old) n ls long short passes suits =
    let same : n ≡ m = eqb-true n m passes in
    let same' : m ≡ length old = eqb-true m (length old) suits in
    ap variables.Levels (whole-fitted (length old) ls (long ∙ same ∙ same') (omega arith))
short-put (kind.Vector m d) held n ls long short passes suits = absurd (false≢true suits)
short-put (kind.Level d) held n ls long short passes suits = absurd (false≢true passes)
short-put (kind.X01 d) held n ls long short passes suits = absurd (false≢true passes)
short-put kind.GlitchData held n ls long short passes suits = absurd (false≢true passes)
short-put kind.TimingData held n ls long short passes suits = absurd (false≢true passes)
short-put kind.PeriodData held n ls long short passes suits = absurd (false≢true passes)

vector-stands : (k : Scope) (t : Target) (e : VectorExpr) (tree : VectorTree) (p : Place) (now : ℕ) (inputs : List Input) (slots : List Slot)
    → IsFormed k → AreOfKinds k.variables slots → is_sound_functional (has_state_table k) (tests k) (statement.Assignment t (value.Vector e)) ≡ true
    → (p ≡ place_of k t) × IsVector k tree e
    → named (names_of_variables k) (M.functional_step inputs slots (step.Vector p tree)) ≡ E.functional_statement (present k now inputs) (named (names_of_variables k) slots) (statement.Assignment t (value.Vector e))
vector-stands k (target.Level name) e tree p now inputs slots formed are sound is = absurd (false≢true (second-holds (is_sound_target (tests k) (target.Level name)) false sound))
vector-stands k (target.Element name n) e tree p now inputs slots formed are sound is = absurd (false≢true (second-holds (is_sound_target (tests k) (target.Element name n)) false sound))
vector-stands k (target.Vector name n) e tree p now inputs slots formed are sound is =
    let s = seen_at inputs slots in
    let a = is_sound_target (tests k) (target.Vector name n) in
    let w = vector_worth (tests k) e in
    let worth = second-holds a (w.0 && (w.1 == n)) sound in
    let fits = fits-kinds k s formed.distinct are in
    let ls = T.vector (names_of k s) e in
    let long : length ls ≡ n = vector-long k s fits e (first-holds w.0 (w.1 == n) worth) ∙ sym (vector-length (tests k) e) ∙ eqb-true w.1 n (second-holds w.0 (w.1 == n) worth) in
    let f = found-variable (is_vector n) k.variables slots name formed.distinct are (first-holds a (w.0 && (w.1 == n)) sound) in
    ap (λ q. named (names_of_variables k) (M.put q (fitted 256 (N.vector s tree)) slots)) is.0
    ∙ ap (λ xs. named (names_of_variables k) (M.put (place_of k (target.Vector name n)) (fitted 256 xs) slots)) (is.1 s fits)
    ∙ ap (named (names_of_variables k)) (numbered-by k name f.number (with_levels (fitted 256 ls)) slots f.numbered)
    ∙ named-changed (names_of_variables k) slots name f.number f.held (with_levels (fitted 256 ls)) (variables.given ls) formed.distinct f.numbered f.there
    (short-put f.kind f.held n ls long (kind-of-all IsShort (is_vector n) k.variables slots name formed.short f) f.passes f.suits)

-- ---- state tables

levels-same : (k : Scope) (s : Seen) (name : List ℕ) (i : ℕ) → number_of (names_of_variables k) name ≡ Some i → levels_at s.slots (variable_of k name) ≡ variables.levels_of (named (names_of_variables k) s.slots) name
levels-same k s name i is = ap (λ o. levels_at s.slots (unwrap_or o 0)) is ∙ sym (variable-there k s name i is)

one-long : (k : VariableKind) (s : Slot) → is_scalar k ≡ true → is_of_kind k s ≡ true → length (levels_in s) ≡ 1
one-long (kind.Level d) (slot.Level l) passes suits = refl
one-long (kind.Level d) s passes suits = absurd (false≢true suits)
one-long (kind.X01 d) (slot.X01 l) passes suits = refl
one-long (kind.X01 d) s passes suits = absurd (false≢true suits)
one-long (kind.Vector n d) s passes suits = absurd (false≢true passes)
one-long kind.GlitchData s passes suits = absurd (false≢true passes)
one-long kind.TimingData s passes suits = absurd (false≢true passes)
one-long kind.PeriodData s passes suits = absurd (false≢true passes)

held-same : (k : Scope) (t : Target) (s : Seen) → IsFormed k → AreOfKinds k.variables s.slots → is_sound_target (tests k) t ≡ true → M.held_by (place_of k t) s.slots ≡ E.held_by t (named (names_of_variables k) s.slots)
held-same k (target.Level name) s formed are is =
    let f = found-variable is_scalar k.variables s.slots name formed.distinct are is in
    levels-same k s name f.number f.numbered
held-same k (target.Element name n) s formed are is =
    let f = found-variable (has_element n) k.variables s.slots name formed.distinct are is in
    ap (λ ls. slice_index_or ls n U ∷ []) (levels-same k s name f.number f.numbered)
held-same k (target.Vector name n) s formed are is =
    let f = found-variable (is_vector n) k.variables s.slots name formed.distinct are is in
    levels-same k s name f.number f.numbered

held-long : (k : Scope) (t : Target) (s : Seen) → IsFormed k → AreOfKinds k.variables s.slots → is_sound_target (tests k) t ≡ true → length (E.held_by t (named (names_of_variables k) s.slots)) ≡ results_of t
held-long k (target.Level name) s formed are is =
    let f = found-variable is_scalar k.variables s.slots name formed.distinct are is in
    ap length (variable-there k s name f.number f.numbered ∙ ap (λ o. option_map_or levels_in o []) f.there) ∙ one-long f.kind f.held f.passes f.suits
held-long k (target.Element name n) s formed are is = refl
held-long k (target.Vector name n) s formed are is = fits-kinds k s formed.distinct are name n is

abbrev results_with : Table → List Level → List Level → List Level → List Level
results_with t new old before = map (λ r. result_at t (first_row t old new (take t.states before)) r.0 r.1) (enumerate_from 0 before)

results-long : (t : Target) (x : Table) (new old before : List Level) → length before ≡ results_of t → IsAsLong t (results_with x new old before)
results-long (target.Level name) x new old before long = tt
results-long (target.Element name n) x new old before long = tt
results-long (target.Vector name n) x new old before long = length-map (enumerate_from 0 before) (λ r. result_at x (first_row x old new (take x.states before)) r.0 r.1) ∙ length-enumerate_from 0 before ∙ long

-- What a state table leaves, where the number of the variable of the inputs and the place of the results are known.
abbrev left : List Slot → Place → ℕ → Table → List Level → List Level → List Level → List Slot
left slots p i t new old before = M.changed i (with_levels new) (M.put p (results_with t new old before) slots)

abbrev left_fitted : List Slot → Table → List Level → Place → ℕ → List Slot
left_fitted slots t v p i = left slots p i t (fitted t.inputs v) (fitted t.inputs (levels_at slots i)) (fitted t.results (M.held_by p slots))

previous-put : (k : Scope) (call : StateTable) (ls results : List Level) (slots : List Slot) (n : ℕ) → IsFormed k → AreOfKinds k.variables slots → is_sound_target (tests k) call.result ≡ true → has_vector k call.previous_data_in n ≡ true → length ls ≡ n → IsAsLong call.result results
    → named (names_of_variables k) (M.changed (variable_of k call.previous_data_in) (with_levels ls) (M.put (place_of k call.result) results slots))
    ≡ variables.with_held call.previous_data_in (variables.given ls) (E.put call.result results (named (names_of_variables k) slots))
previous-put k call ls results slots n formed are target-is previous long as-long =
    let name = call.previous_data_in in
    let now = M.put (place_of k call.result) results slots in
    let are' = kinds-suit k.variables now slots (put-kept (place_of k call.result) results slots) are in
    let f = found-variable (is_vector n) k.variables now name formed.distinct are' previous in
    ap (named (names_of_variables k)) (numbered-by k name f.number (with_levels ls) now f.numbered)
    ∙ named-changed (names_of_variables k) now name f.number f.held (with_levels ls) (variables.given ls) formed.distinct f.numbered f.there (vector-put f.kind f.held n ls long f.passes f.suits)
    ∙ ap (variables.with_held name (variables.given ls)) (target-put k call.result results slots formed.distinct are target-is as-long)

table-stands : (k : Scope) (call : StateTable) (x : StateTableStep) (now : ℕ) (inputs : List Input) (slots : List Slot)
    → IsFormed k → AreOfKinds k.variables slots → is_sound_functional (has_state_table k) (tests k) (statement.StateTable call) ≡ true → IsTableStep k call x
    → named (names_of_variables k) (M.functional_step inputs slots (step.StateTable x)) ≡ E.functional_statement (present k now inputs) (named (names_of_variables k) slots) (statement.StateTable call)
table-stands k call x now inputs slots formed are sound is =
    let s = seen_at inputs slots in
    let n = length_of call.data_in in
    let m = results_of call.result in
    let w = vector_worth (tests k) call.data_in in
    let a = w.0 && (w.1 == n) in
    let b = is_sound_target (tests k) call.result in
    let c = nat_le call.num_states m in
    let d = has_state_table k call.table n call.num_states m in
    let e = has_vector k call.previous_data_in n in
    let target-is = first-holds b (c && (d && e)) (second-holds a (b && (c && (d && e))) sound) in
    let previous = second-holds d e (second-holds c (d && e) (second-holds b (c && (d && e)) (second-holds a (b && (c && (d && e))) sound))) in
    let worth = first-holds a (b && (c && (d && e))) sound in
    let fits = fits-kinds k s formed.distinct are in
    let ls = T.vector (names_of k s) call.data_in in
    let long : length ls ≡ n = vector-long k s fits call.data_in (first-holds w.0 (w.1 == n) worth) in
    let old = variables.levels_of (named (names_of_variables k) slots) call.previous_data_in in
    let old-long : length old ≡ n = fits call.previous_data_in n previous in
    let f = found-variable (is_vector n) k.variables slots call.previous_data_in formed.distinct are previous in
    let before = E.held_by call.result (named (names_of_variables k) slots) in
    let before-long : length before ≡ m = held-long k call.result s formed are target-is in
    let t = table_of k call in
    let p = place_of k call.result in
    let i = variable_of k call.previous_data_in in
    let t' : Table = record { inputs = length ls; states = call.num_states; results = length before; rows = rows_named k call.table } in
    let same : left_fitted slots t ls p i ≡ left slots p i t' ls old before =
    ap (λ v. left slots p i t v (fitted n (levels_at slots i)) (fitted m (M.held_by p slots))) (fitted-whole n ls long)
    ∙ ap (λ v. left slots p i t ls (fitted n v) (fitted m (M.held_by p slots))) (levels-same k s call.previous_data_in f.number f.numbered)
    ∙ ap (λ v. left slots p i t ls v (fitted m (M.held_by p slots))) (fitted-whole n old old-long)
    ∙ ap (λ v. left slots p i t ls old (fitted m v)) (held-same k call.result s formed are target-is)
    ∙ ap (λ v. left slots p i t ls old v) (fitted-whole m before before-long)
    ∙ ap (λ q. left slots p i (record { inputs = q; states = call.num_states; results = m; rows = rows_named k call.table }) ls old before) (sym long)
    ∙ ap (λ q. left slots p i (record { inputs = length ls; states = call.num_states; results = q; rows = rows_named k call.table }) ls old before) (sym before-long) in
    ap (named (names_of_variables k))
    (ap (λ y. left_fitted slots y (N.vector s x.data_in) x.result x.previous_data_in) is.table
    ∙ ap (λ v. left_fitted slots t v x.result x.previous_data_in) (is.data_in s fits)
    ∙ ap (λ q. left_fitted slots t ls q x.previous_data_in) is.result
    ∙ ap (λ j. left_fitted slots t ls p j) is.previous
    ∙ same)
    ∙ previous-put k call ls (results_with t' ls old before) slots n formed are target-is previous long (results-long call.result t' ls old before before-long)

-- ---- a statement

pub functional-stands : (k : Scope) (st : FunctionalStatement) (x : FunctionalStep) (now : ℕ) (inputs : List Input) (slots : List Slot)
    → IsFormed k → AreOfKinds k.variables slots → is_sound_functional (has_state_table k) (tests k) st ≡ true → IsFunctionalStep k st x
    → named (names_of_variables k) (M.functional_step inputs slots x) ≡ E.functional_statement (present k now inputs) (named (names_of_variables k) slots) st
functional-stands k (statement.Assignment t (value.Level e)) (step.Level p tree) now inputs slots formed are sound is = level-stands k t e tree p now inputs slots formed are sound is
functional-stands k (statement.Assignment t (value.Level e)) (step.Vector p tree) now inputs slots formed are sound is = absurd is
functional-stands k (statement.Assignment t (value.Level e)) (step.StateTable x) now inputs slots formed are sound is = absurd is
functional-stands k (statement.Assignment t (value.Vector e)) (step.Level p tree) now inputs slots formed are sound is = absurd is
functional-stands k (statement.Assignment t (value.Vector e)) (step.Vector p tree) now inputs slots formed are sound is = vector-stands k t e tree p now inputs slots formed are sound is
functional-stands k (statement.Assignment t (value.Vector e)) (step.StateTable x) now inputs slots formed are sound is = absurd is
functional-stands k (statement.StateTable call) (step.Level p tree) now inputs slots formed are sound is = absurd is
functional-stands k (statement.StateTable call) (step.Vector p tree) now inputs slots formed are sound is = absurd is
functional-stands k (statement.StateTable call) (step.StateTable x) now inputs slots formed are sound is = table-stands k call x now inputs slots formed are sound is

pub functional-kept : (inputs : List Input) (slots : List Slot) (x : FunctionalStep) → kinds_of (M.functional_step inputs slots x) ≡ kinds_of slots
functional-kept inputs slots (step.Level p tree) = put-kept p (N.level (seen_at inputs slots) tree ∷ []) slots
functional-kept inputs slots (step.Vector p tree) = put-kept p (fitted 256 (N.vector (seen_at inputs slots) tree)) slots
functional-kept inputs slots (step.StateTable x) =
    let s = seen_at inputs slots in
    let new = fitted x.table.inputs (N.vector s x.data_in) in
    let before = fitted x.table.results (M.held_by x.result slots) in
    let results = results_with x.table new (fitted x.table.inputs (levels_at slots x.previous_data_in)) before in
    kinds-changed (with_levels new) (levels-kept new) x.previous_data_in (M.put x.result results slots) ∙ put-kept x.result results slots

-- ---- all statements

pub functionality-stands : (k : Scope) (sts : List FunctionalStatement) (xs : List FunctionalStep) (now : ℕ) (inputs : List Input) (slots : List Slot)
    → IsFormed k → AreOfKinds k.variables slots → list_all (is_sound_functional (has_state_table k) (tests k)) sts ≡ true → AllZip (IsFunctionalStep k) sts xs
    → named (names_of_variables k) (fold (M.functional_step inputs) slots xs) ≡ fold (E.functional_statement (present k now inputs)) (named (names_of_variables k) slots) sts
functionality-stands k [] [] now inputs slots formed are sound is = refl
functionality-stands k [] (x ∷ xs) now inputs slots formed are sound is = absurd is
functionality-stands k (st ∷ sts) [] now inputs slots formed are sound is = absurd is
functionality-stands k (st ∷ sts) (x ∷ xs) now inputs slots formed are sound is =
    let a = is_sound_functional (has_state_table k) (tests k) st in
    let b = list_all (is_sound_functional (has_state_table k) (tests k)) sts in
    let next = M.functional_step inputs slots x in
    functionality-stands k sts xs now inputs next formed (kinds-suit k.variables next slots (functional-kept inputs slots x) are) (second-holds a b sound) is.1
    ∙ ap (λ ss. fold (E.functional_statement (present k now inputs)) ss sts) (functional-stands k st x now inputs slots formed are (first-holds a b sound) is.0)

pub functionality-kept : (inputs : List Input) (slots : List Slot) (xs : List FunctionalStep) → kinds_of (fold (M.functional_step inputs) slots xs) ≡ kinds_of slots
functionality-kept inputs slots [] = refl
functionality-kept inputs slots (x ∷ xs) = functionality-kept inputs (M.functional_step inputs slots x) xs ∙ functional-kept inputs slots x
