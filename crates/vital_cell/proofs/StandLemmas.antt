-- Numbered trees of one layer stand for typed ones where their parts do.
use Rattle.std.proofs.Common.{◌≡◌, ℕ, ◌≤◌, Bool, true, List, [], length, map, take, replicate, ap, sym, ◌∙◌, arith}
use Rattle.std.proofs.lemmas.List.{length-map, length-replicate, take_all}
use Rattle.std.proofs.lemmas.List.FromFn.{length-map-range_with_len}
use Rattle.std.specs.Prelude.{None, Some, false, not, unwrap_or}
use Rattle.std.specs.List.{reduce, slice_index_or}
use Rattle.vital_calls.specs.Formals.{input_count, number_of as count_of}
use Rattle.vital_cell.specs.Environments.{constant_of}
use Rattle.vital_expr.specs.Vectors.{length_in, length_of}
use Rattle.vital_logic.specs.declared.level.Level.{Level}
use Rattle.vital_logic.specs.declared.level.Level.TheVariants.{U}
use Rattle.vital_machine.specs.declared.trees.LevelTree.{LevelTree}
use Rattle.vital_machine.specs.declared.trees.LevelTree.TheVariants as numbered
use Rattle.vital_machine.specs.declared.trees.TableTree.{TableTree, out-TableTree}
use Rattle.vital_machine.specs.declared.trees.TruthTree.{TruthTree}
use Rattle.vital_machine.specs.declared.trees.TruthTree.TheVariants as truths
use Rattle.vital_machine.specs.declared.trees.VectorTree.TheVariants as vectors
use Rattle.vital_machine.specs.Seen.{Seen}
use Rattle.vital_machine.specs.Trees as N
use Rattle.vital_machine.specs.TruthTables.{fitted, results_for}
use Rattle.vital_machine.proofs.FitLemmas.{fitted-whole}
use Rattle.vital_machine.proofs.TreeLemmas as n
use Rattle.vital_names.specs.declared.predeclared.Conversion.{Conversion}
use Rattle.vital_names.specs.declared.predeclared.Inputs.{Inputs}
use Rattle.vital_names.specs.declared.predeclared.Inputs.TheVariants as inputs
use Rattle.vital_names.specs.declared.predeclared.Primitive.{Primitive}
use Rattle.vital_names.specs.declared.predeclared.Primitive.TheVariants as primitives
use Rattle.vital_nodes.specs.declared.expr.Logical.{Logical}
use Rattle.vital_operands.specs.declared.tree.BooleanExpr.{BooleanExpr}
use Rattle.vital_operands.specs.declared.tree.BooleanExpr.TheVariants as boolean
use Rattle.vital_operands.specs.declared.tree.ConstantName.{ConstantName}
use Rattle.vital_operands.specs.declared.tree.Control.{Control}
use Rattle.vital_operands.specs.declared.tree.LevelExpr.{LevelExpr}
use Rattle.vital_operands.specs.declared.tree.LevelExpr.TheOpen.{VectorExpr-F}
use Rattle.vital_operands.specs.declared.tree.LevelExpr.TheVariants as level
use Rattle.vital_operands.specs.declared.tree.LevelExpr.TheViews.{out-VectorExpr, roll-VectorExpr, roll-out-VectorExpr}
use Rattle.vital_operands.specs.declared.tree.TruthTableCall.{TruthTableCall, out-TruthTableCall}
use Rattle.vital_operands.specs.declared.tree.VectorExpr.{VectorExpr}
use Rattle.vital_operands.specs.declared.tree.VectorExpr.TheVariants as vector
use Rattle.vital_primitives.specs.Operators.{converted, first, negated, operated, same_level, same_truth, truth2}
use Rattle.vital_primitives.specs.Primitives.{primitive}
use Rattle.vital_typed_cells.specs.Trees.{vector_worth}
use Rattle.vital_cell.specs.Scopes.{Scope, names_of, names_of_variables}
use Rattle.vital_cell.specs.Sound.{rows_named, tests}
use Rattle.vital_cell.specs.StandsFor.{AreLevels, AreTruths, Fits, IsCall, IsLevel, IsOther, IsSame, IsTruth, IsVector}
use Rattle.vital_cell.proofs.NameLemmas.{signal-absent, signal-there, variable-absent, variable-there}
use Rattle.vital_cell.proofs.SoundLemmas.{sound-whole}
use Rattle.vital_cell.proofs.TypedTruths as b
use Rattle.vital_table.specs.Tables.{Table}
use Rattle.vital_typed_cells.specs.Bits.{number_of}
use Rattle.vital_typed_cells.specs.Expressions as T
use Rattle.vital_typed_cells.proofs.TreeLemmas as t

-- ---- levels without parts

pub stands-literal : (k : Scope) (l : Level) → IsLevel k (numbered.Literal l) (level.Literal l)
stands-literal k l = λ s fits. n.level-literal s l ∙ sym (t.level-literal (names_of k s) l)

pub stands-bit : (k : Scope) (name : List ℕ) (i : ℕ) → number_of k.bits name ≡ Some i → IsLevel k (numbered.Bit i) (level.Signal name)
stands-bit k name i is = λ s fits. n.level-bit s i ∙ sym (signal-there k s name i is) ∙ sym (t.level-signal (names_of k s) name)

pub stands-no_bit : (k : Scope) (name : List ℕ) → number_of k.bits name ≡ None → IsLevel k (numbered.Literal U) (level.Signal name)
stands-no_bit k name is = λ s fits. n.level-literal s U ∙ sym (signal-absent k s name is) ∙ sym (t.level-signal (names_of k s) name)

pub stands-element : (k : Scope) (name : List ℕ) (i offset : ℕ) → number_of (names_of_variables k) name ≡ Some i → IsLevel k (numbered.Element i offset) (level.Element name offset)
stands-element k name i offset is = λ s fits.
    n.level-element s i offset ∙ ap (λ ls. slice_index_or ls offset U) (sym (variable-there k s name i is)) ∙ sym (t.level-element (names_of k s) name offset)

pub stands-no_element : (k : Scope) (name : List ℕ) (offset : ℕ) → number_of (names_of_variables k) name ≡ None → IsLevel k (numbered.Literal U) (level.Element name offset)
stands-no_element k name offset is = λ s fits.
    n.level-literal s U ∙ ap (λ ls. slice_index_or ls offset U) (sym (variable-absent k s name is)) ∙ sym (t.level-element (names_of k s) name offset)

pub stands-variable : (k : Scope) (tree : LevelTree) (name : List ℕ) → IsLevel k tree (level.Element name 0) → IsLevel k tree (level.Variable name)
stands-variable k tree name is = λ s fits. is s fits ∙ t.level-element (names_of k s) name 0 ∙ sym (t.level-variable (names_of k s) name)

pub stands-constant : (k : Scope) (l : Level) (name : ConstantName) → l ≡ T.level_of (constant_of k.constants k.packages name) → IsLevel k (numbered.Literal l) (level.Constant name)
stands-constant k l name is = λ s fits. n.level-literal s l ∙ is ∙ sym (t.level-constant (names_of k s) name)

-- ---- levels with parts

pub stands-not : (k : Scope) (tree : LevelTree) (e : LevelExpr) → IsLevel k tree e → IsLevel k (numbered.Not tree) (level.Not e)
stands-not k tree e is = λ s fits. n.level-not s tree ∙ ap negated (is s fits) ∙ sym (t.level-not (names_of k s) e)

pub stands-logical : (k : Scope) (o : Logical) (trees : List LevelTree) (es : List LevelExpr) → AreLevels k trees es → IsLevel k (numbered.Logical o trees) (level.Logical o es)
stands-logical k o trees es are = λ s fits. n.level-logical s o trees ∙ ap (operated o) (are s fits) ∙ sym (t.level-logical (names_of k s) o es)

few-inputs : (is : Inputs) → count_of is ≤ 4
few-inputs inputs.Two = omega arith
few-inputs inputs.Three = omega arith
few-inputs inputs.Four = omega arith

few : (p : Primitive) → input_count p ≤ 4
few (primitives.Gate o is) = few-inputs is
few primitives.Buf = omega arith
few primitives.Inv = omega arith
few primitives.Ident = omega arith
few primitives.Bufif0 = omega arith
few primitives.Bufif1 = omega arith
few primitives.Invif0 = omega arith
few primitives.Invif1 = omega arith
few primitives.Mux2 = omega arith

pub stands-primitive : (k : Scope) (p : Primitive) (trees : List LevelTree) (es : List LevelExpr) → length es ≡ input_count p → AreLevels k trees es → IsLevel k (numbered.Primitive p trees) (level.Primitive p es)
stands-primitive k p trees es count are = λ s fits.
    let ls = map (T.level (names_of k s)) es in
    let short : length ls ≤ 4 = omega (arith, length-map es (T.level (names_of k s)), few p) in
    n.level-primitive s p trees ∙ ap (λ xs. primitive p (take 4 xs)) (are s fits) ∙ ap (primitive p) (take_all 4 ls short) ∙ sym (t.level-primitive (names_of k s) p es)

pub stands-conversion : (k : Scope) (c : Conversion) (tree : LevelTree) (e : LevelExpr) → IsLevel k tree e → IsLevel k (numbered.Conversion c tree) (level.Conversion c e)
stands-conversion k c tree e is = λ s fits. n.level-conversion s c tree ∙ ap (converted c) (is s fits) ∙ sym (t.level-conversion (names_of k s) c e)

pub stands-result : (k : Scope) (tree : TableTree) (e : TruthTableCall) → IsCall k 1 tree e → IsLevel k (numbered.FirstResult tree) (level.TruthTable e)
stands-result k tree e is = λ s fits. n.level-result s tree ∙ ap first (is s fits) ∙ sym (t.level-results (names_of k s) e)

-- ---- vectors

pub stands-whole : (k : Scope) (name : List ℕ) (i : ℕ) → number_of (names_of_variables k) name ≡ Some i → (m : ℕ) → IsVector k (vectors.Variable i) (vector.Variable name m)
stands-whole k name i is m = λ s fits. n.vector-variable s i ∙ sym (variable-there k s name i is) ∙ sym (t.vector-variable (names_of k s) name m)

pub stands-no_vector : (k : Scope) (name : List ℕ) → number_of (names_of_variables k) name ≡ None → (m : ℕ) → IsVector k (vectors.Literal []) (vector.Variable name m)
stands-no_vector k name is m = λ s fits. n.vector-literal s [] ∙ sym (variable-absent k s name is) ∙ sym (t.vector-variable (names_of k s) name m)

pub stands-levels : (k : Scope) (trees : List LevelTree) (es : List LevelExpr) → AreLevels k trees es → IsVector k (vectors.Levels trees) (vector.Levels es)
stands-levels k trees es are = λ s fits. n.vector-levels s trees ∙ are s fits ∙ sym (t.vector-levels (names_of k s) es)

pub stands-others : (k : Scope) (tree : LevelTree) (e : LevelExpr) (m : ℕ) → IsLevel k tree e → IsVector k (vectors.Others tree m) (vector.Others e m)
stands-others k tree e m is = λ s fits. n.vector-others s tree m ∙ ap (replicate m) (is s fits) ∙ sym (t.vector-others (names_of k s) e m)

pub stands-listed : (k : Scope) (ls : List Level) → IsVector k (vectors.Literal ls) (vector.Literal ls)
stands-listed k ls = λ s fits. n.vector-literal s ls ∙ sym (t.vector-literal (names_of k s) ls)

pub stands-results : (k : Scope) (tree : TableTree) (e : TruthTableCall) (m : ℕ) → IsCall k m tree e → IsVector k (vectors.Results tree) (vector.TruthTable e m)
stands-results k tree e m is = λ s fits. n.vector-results s tree ∙ is s fits ∙ sym (t.vector-results (names_of k s) e m)

-- ---- calls

-- A sound vector is as long as its layer says.
layer-long : (k : Scope) (s : Seen) → Fits k s → (l : VectorExpr-F LevelExpr VectorExpr TruthTableCall) → (vector_worth (tests k) (roll-VectorExpr l)).0 ≡ true → length (T.vector (names_of k s) (roll-VectorExpr l)) ≡ length_in l
layer-long k s fits (VectorExpr-F.VectorExpr::Variable name m) holds =
    ap length (ap (T.vector (names_of k s)) (vector.rolls-Variable name m) ∙ t.vector-variable (names_of k s) name m)
    ∙ fits name m (sym (sound-whole (tests k) name m) ∙ ap (λ v. (vector_worth (tests k) v).0) (sym (vector.rolls-Variable name m)) ∙ holds)
layer-long k s fits (VectorExpr-F.Levels es) holds =
    ap length (ap (T.vector (names_of k s)) (vector.rolls-Levels es) ∙ t.vector-levels (names_of k s) es) ∙ length-map es (T.level (names_of k s))
layer-long k s fits (VectorExpr-F.Others e m) holds =
    ap length (ap (T.vector (names_of k s)) (vector.rolls-Others e m) ∙ t.vector-others (names_of k s) e m) ∙ length-replicate m (T.level (names_of k s) e)
layer-long k s fits (VectorExpr-F.VectorExpr::Literal ls) holds =
    ap length (ap (T.vector (names_of k s)) (vector.rolls-Literal ls) ∙ t.vector-literal (names_of k s) ls)
layer-long k s fits (VectorExpr-F.VectorExpr::TruthTable call m) holds =
    ap length (ap (T.vector (names_of k s)) (vector.rolls-TruthTable call m) ∙ t.vector-results (names_of k s) call m ∙ t.results-of (names_of k s) call m)
    ∙ length-map-range_with_len _ 0 m

pub vector-long : (k : Scope) (s : Seen) → Fits k s → (v : VectorExpr) → (vector_worth (tests k) v).0 ≡ true → length (T.vector (names_of k s) v) ≡ length_of v
vector-long k s fits v holds =
    ap (λ u. length (T.vector (names_of k s) u)) (sym (roll-out-VectorExpr v))
    ∙ layer-long k s fits (out-VectorExpr v) (ap (λ u. (vector_worth (tests k) u).0) (roll-out-VectorExpr v) ∙ holds)

-- What a table gives is what a call of so many inputs and results gives.
same-results : (rows : List (List ℕ)) (ls : List Level) (inputs results : ℕ) → length ls ≡ inputs → results_for (record { inputs = inputs; states = 0; results = results; rows = rows }) (fitted inputs ls) ≡ T.truth_results rows ls results
same-results rows ls inputs results long =
    ap (results_for (record { inputs = inputs; states = 0; results = results; rows = rows })) (fitted-whole inputs ls long)
    ∙ ap (λ m. results_for (record { inputs = m; states = 0; results = results; rows = rows }) ls) (sym long)

pub stands-call :
    (k : Scope) (tree : TableTree) (e : TruthTableCall) (m : ℕ)
    → (out-TableTree tree).table ≡ record { inputs = length_of (out-TruthTableCall e).inputs; states = 0; results = m; rows = rows_named k (out-TruthTableCall e).table }
    → (vector_worth (tests k) (out-TruthTableCall e).inputs).0 ≡ true
    → IsVector k (out-TableTree tree).inputs (out-TruthTableCall e).inputs
    → IsCall k m tree e
stands-call k tree e m table sound is = λ s fits.
    let v = (out-TruthTableCall e).inputs in
    let rows = rows_named k (out-TruthTableCall e).table in
    n.results-of s tree
    ∙ ap (λ (x : Table). results_for x (fitted x.inputs (N.vector s (out-TableTree tree).inputs))) table
    ∙ ap (λ ls. results_for (record { inputs = length_of v; states = 0; results = m; rows = rows }) (fitted (length_of v) ls)) (is s fits)
    ∙ same-results rows (T.vector (names_of k s) v) (length_of v) m (vector-long k s fits v sound)
    ∙ sym (t.results-of (names_of k s) e m)

-- ---- truth values

pub stands-truth : (k : Scope) (x : Bool) → IsTruth k (truths.Literal x) (boolean.Literal x)
stands-truth k x = λ s fits. n.truth-literal s x ∙ sym (b.typed-literal (names_of k s) x)

pub stands-control : (k : Scope) (x : Bool) (c : Control) → x ≡ k.controls c → IsTruth k (truths.Literal x) (boolean.Control c)
stands-control k x c is = λ s fits. n.truth-literal s x ∙ is ∙ sym (b.typed-control (names_of k s) c)

pub stands-same_levels : (k : Scope) (tree : TruthTree) (l r : LevelExpr) → IsSame k tree l r → IsTruth k tree (boolean.SameLevels l r)
stands-same_levels k tree l r is = λ s fits. is s fits ∙ sym (b.typed-same_levels (names_of k s) l r)

pub stands-other_levels : (k : Scope) (tree : TruthTree) (l r : LevelExpr) → IsOther k tree l r → IsTruth k tree (boolean.OtherLevels l r)
stands-other_levels k tree l r is = λ s fits. is s fits ∙ sym (b.typed-other_levels (names_of k s) l r)

pub levels-same : (k : Scope) (x y : LevelTree) (l r : LevelExpr) → IsLevel k x l → IsLevel k y r → IsSame k (truths.SameLevels x y) l r
levels-same k x y l r is also = λ s fits.
    n.truth-same_levels s x y ∙ ap (λ a. same_level a (N.level s y)) (is s fits) ∙ ap (same_level (T.level (names_of k s) l)) (also s fits)

pub levels-other : (k : Scope) (x y : LevelTree) (l r : LevelExpr) → IsLevel k x l → IsLevel k y r → IsOther k (truths.OtherLevels x y) l r
levels-other k x y l r is also = λ s fits.
    n.truth-other_levels s x y ∙ ap (λ a. not (same_level a (N.level s y))) (is s fits) ∙ ap (λ a. not (same_level (T.level (names_of k s) l) a)) (also s fits)

pub stands-same : (k : Scope) (x y : TruthTree) (l r : BooleanExpr) → IsTruth k x l → IsTruth k y r → IsTruth k (truths.Same x y) (boolean.Same l r)
stands-same k x y l r is also = λ s fits.
    n.truth-same s x y ∙ ap (λ a. same_truth a (N.truth s y)) (is s fits) ∙ ap (same_truth (T.truth (names_of k s) l)) (also s fits) ∙ sym (b.typed-same (names_of k s) l r)

pub stands-other : (k : Scope) (x y : TruthTree) (l r : BooleanExpr) → IsTruth k x l → IsTruth k y r → IsTruth k (truths.Other x y) (boolean.Other l r)
stands-other k x y l r is also = λ s fits.
    n.truth-other s x y ∙ ap (λ a. not (same_truth a (N.truth s y))) (is s fits) ∙ ap (λ a. not (same_truth (T.truth (names_of k s) l) a)) (also s fits) ∙ sym (b.typed-other (names_of k s) l r)

pub stands-denied : (k : Scope) (x : TruthTree) (e : BooleanExpr) → IsTruth k x e → IsTruth k (truths.Not x) (boolean.Not e)
stands-denied k x e is = λ s fits. n.truth-not s x ∙ ap not (is s fits) ∙ sym (b.typed-not (names_of k s) e)

pub stands-joined : (k : Scope) (o : Logical) (xs : List TruthTree) (es : List BooleanExpr) → AreTruths k xs es → IsTruth k (truths.Logical o xs) (boolean.Logical o es)
stands-joined k o xs es are = λ s fits.
    n.truth-logical s o xs ∙ ap (λ bs. unwrap_or (reduce (truth2 o) bs) false) (are s fits) ∙ sym (b.typed-logical (names_of k s) o es)
