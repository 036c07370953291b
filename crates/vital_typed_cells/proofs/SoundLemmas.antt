-- What is asked of trees of one layer is asked of their parts.
use Rattle.std.proofs.Common.{◌≡◌, ℕ, Bool, true, false, List, length, map, ap, sym, ◌∙◌, subst}
use Rattle.std.proofs.lemmas.Bool.{false≢true}
use Rattle.std.proofs.lemmas.List.{length-map, length-replicate}
use Rattle.std.proofs.lemmas.List.Folds.{list_all-map}
use Rattle.std.proofs.lemmas.List.FromFn.{length-map-range_with_len}
use Rattle.std.proofs.lemmas.List.Sums.{AllPass-from_list_all}
use Rattle.std.specs.Prelude.{◌&&◌, ◌==◌, Option}
use Rattle.std.specs.List.{AllPass, list_all}
use Rattle.vital_calls.specs.Formals.{input_count}
use Rattle.vital_names.specs.declared.predeclared.Conversion.{Conversion}
use Rattle.vital_names.specs.declared.predeclared.Primitive.{Primitive}
use Rattle.vital_nodes.specs.declared.expr.Logical.{Logical}
use Rattle.vital_objects.specs.declared.package_value.PackageValue.{PackageValue}
use Rattle.vital_operands.specs.declared.tree.LevelExpr.{LevelExpr}
use Rattle.vital_operands.specs.declared.tree.LevelExpr.TheFolds.{fold-roll-LevelExpr, fold-roll-VectorExpr, fold_out-TruthTableCall, map-LevelExpr, map-VectorExpr}
use Rattle.vital_operands.specs.declared.tree.LevelExpr.TheOpen.{LevelExpr-F, VectorExpr-F}
use Rattle.vital_operands.specs.declared.tree.LevelExpr.TheVariants as level'
use Rattle.vital_operands.specs.declared.tree.LevelExpr.TheViews.{out-VectorExpr, roll-LevelExpr, roll-VectorExpr, roll-out-VectorExpr}
use Rattle.vital_operands.specs.declared.tree.TruthTableCall.{TruthTableCall, out-TruthTableCall}
use Rattle.vital_operands.specs.declared.tree.VectorExpr.{VectorExpr}
use Rattle.vital_operands.specs.declared.tree.VectorExpr.TheVariants as vector'
use Rattle.vital_typed_cells.specs.SoundDeclarations.{names_in_packages}
use Rattle.vital_typed_cells.specs.Trees.{call_step, level_step, vector_step, vector_worth}
use Rattle.vital_typed_cells.specs.Expressions.{level, vector}
use Rattle.vital_typed_cells.specs.PackageWorths.{in_packages, packages_worth}
use Rattle.vital_typed_cells.specs.SoundTrees.{is_sound_call, is_sound_tree, is_sound_vector}
use Rattle.vital_typed_cells.proofs.TreeLemmas.{results-of, vector-levels, vector-literal, vector-others, vector-results}

abbrev Values : Type 0
Values = List (Option PackageValue)

level-roll : (vs : Values) (l : LevelExpr-F LevelExpr VectorExpr TruthTableCall) → is_sound_tree vs (roll-LevelExpr l) ≡ level_step (names_in_packages vs) (map-LevelExpr LevelExpr VectorExpr TruthTableCall Bool (Bool × ℕ) (ℕ → Bool) (is_sound_tree vs) (vector_worth (names_in_packages vs)) (is_sound_call vs) l)
unfolding is_sound_tree is_sound_call
level-roll vs l = let s = names_in_packages vs in fold-roll-LevelExpr Bool (Bool × ℕ) (ℕ → Bool) (level_step s) (vector_step s) (call_step s) l

vector-roll : (vs : Values) (l : VectorExpr-F LevelExpr VectorExpr TruthTableCall) → vector_worth (names_in_packages vs) (roll-VectorExpr l) ≡ vector_step (names_in_packages vs) (map-VectorExpr LevelExpr VectorExpr TruthTableCall Bool (Bool × ℕ) (ℕ → Bool) (is_sound_tree vs) (vector_worth (names_in_packages vs)) (is_sound_call vs) l)
unfolding is_sound_tree is_sound_call
vector-roll vs l = let s = names_in_packages vs in fold-roll-VectorExpr Bool (Bool × ℕ) (ℕ → Bool) (level_step s) (vector_step s) (call_step s) l

all-of : (vs : Values) (ts : List LevelExpr) → list_all (λ t. t) (map (is_sound_tree vs) ts) ≡ true → AllPass (is_sound_tree vs) ts
all-of vs ts holds = AllPass-from_list_all (is_sound_tree vs) ts (sym (list_all-map (λ t. t) (is_sound_tree vs) ts) ∙ holds)

second : (a b : Bool) → (a && b) ≡ true → b ≡ true
second true b is = is
second false b is = absurd (false≢true is)

-- ---- levels

pub sound-not : (vs : Values) (t : LevelExpr) → is_sound_tree vs (level'.Not t) ≡ is_sound_tree vs t
sound-not vs t = ap (is_sound_tree vs) (sym (level'.rolls-Not t)) ∙ level-roll vs (LevelExpr-F.Not t)

pub sound-logical : (vs : Values) (o : Logical) (ts : List LevelExpr) → is_sound_tree vs (level'.Logical o ts) ≡ true → AllPass (is_sound_tree vs) ts
sound-logical vs o ts holds = all-of vs ts (sym (level-roll vs (LevelExpr-F.Logical o ts)) ∙ ap (is_sound_tree vs) (level'.rolls-Logical o ts) ∙ holds)

pub sound-primitive : (vs : Values) (p : Primitive) (ts : List LevelExpr) → is_sound_tree vs (level'.Primitive p ts) ≡ true → AllPass (is_sound_tree vs) ts
sound-primitive vs p ts holds =
    let all = list_all (λ t. t) (map (is_sound_tree vs) ts) in
    all-of vs ts (second (length (map (is_sound_tree vs) ts) == input_count p) all (sym (level-roll vs (LevelExpr-F.Primitive p ts)) ∙ ap (is_sound_tree vs) (level'.rolls-Primitive p ts) ∙ holds))

pub sound-conversion : (vs : Values) (c : Conversion) (t : LevelExpr) → is_sound_tree vs (level'.Conversion c t) ≡ is_sound_tree vs t
sound-conversion vs c t = ap (is_sound_tree vs) (sym (level'.rolls-Conversion c t)) ∙ level-roll vs (LevelExpr-F.Conversion c t)

pub sound-result : (vs : Values) (call : TruthTableCall) → is_sound_tree vs (level'.TruthTable call) ≡ is_sound_call vs call 1
sound-result vs call = ap (is_sound_tree vs) (sym (level'.rolls-TruthTable call)) ∙ level-roll vs (LevelExpr-F.LevelExpr::TruthTable call)

-- ---- vectors

vector-is : (vs : Values) (l : VectorExpr-F LevelExpr VectorExpr TruthTableCall) → is_sound_vector vs (roll-VectorExpr l) ≡ (vector_step (names_in_packages vs) (map-VectorExpr LevelExpr VectorExpr TruthTableCall Bool (Bool × ℕ) (ℕ → Bool) (is_sound_tree vs) (vector_worth (names_in_packages vs)) (is_sound_call vs) l)).0
unfolding is_sound_vector
vector-is vs l = ap (λ w. w.0) (vector-roll vs l)

pub sound-levels : (vs : Values) (ts : List LevelExpr) → is_sound_vector vs (vector'.Levels ts) ≡ true → AllPass (is_sound_tree vs) ts
sound-levels vs ts holds = all-of vs ts (sym (vector-is vs (VectorExpr-F.Levels ts)) ∙ ap (is_sound_vector vs) (vector'.rolls-Levels ts) ∙ holds)

pub sound-others : (vs : Values) (t : LevelExpr) (n : ℕ) → is_sound_vector vs (vector'.Others t n) ≡ is_sound_tree vs t
sound-others vs t n = ap (is_sound_vector vs) (sym (vector'.rolls-Others t n)) ∙ vector-is vs (VectorExpr-F.Others t n)

pub sound-results : (vs : Values) (call : TruthTableCall) (n : ℕ) → is_sound_vector vs (vector'.TruthTable call n) ≡ is_sound_call vs call n
sound-results vs call n = ap (is_sound_vector vs) (sym (vector'.rolls-TruthTable call n)) ∙ vector-is vs (VectorExpr-F.VectorExpr::TruthTable call n)

-- ---- calls

pub sound-call : (vs : Values) (call : TruthTableCall) (n : ℕ) → is_sound_call vs call n ≡ (is_sound_vector vs (out-TruthTableCall call).inputs && (names_in_packages vs).has_table (out-TruthTableCall call).table (vector_worth (names_in_packages vs) (out-TruthTableCall call).inputs).1 n)
unfolding is_sound_call is_sound_vector
sound-call vs call n = let s = names_in_packages vs in ap (λ f. f n) (fold_out-TruthTableCall Bool (Bool × ℕ) (ℕ → Bool) (level_step s) (vector_step s) (call_step s) call)

-- ---- lengths

results-length : (vs : Values) (call : TruthTableCall) (n : ℕ) → length (vector (in_packages (packages_worth vs)) (vector'.TruthTable call n)) ≡ n
results-length vs call n =
    let e = in_packages (packages_worth vs) in
    ap length (vector-results e call n ∙ results-of e call n) ∙ length-map-range_with_len _ 0 n

layer-length : (vs : Values) (l : VectorExpr-F LevelExpr VectorExpr TruthTableCall) → is_sound_vector vs (roll-VectorExpr l) ≡ true → length (vector (in_packages (packages_worth vs)) (roll-VectorExpr l)) ≡ (vector_worth (names_in_packages vs) (roll-VectorExpr l)).1
layer-length vs (VectorExpr-F.VectorExpr::Variable name n) holds = let no : false ≡ true = sym (vector-is vs (VectorExpr-F.VectorExpr::Variable name n)) ∙ holds in absurd (false≢true no)
layer-length vs (VectorExpr-F.Levels ts) holds =
    let e = in_packages (packages_worth vs) in
    ap length (ap (vector e) (vector'.rolls-Levels ts) ∙ vector-levels e ts) ∙ length-map ts (level e)
    ∙ sym (length-map ts (is_sound_tree vs)) ∙ sym (ap (λ w. w.1) (vector-roll vs (VectorExpr-F.Levels ts)))
layer-length vs (VectorExpr-F.Others t n) holds =
    let e = in_packages (packages_worth vs) in
    ap length (ap (vector e) (vector'.rolls-Others t n) ∙ vector-others e t n) ∙ length-replicate n (level e t)
    ∙ sym (ap (λ w. w.1) (vector-roll vs (VectorExpr-F.Others t n)))
layer-length vs (VectorExpr-F.VectorExpr::Literal ls) holds =
    let e = in_packages (packages_worth vs) in
    ap length (ap (vector e) (vector'.rolls-Literal ls) ∙ vector-literal e ls)
    ∙ sym (ap (λ w. w.1) (vector-roll vs (VectorExpr-F.VectorExpr::Literal ls)))
layer-length vs (VectorExpr-F.VectorExpr::TruthTable call n) holds =
    ap (λ v. length (vector (in_packages (packages_worth vs)) v)) (vector'.rolls-TruthTable call n) ∙ results-length vs call n
    ∙ sym (ap (λ w. w.1) (vector-roll vs (VectorExpr-F.VectorExpr::TruthTable call n)))

pub vector-length : (vs : Values) (v : VectorExpr) → is_sound_vector vs v ≡ true → length (vector (in_packages (packages_worth vs)) v) ≡ (vector_worth (names_in_packages vs) v).1
vector-length vs v holds =
    subst (λ u. is_sound_vector vs u ≡ true → length (vector (in_packages (packages_worth vs)) u) ≡ (vector_worth (names_in_packages vs) u).1) (roll-out-VectorExpr v) (layer-length vs (out-VectorExpr v)) holds

pub ruleset sounds = (sound-not, sound-logical, sound-primitive, sound-conversion, sound-result, sound-levels, sound-others, sound-results)
