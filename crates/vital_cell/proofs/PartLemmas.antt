-- Parts of sound trees that are read of them, and numbered trees for them.
use Rattle.std.proofs.Common.{◌≡◌, ℕ, ◌+◌, ◌<◌, true, List, [], ◌∷◌, ◌++◌, length, map, take, get_or, sym, ◌∙◌, ap}
use Rattle.std.specs.Prelude.{Bool, ◌&&◌, ◌==◌}
use Rattle.std.specs.List.{list_all}
use Rattle.std.proofs.lemmas.Bool.{eqb-true}
use Rattle.std.proofs.lemmas.List.{map-append, take_more}
use Rattle.vital_calls.specs.Formals.{input_count}
use Rattle.vital_expr.specs.Vectors.{length_of}
use Rattle.vital_logic.specs.declared.level.Level.{Level}
use Rattle.vital_machine.specs.declared.trees.LevelTree.{LevelTree}
use Rattle.vital_machine.specs.declared.trees.LevelTree.TheVariants as numbered
use Rattle.vital_machine.specs.declared.trees.TableTree.{TableTree, out-TableTree}
use Rattle.vital_machine.specs.declared.trees.TruthTree.{TruthTree}
use Rattle.vital_machine.specs.declared.trees.TruthTree.TheVariants as truths
use Rattle.vital_machine.specs.declared.trees.VectorTree.{VectorTree}
use Rattle.vital_machine.specs.declared.trees.VectorTree.TheVariants as vectors
use Rattle.vital_machine.specs.Trees as N
use Rattle.vital_names.specs.declared.predeclared.Conversion.{Conversion}
use Rattle.vital_names.specs.declared.predeclared.Primitive.{Primitive}
use Rattle.vital_nodes.specs.declared.expr.Logical.{Logical}
use Rattle.vital_operands.specs.declared.tree.BooleanExpr.{BooleanExpr}
use Rattle.vital_operands.specs.declared.tree.BooleanExpr.TheVariants as truth'
use Rattle.vital_operands.specs.declared.tree.Control.{Control}
use Rattle.vital_operands.specs.declared.tree.LevelExpr.{LevelExpr}
use Rattle.vital_operands.specs.declared.tree.LevelExpr.TheVariants as level'
use Rattle.vital_operands.specs.declared.tree.TruthTableCall.{TruthTableCall, out-TruthTableCall}
use Rattle.vital_operands.specs.declared.tree.VectorExpr.{VectorExpr}
use Rattle.vital_operands.specs.declared.tree.VectorExpr.TheVariants as vector'
use Rattle.vital_typed_cells.specs.ExprScopes.{Scope as Tests}
use Rattle.vital_typed_cells.specs.Trees.{is_sound_boolean, is_sound_level, vector_worth}
use Rattle.vital_cell.specs.Scopes.{Scope, names_of}
use Rattle.vital_cell.specs.Sound.{rows_named, tests}
use Rattle.vital_cell.specs.StandsFor.{AreLevels, AreTruths, IsCall, IsLevel, IsOther, IsSame, IsTruth, IsVector}
use Rattle.vital_cell.proofs.SoundLemmas as sound
use Rattle.vital_cell.proofs.SoundLemmas.{first-holds, is_sound_call, second-holds}
use Rattle.vital_cell.proofs.StandLemmas as stand
use Rattle.vital_table.specs.Tables.{Table}
use Rattle.vital_typed_cells.specs.Expressions as T

-- ---- sound parts of levels

part : (s : Tests) (t u : LevelExpr) → u ≡ t → is_sound_level s t ≡ true → is_sound_level s u ≡ true
part s t u same holds = ap (is_sound_level s) same ∙ holds

parts : (s : Tests) (ts us : List LevelExpr) → us ≡ ts → list_all (is_sound_level s) ts ≡ true → list_all (is_sound_level s) us ≡ true
parts s ts us same holds = ap (list_all (is_sound_level s)) same ∙ holds

pub not-part : (s : Tests) (tree t u : LevelExpr) → tree ≡ level'.Not t → u ≡ t → is_sound_level s tree ≡ true → is_sound_level s u ≡ true
not-part s tree t u is same holds = part s t u same (sym (sound.sound-not s t) ∙ sym (ap (is_sound_level s) is) ∙ holds)

pub conversion-part : (s : Tests) (tree : LevelExpr) (c : Conversion) (t u : LevelExpr) → tree ≡ level'.Conversion c t → u ≡ t → is_sound_level s tree ≡ true → is_sound_level s u ≡ true
conversion-part s tree c t u is same holds = part s t u same (sym (sound.sound-conversion s c t) ∙ sym (ap (is_sound_level s) is) ∙ holds)

pub logical-parts : (s : Tests) (tree : LevelExpr) (o : Logical) (ts us : List LevelExpr) → tree ≡ level'.Logical o ts → us ≡ ts → is_sound_level s tree ≡ true → list_all (is_sound_level s) us ≡ true
logical-parts s tree o ts us is same holds = parts s ts us same (sym (sound.sound-logical s o ts) ∙ sym (ap (is_sound_level s) is) ∙ holds)

primitive-holds : (s : Tests) (tree : LevelExpr) (p : Primitive) (ts : List LevelExpr) → tree ≡ level'.Primitive p ts → is_sound_level s tree ≡ true → ((length ts == input_count p) && list_all (is_sound_level s) ts) ≡ true
primitive-holds s tree p ts is holds = sym (sound.sound-primitive s p ts) ∙ sym (ap (is_sound_level s) is) ∙ holds

pub primitive-parts : (s : Tests) (tree : LevelExpr) (p : Primitive) (ts us : List LevelExpr) → tree ≡ level'.Primitive p ts → us ≡ ts → is_sound_level s tree ≡ true → list_all (is_sound_level s) us ≡ true
primitive-parts s tree p ts us is same holds = parts s ts us same (second-holds (length ts == input_count p) (list_all (is_sound_level s) ts) (primitive-holds s tree p ts is holds))

call-holds : (s : Tests) (call d : TruthTableCall) (n : ℕ) → d ≡ call → is_sound_call s call n ≡ true → ((vector_worth s (out-TruthTableCall d).inputs).0 && s.has_table (out-TruthTableCall d).table (length_of (out-TruthTableCall d).inputs) n) ≡ true
call-holds s call d n same holds = sym (sound.sound-call s d n) ∙ ap (λ c. is_sound_call s c n) same ∙ holds

pub call-inputs : (s : Tests) (call d : TruthTableCall) (n : ℕ) → d ≡ call → is_sound_call s call n ≡ true → (vector_worth s (out-TruthTableCall d).inputs).0 ≡ true
call-inputs s call d n same holds = first-holds (vector_worth s (out-TruthTableCall d).inputs).0 (s.has_table (out-TruthTableCall d).table (length_of (out-TruthTableCall d).inputs) n) (call-holds s call d n same holds)

pub call-table : (s : Tests) (call d : TruthTableCall) (n : ℕ) → d ≡ call → is_sound_call s call n ≡ true → s.has_table (out-TruthTableCall d).table (length_of (out-TruthTableCall d).inputs) n ≡ true
call-table s call d n same holds = second-holds (vector_worth s (out-TruthTableCall d).inputs).0 (s.has_table (out-TruthTableCall d).table (length_of (out-TruthTableCall d).inputs) n) (call-holds s call d n same holds)

pub result-call : (s : Tests) (tree : LevelExpr) (call : TruthTableCall) → tree ≡ level'.TruthTable call → is_sound_level s tree ≡ true → is_sound_call s call 1 ≡ true
result-call s tree call is holds = sym (sound.sound-result s call) ∙ sym (ap (is_sound_level s) is) ∙ holds

-- ---- sound parts of vectors

pub levels-parts : (s : Tests) (tree : VectorExpr) (ts us : List LevelExpr) → tree ≡ vector'.Levels ts → us ≡ ts → (vector_worth s tree).0 ≡ true → list_all (is_sound_level s) us ≡ true
levels-parts s tree ts us is same holds = parts s ts us same (sym (sound.sound-levels s ts) ∙ sym (ap (λ v. (vector_worth s v).0) is) ∙ holds)

pub others-part : (s : Tests) (tree : VectorExpr) (t : LevelExpr) (n : ℕ) (u : LevelExpr) → tree ≡ vector'.Others t n → u ≡ t → (vector_worth s tree).0 ≡ true → is_sound_level s u ≡ true
others-part s tree t n u is same holds = part s t u same (sym (sound.sound-others s t n) ∙ sym (ap (λ v. (vector_worth s v).0) is) ∙ holds)

pub results-call : (s : Tests) (tree : VectorExpr) (call : TruthTableCall) (n : ℕ) → tree ≡ vector'.TruthTable call n → (vector_worth s tree).0 ≡ true → is_sound_call s call n ≡ true
results-call s tree call n is holds = sym (sound.sound-results s call n) ∙ sym (ap (λ v. (vector_worth s v).0) is) ∙ holds

-- ---- what stands for them

pub level-for : (k : Scope) (x : LevelTree) (tree t : LevelExpr) → tree ≡ t → IsLevel k x t → IsLevel k x tree
level-for k x tree t is stands = λ s fits. stands s fits ∙ sym (ap (T.level (names_of k s)) is)

levels-for : (k : Scope) (xs : List LevelTree) (ts us : List LevelExpr) → us ≡ ts → AreLevels k xs us → AreLevels k xs ts
levels-for k xs ts us same stand = λ s fits. stand s fits ∙ ap (map (T.level (names_of k s))) same

pub vector-for : (k : Scope) (x : VectorTree) (tree t : VectorExpr) → tree ≡ t → IsVector k x t → IsVector k x tree
vector-for k x tree t is stands = λ s fits. stands s fits ∙ sym (ap (T.vector (names_of k s)) is)

call-for : (k : Scope) (n : ℕ) (x : TableTree) (call d : TruthTableCall) → d ≡ call → IsCall k n x d → IsCall k n x call
call-for k n x call d same stands = λ s fits. stands s fits ∙ ap (λ c. T.results (names_of k s) c n) same

pub literal-stands : (k : Scope) (tree : LevelExpr) (l : Level) → tree ≡ level'.Literal l → IsLevel k (numbered.Literal l) tree
literal-stands k tree l is = level-for k (numbered.Literal l) tree (level'.Literal l) is (stand.stands-literal k l)

pub not-stands : (k : Scope) (x : LevelTree) (tree t u : LevelExpr) → tree ≡ level'.Not t → u ≡ t → IsLevel k x u → IsLevel k (numbered.Not x) tree
not-stands k x tree t u is same stands = level-for k (numbered.Not x) tree (level'.Not t) is (stand.stands-not k x t (level-for k x t u (sym same) stands))

pub logical-stands : (k : Scope) (xs : List LevelTree) (tree : LevelExpr) (o : Logical) (ts us : List LevelExpr) → tree ≡ level'.Logical o ts → us ≡ ts → AreLevels k xs us → IsLevel k (numbered.Logical o xs) tree
logical-stands k xs tree o ts us is same stands = level-for k (numbered.Logical o xs) tree (level'.Logical o ts) is (stand.stands-logical k o xs ts (levels-for k xs ts us same stands))

pub primitive-stands : (k : Scope) (xs : List LevelTree) (tree : LevelExpr) (p : Primitive) (ts us : List LevelExpr) → tree ≡ level'.Primitive p ts → us ≡ ts → is_sound_level (tests k) tree ≡ true → AreLevels k xs us → IsLevel k (numbered.Primitive p xs) tree
primitive-stands k xs tree p ts us is same holds stands =
    level-for k (numbered.Primitive p xs) tree (level'.Primitive p ts) is
    (stand.stands-primitive k p xs ts (eqb-true (length ts) (input_count p) (first-holds (length ts == input_count p) (list_all (is_sound_level (tests k)) ts) (primitive-holds (tests k) tree p ts is holds))) (levels-for k xs ts us same stands))

pub conversion-stands : (k : Scope) (x : LevelTree) (tree : LevelExpr) (c : Conversion) (t u : LevelExpr) → tree ≡ level'.Conversion c t → u ≡ t → IsLevel k x u → IsLevel k (numbered.Conversion c x) tree
conversion-stands k x tree c t u is same stands = level-for k (numbered.Conversion c x) tree (level'.Conversion c t) is (stand.stands-conversion k c x t (level-for k x t u (sym same) stands))

pub result-stands : (k : Scope) (x : TableTree) (tree : LevelExpr) (call d : TruthTableCall) → tree ≡ level'.TruthTable call → d ≡ call → IsCall k 1 x d → IsLevel k (numbered.FirstResult x) tree
result-stands k x tree call d is same stands = level-for k (numbered.FirstResult x) tree (level'.TruthTable call) is (stand.stands-result k x call (call-for k 1 x call d same stands))

pub levels-stand : (k : Scope) (xs : List LevelTree) (tree : VectorExpr) (ts us : List LevelExpr) → tree ≡ vector'.Levels ts → us ≡ ts → AreLevels k xs us → IsVector k (vectors.Levels xs) tree
levels-stand k xs tree ts us is same stands = vector-for k (vectors.Levels xs) tree (vector'.Levels ts) is (stand.stands-levels k xs ts (levels-for k xs ts us same stands))

pub others-stand : (k : Scope) (x : LevelTree) (tree : VectorExpr) (t : LevelExpr) (n : ℕ) (u : LevelExpr) → tree ≡ vector'.Others t n → u ≡ t → IsLevel k x u → IsVector k (vectors.Others x n) tree
others-stand k x tree t n u is same stands = vector-for k (vectors.Others x n) tree (vector'.Others t n) is (stand.stands-others k x t n (level-for k x t u (sym same) stands))

pub results-stand : (k : Scope) (x : TableTree) (tree : VectorExpr) (call d : TruthTableCall) (n : ℕ) → tree ≡ vector'.TruthTable call n → d ≡ call → IsCall k n x d → IsVector k (vectors.Results x) tree
results-stand k x tree call d n is same stands = vector-for k (vectors.Results x) tree (vector'.TruthTable call n) is (stand.stands-results k x call n (call-for k n x call d same stands))

pub listed-stands : (k : Scope) (tree : VectorExpr) (ls us xs : List Level) → tree ≡ vector'.Literal ls → us ≡ ls → xs ≡ us → IsVector k (vectors.Literal xs) tree
listed-stands k tree ls us xs is same put = λ s fits.
    ap (λ ys. N.vector s (vectors.Literal ys)) (put ∙ same) ∙ stand.stands-listed k ls s fits ∙ sym (ap (T.vector (names_of k s)) is)

pub call-stands :
    (k : Scope) (n m : ℕ) (call : TruthTableCall) (x : TableTree) (table : Table) (inputs : VectorTree)
    → (out-TableTree x).table ≡ table → (out-TableTree x).inputs ≡ inputs
    → table ≡ record { inputs = m; states = 0; results = n; rows = rows_named k (out-TruthTableCall call).table } → m ≡ length_of (out-TruthTableCall call).inputs
    → (vector_worth (tests k) (out-TruthTableCall call).inputs).0 ≡ true → IsVector k inputs (out-TruthTableCall call).inputs
    → IsCall k n x call
call-stands k n m call x table inputs table-is inputs-are is long sound stands =
    stand.stands-call k x call n
    (table-is ∙ is ∙ ap (λ q. record { inputs = q; states = 0; results = n; rows = rows_named k (out-TruthTableCall call).table }) long) sound
    (λ s fits. ap (N.vector s) inputs-are ∙ stands s fits)

-- ---- one of a list more

pub level-turn : (k : Scope) (ts : List LevelExpr) (i : ℕ) (t : LevelExpr) (x : LevelTree) (now new : List LevelTree) → i < length ts → t ≡ get_or ts i t → IsLevel k x t → AreLevels k now (take i ts) → new ≡ now ++ x ∷ [] → AreLevels k new (take (i + 1) ts)
level-turn k ts i t x now new there is stands before put = λ s fits.
    let e = names_of k s in
    ap (map (N.level s)) put
    ∙ map-append (N.level s) now (x ∷ [])
    ∙ ap (λ ls. ls ++ N.level s x ∷ []) (before s fits)
    ∙ ap (λ l. map (T.level e) (take i ts) ++ l ∷ []) (stands s fits ∙ ap (T.level e) is)
    ∙ sym (ap (map (T.level e)) (take_more ts i t there) ∙ map-append (T.level e) (take i ts) (get_or ts i t ∷ []))

pub truth-turn : (k : Scope) (ts : List BooleanExpr) (i : ℕ) (t : BooleanExpr) (x : TruthTree) (now new : List TruthTree) → i < length ts → t ≡ get_or ts i t → IsTruth k x t → AreTruths k now (take i ts) → new ≡ now ++ x ∷ [] → AreTruths k new (take (i + 1) ts)
truth-turn k ts i t x now new there is stands before put = λ s fits.
    let e = names_of k s in
    ap (map (N.truth s)) put
    ∙ map-append (N.truth s) now (x ∷ [])
    ∙ ap (λ ls. ls ++ N.truth s x ∷ []) (before s fits)
    ∙ ap (λ l. map (T.truth e) (take i ts) ++ l ∷ []) (stands s fits ∙ ap (T.truth e) is)
    ∙ sym (ap (map (T.truth e)) (take_more ts i t there) ∙ map-append (T.truth e) (take i ts) (get_or ts i t ∷ []))

-- ---- truth values

boolean-part : (s : Tests) (t u : BooleanExpr) → u ≡ t → is_sound_boolean s t ≡ true → is_sound_boolean s u ≡ true
boolean-part s t u same holds = ap (is_sound_boolean s) same ∙ holds

pub truth-for : (k : Scope) (x : TruthTree) (tree t : BooleanExpr) → tree ≡ t → IsTruth k x t → IsTruth k x tree
truth-for k x tree t is stands = λ s fits. stands s fits ∙ sym (ap (T.truth (names_of k s)) is)

truths-for : (k : Scope) (xs : List TruthTree) (ts us : List BooleanExpr) → us ≡ ts → AreTruths k xs us → AreTruths k xs ts
truths-for k xs ts us same stand = λ s fits. stand s fits ∙ ap (map (T.truth (names_of k s))) same

pub same-left : (s : Tests) (tree l r u : BooleanExpr) → tree ≡ truth'.Same l r → u ≡ l → is_sound_boolean s tree ≡ true → is_sound_boolean s u ≡ true
same-left s tree l r u is same holds = boolean-part s l u same (first-holds (is_sound_boolean s l) (is_sound_boolean s r) (sym (sound.sound-same s l r) ∙ sym (ap (is_sound_boolean s) is) ∙ holds))

pub same-right : (s : Tests) (tree l r u : BooleanExpr) → tree ≡ truth'.Same l r → u ≡ r → is_sound_boolean s tree ≡ true → is_sound_boolean s u ≡ true
same-right s tree l r u is same holds = boolean-part s r u same (second-holds (is_sound_boolean s l) (is_sound_boolean s r) (sym (sound.sound-same s l r) ∙ sym (ap (is_sound_boolean s) is) ∙ holds))

pub other-left : (s : Tests) (tree l r u : BooleanExpr) → tree ≡ truth'.Other l r → u ≡ l → is_sound_boolean s tree ≡ true → is_sound_boolean s u ≡ true
other-left s tree l r u is same holds = boolean-part s l u same (first-holds (is_sound_boolean s l) (is_sound_boolean s r) (sym (sound.sound-other s l r) ∙ sym (ap (is_sound_boolean s) is) ∙ holds))

pub other-right : (s : Tests) (tree l r u : BooleanExpr) → tree ≡ truth'.Other l r → u ≡ r → is_sound_boolean s tree ≡ true → is_sound_boolean s u ≡ true
other-right s tree l r u is same holds = boolean-part s r u same (second-holds (is_sound_boolean s l) (is_sound_boolean s r) (sym (sound.sound-other s l r) ∙ sym (ap (is_sound_boolean s) is) ∙ holds))

pub denied-part : (s : Tests) (tree t u : BooleanExpr) → tree ≡ truth'.Not t → u ≡ t → is_sound_boolean s tree ≡ true → is_sound_boolean s u ≡ true
denied-part s tree t u is same holds = boolean-part s t u same (sym (sound.sound-denied s t) ∙ sym (ap (is_sound_boolean s) is) ∙ holds)

pub joined-parts : (s : Tests) (tree : BooleanExpr) (o : Logical) (ts us : List BooleanExpr) → tree ≡ truth'.Logical o ts → us ≡ ts → is_sound_boolean s tree ≡ true → list_all (is_sound_boolean s) us ≡ true
joined-parts s tree o ts us is same holds = ap (list_all (is_sound_boolean s)) same ∙ sym (sound.sound-joined s o ts) ∙ sym (ap (is_sound_boolean s) is) ∙ holds

pub same_levels-left : (s : Tests) (tree : BooleanExpr) (l r u : LevelExpr) → tree ≡ truth'.SameLevels l r → u ≡ l → is_sound_boolean s tree ≡ true → is_sound_level s u ≡ true
same_levels-left s tree l r u is same holds = part s l u same (first-holds (is_sound_level s l) (is_sound_level s r) (sym (sound.sound-same_levels s l r) ∙ sym (ap (is_sound_boolean s) is) ∙ holds))

pub same_levels-right : (s : Tests) (tree : BooleanExpr) (l r u : LevelExpr) → tree ≡ truth'.SameLevels l r → u ≡ r → is_sound_boolean s tree ≡ true → is_sound_level s u ≡ true
same_levels-right s tree l r u is same holds = part s r u same (second-holds (is_sound_level s l) (is_sound_level s r) (sym (sound.sound-same_levels s l r) ∙ sym (ap (is_sound_boolean s) is) ∙ holds))

pub other_levels-left : (s : Tests) (tree : BooleanExpr) (l r u : LevelExpr) → tree ≡ truth'.OtherLevels l r → u ≡ l → is_sound_boolean s tree ≡ true → is_sound_level s u ≡ true
other_levels-left s tree l r u is same holds = part s l u same (first-holds (is_sound_level s l) (is_sound_level s r) (sym (sound.sound-other_levels s l r) ∙ sym (ap (is_sound_boolean s) is) ∙ holds))

pub other_levels-right : (s : Tests) (tree : BooleanExpr) (l r u : LevelExpr) → tree ≡ truth'.OtherLevels l r → u ≡ r → is_sound_boolean s tree ≡ true → is_sound_level s u ≡ true
other_levels-right s tree l r u is same holds = part s r u same (second-holds (is_sound_level s l) (is_sound_level s r) (sym (sound.sound-other_levels s l r) ∙ sym (ap (is_sound_boolean s) is) ∙ holds))

pub truth-stands : (k : Scope) (tree : BooleanExpr) (x : Bool) → tree ≡ truth'.Literal x → IsTruth k (truths.Literal x) tree
truth-stands k tree x is = truth-for k (truths.Literal x) tree (truth'.Literal x) is (stand.stands-truth k x)

pub control-stands : (k : Scope) (tree : BooleanExpr) (x : Bool) (c : Control) → tree ≡ truth'.Control c → x ≡ k.controls c → IsTruth k (truths.Literal x) tree
control-stands k tree x c is same = truth-for k (truths.Literal x) tree (truth'.Control c) is (stand.stands-control k x c same)

pub same_levels-stand : (k : Scope) (x : TruthTree) (tree : BooleanExpr) (l r : LevelExpr) → tree ≡ truth'.SameLevels l r → IsSame k x l r → IsTruth k x tree
same_levels-stand k x tree l r is same = truth-for k x tree (truth'.SameLevels l r) is (stand.stands-same_levels k x l r same)

pub other_levels-stand : (k : Scope) (x : TruthTree) (tree : BooleanExpr) (l r : LevelExpr) → tree ≡ truth'.OtherLevels l r → IsOther k x l r → IsTruth k x tree
other_levels-stand k x tree l r is same = truth-for k x tree (truth'.OtherLevels l r) is (stand.stands-other_levels k x l r same)

pub same-stands : (k : Scope) (x y : TruthTree) (tree l r u v : BooleanExpr) → tree ≡ truth'.Same l r → u ≡ l → v ≡ r → IsTruth k x u → IsTruth k y v → IsTruth k (truths.Same x y) tree
same-stands k x y tree l r u v is left right a b = truth-for k (truths.Same x y) tree (truth'.Same l r) is (stand.stands-same k x y l r (truth-for k x l u (sym left) a) (truth-for k y r v (sym right) b))

pub other-stands : (k : Scope) (x y : TruthTree) (tree l r u v : BooleanExpr) → tree ≡ truth'.Other l r → u ≡ l → v ≡ r → IsTruth k x u → IsTruth k y v → IsTruth k (truths.Other x y) tree
other-stands k x y tree l r u v is left right a b = truth-for k (truths.Other x y) tree (truth'.Other l r) is (stand.stands-other k x y l r (truth-for k x l u (sym left) a) (truth-for k y r v (sym right) b))

pub denied-stands : (k : Scope) (x : TruthTree) (tree t u : BooleanExpr) → tree ≡ truth'.Not t → u ≡ t → IsTruth k x u → IsTruth k (truths.Not x) tree
denied-stands k x tree t u is same stands = truth-for k (truths.Not x) tree (truth'.Not t) is (stand.stands-denied k x t (truth-for k x t u (sym same) stands))

pub joined-stands : (k : Scope) (xs : List TruthTree) (tree : BooleanExpr) (o : Logical) (ts us : List BooleanExpr) → tree ≡ truth'.Logical o ts → us ≡ ts → AreTruths k xs us → IsTruth k (truths.Logical o xs) tree
joined-stands k xs tree o ts us is same stands = truth-for k (truths.Logical o xs) tree (truth'.Logical o ts) is (stand.stands-joined k o xs ts (truths-for k xs ts us same stands))
