-- What is asked of the parts of a tree, and what the tree is worth by theirs.
use Rattle.std.proofs.Common.{◌≡◌, ℕ, ◌+◌, ◌<◌, true, List, [], ◌∷◌, ◌++◌, length, map, take, get_or, replicate, ap, sym, ◌∙◌, subst}
use Rattle.std.proofs.lemmas.List.{map-append, take_more}
use Rattle.std.specs.Prelude.{Option}
use Rattle.std.specs.List.{AllPass}
use Rattle.vital_logic.specs.declared.level.Level.{Level}
use Rattle.vital_names.specs.declared.predeclared.Conversion.{Conversion}
use Rattle.vital_names.specs.declared.predeclared.Primitive.{Primitive}
use Rattle.vital_nodes.specs.declared.expr.Logical.{Logical}
use Rattle.vital_objects.specs.declared.package_value.PackageValue.{PackageValue}
use Rattle.vital_operands.specs.declared.tree.LevelExpr.{LevelExpr}
use Rattle.vital_operands.specs.declared.tree.LevelExpr.TheVariants as level'
use Rattle.vital_operands.specs.declared.tree.TruthTableCall.{TruthTableCall}
use Rattle.vital_operands.specs.declared.tree.VectorExpr.{VectorExpr}
use Rattle.vital_operands.specs.declared.tree.VectorExpr.TheVariants as vector'
use Rattle.vital_primitives.specs.Operators.{converted, first, negated}
use Rattle.vital_typed_cells.specs.Expressions.{Names, level, results, vector}
use Rattle.vital_typed_cells.specs.SoundTrees.{is_sound_call, is_sound_tree, is_sound_vector}
use Rattle.vital_typed_cells.proofs.SoundLemmas.{sound-conversion, sound-levels, sound-logical, sound-not, sound-others, sound-primitive, sound-result, sound-results}
use Rattle.vital_typed_cells.proofs.TreeLemmas.{level-conversion, level-not, level-results, vector-others}

abbrev Values : Type 0
Values = List (Option PackageValue)

-- ---- what is asked

part : (vs : Values) (t u : LevelExpr) → u ≡ t → is_sound_tree vs t ≡ true → is_sound_tree vs u ≡ true
part vs t u same holds = ap (is_sound_tree vs) same ∙ holds

parts : (vs : Values) (ts us : List LevelExpr) → us ≡ ts → AllPass (is_sound_tree vs) ts → AllPass (is_sound_tree vs) us
parts vs ts us same hold = let P : List LevelExpr → Type 0 = λ xs. AllPass (is_sound_tree vs) xs in subst P (sym same) hold

call-part : (vs : Values) (call d : TruthTableCall) (n : ℕ) → d ≡ call → is_sound_call vs call n ≡ true → is_sound_call vs d n ≡ true
call-part vs call d n same holds = ap (λ c. is_sound_call vs c n) same ∙ holds

pub not-part : (vs : Values) (tree t u : LevelExpr) → tree ≡ level'.Not t → u ≡ t → is_sound_tree vs tree ≡ true → is_sound_tree vs u ≡ true
not-part vs tree t u is same holds = part vs t u same (sym (sound-not vs t) ∙ sym (ap (is_sound_tree vs) is) ∙ holds)

pub conversion-part : (vs : Values) (tree : LevelExpr) (c : Conversion) (t u : LevelExpr) → tree ≡ level'.Conversion c t → u ≡ t → is_sound_tree vs tree ≡ true → is_sound_tree vs u ≡ true
conversion-part vs tree c t u is same holds = part vs t u same (sym (sound-conversion vs c t) ∙ sym (ap (is_sound_tree vs) is) ∙ holds)

pub logical-parts : (vs : Values) (tree : LevelExpr) (o : Logical) (ts us : List LevelExpr) → tree ≡ level'.Logical o ts → us ≡ ts → is_sound_tree vs tree ≡ true → AllPass (is_sound_tree vs) us
logical-parts vs tree o ts us is same holds = parts vs ts us same (sound-logical vs o ts (sym (ap (is_sound_tree vs) is) ∙ holds))

pub primitive-parts : (vs : Values) (tree : LevelExpr) (p : Primitive) (ts us : List LevelExpr) → tree ≡ level'.Primitive p ts → us ≡ ts → is_sound_tree vs tree ≡ true → AllPass (is_sound_tree vs) us
primitive-parts vs tree p ts us is same holds = parts vs ts us same (sound-primitive vs p ts (sym (ap (is_sound_tree vs) is) ∙ holds))

pub result-call : (vs : Values) (tree : LevelExpr) (call d : TruthTableCall) → tree ≡ level'.TruthTable call → d ≡ call → is_sound_tree vs tree ≡ true → is_sound_call vs d 1 ≡ true
result-call vs tree call d is same holds = call-part vs call d 1 same (sym (sound-result vs call) ∙ sym (ap (is_sound_tree vs) is) ∙ holds)

pub levels-parts : (vs : Values) (tree : VectorExpr) (ts us : List LevelExpr) → tree ≡ vector'.Levels ts → us ≡ ts → is_sound_vector vs tree ≡ true → AllPass (is_sound_tree vs) us
levels-parts vs tree ts us is same holds = parts vs ts us same (sound-levels vs ts (sym (ap (is_sound_vector vs) is) ∙ holds))

pub others-part : (vs : Values) (tree : VectorExpr) (t : LevelExpr) (n : ℕ) (u : LevelExpr) → tree ≡ vector'.Others t n → u ≡ t → is_sound_vector vs tree ≡ true → is_sound_tree vs u ≡ true
others-part vs tree t n u is same holds = part vs t u same (sym (sound-others vs t n) ∙ sym (ap (is_sound_vector vs) is) ∙ holds)

pub results-call : (vs : Values) (tree : VectorExpr) (call : TruthTableCall) (n : ℕ) (d : TruthTableCall) → tree ≡ vector'.TruthTable call n → d ≡ call → is_sound_vector vs tree ≡ true → is_sound_call vs d n ≡ true
results-call vs tree call n d is same holds = call-part vs call d n same (sym (sound-results vs call n) ∙ sym (ap (is_sound_vector vs) is) ∙ holds)

-- ---- what it is worth

pub not-worth : (e : Names) (tree t u : LevelExpr) (l r : Level) → tree ≡ level'.Not t → u ≡ t → l ≡ level e u → r ≡ negated l → r ≡ level e tree
not-worth e tree t u l r is same worth by = by ∙ ap negated (worth ∙ ap (level e) same) ∙ sym (level-not e t) ∙ sym (ap (level e) is)

pub conversion-worth : (e : Names) (tree : LevelExpr) (c : Conversion) (t u : LevelExpr) (l r : Level) → tree ≡ level'.Conversion c t → u ≡ t → l ≡ level e u → r ≡ converted c l → r ≡ level e tree
conversion-worth e tree c t u l r is same worth by = by ∙ ap (converted c) (worth ∙ ap (level e) same) ∙ sym (level-conversion e c t) ∙ sym (ap (level e) is)

pub result-worth : (e : Names) (tree : LevelExpr) (call d : TruthTableCall) (found ls : List Level) (r : Level) → tree ≡ level'.TruthTable call → d ≡ call → found ≡ results e d 1 → ls ≡ found → r ≡ first ls → r ≡ level e tree
result-worth e tree call d found ls r is same worth lent by = by ∙ ap first (lent ∙ worth ∙ ap (λ c. results e c 1) same) ∙ sym (level-results e call) ∙ sym (ap (level e) is)

pub others-worth : (e : Names) (tree : VectorExpr) (t : LevelExpr) (n : ℕ) (u : LevelExpr) (l : Level) (found : List Level) → tree ≡ vector'.Others t n → u ≡ t → l ≡ level e u → found ≡ replicate n l → found ≡ vector e tree
others-worth e tree t n u l found is same worth by = by ∙ ap (replicate n) (worth ∙ ap (level e) same) ∙ sym (vector-others e t n) ∙ sym (ap (vector e) is)

-- ---- one of a list more

pub level-turn : (e : Names) (ts : List LevelExpr) (i : ℕ) (t : LevelExpr) (l : Level) (now new : List Level) → i < length ts → t ≡ get_or ts i t → l ≡ level e t → now ≡ map (level e) (take i ts) → new ≡ now ++ l ∷ [] → new ≡ map (level e) (take (i + 1) ts)
level-turn e ts i t l now new there is worth before put =
    put ∙ ap (λ ls. ls ++ l ∷ []) before ∙ ap (λ x. map (level e) (take i ts) ++ x ∷ []) (worth ∙ ap (level e) is)
    ∙ sym (ap (map (level e)) (take_more ts i t there) ∙ map-append (level e) (take i ts) (get_or ts i t ∷ []))
