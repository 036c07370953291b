-- Trees that are made of sound ones are sound.
use Rattle.std.proofs.Common.{◌≡◌, ℕ, Bool, true, List, length, map, ap, sym, ◌∙◌}
use Rattle.std.specs.Prelude.{◌==◌}
use Rattle.std.specs.List.{AllByRecursion, list_all}
use Rattle.std.proofs.lemmas.List.{length-map}
use Rattle.vital_calls.specs.Formals.{input_count}
use Rattle.vital_expr.specs.Vectors.{length_in, length_of}
use Rattle.vital_logic.specs.declared.level.Level.{Level}
use Rattle.vital_names.specs.declared.predeclared.Conversion.{Conversion}
use Rattle.vital_names.specs.declared.predeclared.Primitive.{Primitive}
use Rattle.vital_nodes.specs.declared.expr.Logical.{Logical}
use Rattle.vital_operands.specs.declared.tree.BooleanExpr.{BooleanExpr}
use Rattle.vital_operands.specs.declared.tree.BooleanExpr.TheFolds.{fold-roll-BooleanExpr, map-BooleanExpr}
use Rattle.vital_operands.specs.declared.tree.BooleanExpr.TheOpen.{BooleanExpr-F}
use Rattle.vital_operands.specs.declared.tree.BooleanExpr.TheVariants as truth
use Rattle.vital_operands.specs.declared.tree.BooleanExpr.TheViews.{roll-BooleanExpr}
use Rattle.vital_operands.specs.declared.tree.ConstantName.{ConstantName}
use Rattle.vital_operands.specs.declared.tree.Control.{Control}
use Rattle.vital_operands.specs.declared.tree.LevelExpr.{LevelExpr}
use Rattle.vital_operands.specs.declared.tree.LevelExpr.TheFolds.{fold-roll-LevelExpr, fold-roll-VectorExpr, fold-roll-TruthTableCall, fold-TruthTableCall, map-LevelExpr, map-VectorExpr}
use Rattle.vital_operands.specs.declared.tree.LevelExpr.TheOpen.{LevelExpr-F, VectorExpr-F}
use Rattle.vital_operands.specs.declared.tree.LevelExpr.TheVariants as level
use Rattle.vital_operands.specs.declared.tree.LevelExpr.TheViews.{out-VectorExpr, roll-LevelExpr, roll-VectorExpr, roll-out-VectorExpr}
use Rattle.vital_operands.specs.declared.tree.TruthTableCall.{TruthTableCall, roll-TruthTableCall}
use Rattle.vital_operands.specs.declared.tree.VectorExpr.{VectorExpr}
use Rattle.vital_operands.specs.declared.tree.VectorExpr.TheVariants as vector
use Rattle.vital_typed_cells.specs.ExprScopes.{Scope}
use Rattle.vital_typed_cells.specs.Trees.{boolean_step, call_step, is_sound_boolean, is_sound_level, level_step, vector_step, vector_worth}
use Rattle.vital_typed_cells.proofs.ExprTests.{all-true, both-true, same-number}

-- Whether the call of a table is sound for so many results.
abbrev pub is_sound_call : Scope → TruthTableCall → ℕ → Bool
is_sound_call s = fold-TruthTableCall Bool (Bool × ℕ) (ℕ → Bool) (level_step s) (vector_step s) (call_step s)

-- What trees of one layer are worth.
level-roll : (s : Scope) (l : LevelExpr-F LevelExpr VectorExpr TruthTableCall) → is_sound_level s (roll-LevelExpr l) ≡ level_step s (map-LevelExpr LevelExpr VectorExpr TruthTableCall Bool (Bool × ℕ) (ℕ → Bool) (is_sound_level s) (vector_worth s) (is_sound_call s) l)
level-roll s l = fold-roll-LevelExpr Bool (Bool × ℕ) (ℕ → Bool) (level_step s) (vector_step s) (call_step s) l

vector-roll : (s : Scope) (l : VectorExpr-F LevelExpr VectorExpr TruthTableCall) → vector_worth s (roll-VectorExpr l) ≡ vector_step s (map-VectorExpr LevelExpr VectorExpr TruthTableCall Bool (Bool × ℕ) (ℕ → Bool) (is_sound_level s) (vector_worth s) (is_sound_call s) l)
vector-roll s l = fold-roll-VectorExpr Bool (Bool × ℕ) (ℕ → Bool) (level_step s) (vector_step s) (call_step s) l

-- ---- levels

abbrev pub SoundLevel : Scope → LevelExpr → Type 0
SoundLevel s t = is_sound_level s t ≡ true

abbrev pub SoundLevels : Scope → List LevelExpr → Type 0
SoundLevels s ts = AllByRecursion (SoundLevel s) ts

pub sound-level : (s : Scope) (l : Level) → SoundLevel s (level.Literal l)
sound-level s l = ap (is_sound_level s) (sym (level.rolls-Literal l)) ∙ level-roll s (LevelExpr-F.LevelExpr::Literal l)

pub sound-signal : (s : Scope) (name : List ℕ) → s.has_signal name ≡ true → SoundLevel s (level.Signal name)
sound-signal s name has = ap (is_sound_level s) (sym (level.rolls-Signal name)) ∙ level-roll s (LevelExpr-F.Signal name) ∙ has

pub sound-variable : (s : Scope) (name : List ℕ) → s.has_variable name ≡ true → SoundLevel s (level.Variable name)
sound-variable s name has = ap (is_sound_level s) (sym (level.rolls-Variable name)) ∙ level-roll s (LevelExpr-F.LevelExpr::Variable name) ∙ has

pub sound-element : (s : Scope) (name : List ℕ) (n : ℕ) → s.has_element name n ≡ true → SoundLevel s (level.Element name n)
sound-element s name n has = ap (is_sound_level s) (sym (level.rolls-Element name n)) ∙ level-roll s (LevelExpr-F.Element name n) ∙ has

pub sound-constant : (s : Scope) (name : ConstantName) → s.has_level name ≡ true → SoundLevel s (level.Constant name)
sound-constant s name has = ap (is_sound_level s) (sym (level.rolls-Constant name)) ∙ level-roll s (LevelExpr-F.Constant name) ∙ has

pub sound-not : (s : Scope) (t : LevelExpr) → SoundLevel s t → SoundLevel s (level.Not t)
sound-not s t holds = ap (is_sound_level s) (sym (level.rolls-Not t)) ∙ level-roll s (LevelExpr-F.Not t) ∙ holds

pub sound-logical : (s : Scope) (o : Logical) (ts : List LevelExpr) → SoundLevels s ts → SoundLevel s (level.Logical o ts)
sound-logical s o ts hold = ap (is_sound_level s) (sym (level.rolls-Logical o ts)) ∙ level-roll s (LevelExpr-F.Logical o ts) ∙ all-true (is_sound_level s) ts hold

pub sound-primitive : (s : Scope) (p : Primitive) (ts : List LevelExpr) → length ts ≡ input_count p → SoundLevels s ts → SoundLevel s (level.Primitive p ts)
sound-primitive s p ts count hold =
    ap (is_sound_level s) (sym (level.rolls-Primitive p ts))
    ∙ level-roll s (LevelExpr-F.Primitive p ts)
    ∙ both-true (length (map (is_sound_level s) ts) == input_count p) (list_all (λ t. t) (map (is_sound_level s) ts))
    (same-number (length (map (is_sound_level s) ts)) (input_count p) (length-map ts (is_sound_level s) ∙ count))
    (all-true (is_sound_level s) ts hold)

pub sound-conversion : (s : Scope) (c : Conversion) (t : LevelExpr) → SoundLevel s t → SoundLevel s (level.Conversion c t)
sound-conversion s c t holds = ap (is_sound_level s) (sym (level.rolls-Conversion c t)) ∙ level-roll s (LevelExpr-F.Conversion c t) ∙ holds

pub sound-result : (s : Scope) (call : TruthTableCall) → is_sound_call s call 1 ≡ true → SoundLevel s (level.TruthTable call)
sound-result s call holds = ap (is_sound_level s) (sym (level.rolls-TruthTable call)) ∙ level-roll s (LevelExpr-F.LevelExpr::TruthTable call) ∙ holds

-- ---- vectors

abbrev pub HoldsVector : Scope → VectorExpr → Type 0
HoldsVector s v = (vector_worth s v).0 ≡ true

pub sound-whole : (s : Scope) (name : List ℕ) (n : ℕ) → s.has_vector name n ≡ true → HoldsVector s (vector.Variable name n)
sound-whole s name n has = ap (λ v. (vector_worth s v).0) (sym (vector.rolls-Variable name n)) ∙ ap (λ w. w.0) (vector-roll s (VectorExpr-F.VectorExpr::Variable name n)) ∙ has

pub sound-levels : (s : Scope) (ts : List LevelExpr) → SoundLevels s ts → HoldsVector s (vector.Levels ts)
sound-levels s ts hold = ap (λ v. (vector_worth s v).0) (sym (vector.rolls-Levels ts)) ∙ ap (λ w. w.0) (vector-roll s (VectorExpr-F.Levels ts)) ∙ all-true (is_sound_level s) ts hold

pub sound-others : (s : Scope) (t : LevelExpr) (n : ℕ) → SoundLevel s t → HoldsVector s (vector.Others t n)
sound-others s t n holds = ap (λ v. (vector_worth s v).0) (sym (vector.rolls-Others t n)) ∙ ap (λ w. w.0) (vector-roll s (VectorExpr-F.Others t n)) ∙ holds

pub sound-literal : (s : Scope) (ls : List Level) → HoldsVector s (vector.Literal ls)
sound-literal s ls = ap (λ v. (vector_worth s v).0) (sym (vector.rolls-Literal ls)) ∙ ap (λ w. w.0) (vector-roll s (VectorExpr-F.VectorExpr::Literal ls))

pub sound-results : (s : Scope) (call : TruthTableCall) (n : ℕ) → is_sound_call s call n ≡ true → HoldsVector s (vector.TruthTable call n)
sound-results s call n holds = ap (λ v. (vector_worth s v).0) (sym (vector.rolls-TruthTable call n)) ∙ ap (λ w. w.0) (vector-roll s (VectorExpr-F.VectorExpr::TruthTable call n)) ∙ holds

-- The length of a vector is that of its layer.
layer-length : (s : Scope) (l : VectorExpr-F LevelExpr VectorExpr TruthTableCall) → (vector_worth s (roll-VectorExpr l)).1 ≡ length_in l
layer-length s (VectorExpr-F.VectorExpr::Variable name n) = ap (λ w. w.1) (vector-roll s (VectorExpr-F.VectorExpr::Variable name n))
layer-length s (VectorExpr-F.Levels ts) = ap (λ w. w.1) (vector-roll s (VectorExpr-F.Levels ts)) ∙ length-map ts (is_sound_level s)
layer-length s (VectorExpr-F.Others t n) = ap (λ w. w.1) (vector-roll s (VectorExpr-F.Others t n))
layer-length s (VectorExpr-F.VectorExpr::Literal ls) = ap (λ w. w.1) (vector-roll s (VectorExpr-F.VectorExpr::Literal ls))
layer-length s (VectorExpr-F.VectorExpr::TruthTable call n) = ap (λ w. w.1) (vector-roll s (VectorExpr-F.VectorExpr::TruthTable call n))

pub vector-length : (s : Scope) (v : VectorExpr) → (vector_worth s v).1 ≡ length_of v
vector-length s v = ap (λ u. (vector_worth s u).1) (sym (roll-out-VectorExpr v)) ∙ layer-length s (out-VectorExpr v)

pub sound-call : (s : Scope) (name : ConstantName) (v : VectorExpr) (n : ℕ) → HoldsVector s v → s.has_table name (length_of v) n ≡ true → is_sound_call s (roll-TruthTableCall (record { table = name; inputs = v })) n ≡ true
sound-call s name v n holds has =
    ap (λ f. f n) (fold-roll-TruthTableCall Bool (Bool × ℕ) (ℕ → Bool) (level_step s) (vector_step s) (call_step s) (record { table = name; inputs = v }))
    ∙ both-true (vector_worth s v).0 (s.has_table name (vector_worth s v).1 n) holds (ap (λ m. s.has_table name m n) (vector-length s v) ∙ has)

-- ---- truth values

abbrev pub SoundBoolean : Scope → BooleanExpr → Type 0
SoundBoolean s t = is_sound_boolean s t ≡ true

boolean-roll : (s : Scope) (l : BooleanExpr-F BooleanExpr) → is_sound_boolean s (roll-BooleanExpr l) ≡ boolean_step s (map-BooleanExpr BooleanExpr Bool (is_sound_boolean s) l)
boolean-roll s l = fold-roll-BooleanExpr Bool (boolean_step s) l

pub sound-truth : (s : Scope) (b : Bool) → SoundBoolean s (truth.Literal b)
sound-truth s b = ap (is_sound_boolean s) (sym (truth.rolls-Literal b)) ∙ boolean-roll s (BooleanExpr-F.Literal b)

pub sound-control : (s : Scope) (c : Control) → SoundBoolean s (truth.Control c)
sound-control s c = ap (is_sound_boolean s) (sym (truth.rolls-Control c)) ∙ boolean-roll s (BooleanExpr-F.Control c)

pub sound-same-levels : (s : Scope) (l r : LevelExpr) → SoundLevel s l → SoundLevel s r → SoundBoolean s (truth.SameLevels l r)
sound-same-levels s l r left right = ap (is_sound_boolean s) (sym (truth.rolls-SameLevels l r)) ∙ boolean-roll s (BooleanExpr-F.SameLevels l r) ∙ both-true (is_sound_level s l) (is_sound_level s r) left right

pub sound-other-levels : (s : Scope) (l r : LevelExpr) → SoundLevel s l → SoundLevel s r → SoundBoolean s (truth.OtherLevels l r)
sound-other-levels s l r left right = ap (is_sound_boolean s) (sym (truth.rolls-OtherLevels l r)) ∙ boolean-roll s (BooleanExpr-F.OtherLevels l r) ∙ both-true (is_sound_level s l) (is_sound_level s r) left right

pub sound-same : (s : Scope) (l r : BooleanExpr) → SoundBoolean s l → SoundBoolean s r → SoundBoolean s (truth.Same l r)
sound-same s l r left right = ap (is_sound_boolean s) (sym (truth.rolls-Same l r)) ∙ boolean-roll s (BooleanExpr-F.Same l r) ∙ both-true (is_sound_boolean s l) (is_sound_boolean s r) left right

pub sound-other : (s : Scope) (l r : BooleanExpr) → SoundBoolean s l → SoundBoolean s r → SoundBoolean s (truth.Other l r)
sound-other s l r left right = ap (is_sound_boolean s) (sym (truth.rolls-Other l r)) ∙ boolean-roll s (BooleanExpr-F.Other l r) ∙ both-true (is_sound_boolean s l) (is_sound_boolean s r) left right

pub sound-not-true : (s : Scope) (t : BooleanExpr) → SoundBoolean s t → SoundBoolean s (truth.Not t)
sound-not-true s t holds = ap (is_sound_boolean s) (sym (truth.rolls-Not t)) ∙ boolean-roll s (BooleanExpr-F.Not t) ∙ holds

pub sound-truths : (s : Scope) (o : Logical) (ts : List BooleanExpr) → AllByRecursion (SoundBoolean s) ts → SoundBoolean s (truth.Logical o ts)
sound-truths s o ts hold = ap (is_sound_boolean s) (sym (truth.rolls-Logical o ts)) ∙ boolean-roll s (BooleanExpr-F.Logical o ts) ∙ all-true (is_sound_boolean s) ts hold
