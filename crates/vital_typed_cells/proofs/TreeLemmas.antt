-- What trees of one layer are worth.
use Rattle.std.proofs.Common.{◌≡◌, ℕ, List, map, replicate, ap, sym, ◌∙◌}
use Rattle.std.specs.List.{slice_index_or}
use Rattle.vital_logic.specs.declared.level.Level.{Level}
use Rattle.vital_logic.specs.declared.level.Level.TheVariants.{U}
use Rattle.vital_names.specs.declared.predeclared.Conversion.{Conversion}
use Rattle.vital_names.specs.declared.predeclared.Primitive.{Primitive}
use Rattle.vital_nodes.specs.declared.expr.Logical.{Logical}
use Rattle.vital_operands.specs.declared.tree.ConstantName.{ConstantName}
use Rattle.vital_operands.specs.declared.tree.LevelExpr.{LevelExpr}
use Rattle.vital_operands.specs.declared.tree.LevelExpr.TheFolds.{fold-roll-LevelExpr, fold-roll-VectorExpr, fold_out-TruthTableCall, map-LevelExpr, map-VectorExpr}
use Rattle.vital_operands.specs.declared.tree.LevelExpr.TheOpen.{LevelExpr-F, VectorExpr-F}
use Rattle.vital_operands.specs.declared.tree.LevelExpr.TheVariants as level'
use Rattle.vital_operands.specs.declared.tree.LevelExpr.TheViews.{roll-LevelExpr, roll-VectorExpr}
use Rattle.vital_operands.specs.declared.tree.TruthTableCall.{TruthTableCall, out-TruthTableCall}
use Rattle.vital_operands.specs.declared.tree.VectorExpr.{VectorExpr}
use Rattle.vital_operands.specs.declared.tree.VectorExpr.TheVariants as vector'
use Rattle.vital_primitives.specs.Operators.{converted, first, negated, operated}
use Rattle.vital_primitives.specs.Primitives.{primitive}
use Rattle.vital_typed_cells.specs.Expressions.{Names, call_step, level, level_of, level_step, results, rows_of, truth_results, vector, vector_step}

level-roll : (e : Names) (l : LevelExpr-F LevelExpr VectorExpr TruthTableCall) → level e (roll-LevelExpr l) ≡ level_step e (map-LevelExpr LevelExpr VectorExpr TruthTableCall Level (List Level) (ℕ → List Level) (level e) (vector e) (results e) l)
unfolding level vector results
level-roll e l = fold-roll-LevelExpr Level (List Level) (ℕ → List Level) (level_step e) (vector_step e) (call_step e) l

vector-roll : (e : Names) (l : VectorExpr-F LevelExpr VectorExpr TruthTableCall) → vector e (roll-VectorExpr l) ≡ vector_step e (map-VectorExpr LevelExpr VectorExpr TruthTableCall Level (List Level) (ℕ → List Level) (level e) (vector e) (results e) l)
unfolding level vector results
vector-roll e l = fold-roll-VectorExpr Level (List Level) (ℕ → List Level) (level_step e) (vector_step e) (call_step e) l

-- ---- levels

pub level-literal : (e : Names) (l : Level) → level e (level'.Literal l) ≡ l
level-literal e l = ap (level e) (sym (level'.rolls-Literal l)) ∙ level-roll e (LevelExpr-F.LevelExpr::Literal l)

pub level-signal : (e : Names) (name : List ℕ) → level e (level'.Signal name) ≡ e.signal name
level-signal e name = ap (level e) (sym (level'.rolls-Signal name)) ∙ level-roll e (LevelExpr-F.Signal name)

pub level-variable : (e : Names) (name : List ℕ) → level e (level'.Variable name) ≡ first (e.variable name)
level-variable e name = ap (level e) (sym (level'.rolls-Variable name)) ∙ level-roll e (LevelExpr-F.LevelExpr::Variable name)

pub level-element : (e : Names) (name : List ℕ) (n : ℕ) → level e (level'.Element name n) ≡ slice_index_or (e.variable name) n U
level-element e name n = ap (level e) (sym (level'.rolls-Element name n)) ∙ level-roll e (LevelExpr-F.Element name n)

pub level-constant : (e : Names) (name : ConstantName) → level e (level'.Constant name) ≡ level_of (e.constant name)
level-constant e name = ap (level e) (sym (level'.rolls-Constant name)) ∙ level-roll e (LevelExpr-F.Constant name)

pub level-not : (e : Names) (t : LevelExpr) → level e (level'.Not t) ≡ negated (level e t)
level-not e t = ap (level e) (sym (level'.rolls-Not t)) ∙ level-roll e (LevelExpr-F.Not t)

pub level-logical : (e : Names) (o : Logical) (ts : List LevelExpr) → level e (level'.Logical o ts) ≡ operated o (map (level e) ts)
level-logical e o ts = ap (level e) (sym (level'.rolls-Logical o ts)) ∙ level-roll e (LevelExpr-F.Logical o ts)

pub level-primitive : (e : Names) (p : Primitive) (ts : List LevelExpr) → level e (level'.Primitive p ts) ≡ primitive p (map (level e) ts)
level-primitive e p ts = ap (level e) (sym (level'.rolls-Primitive p ts)) ∙ level-roll e (LevelExpr-F.Primitive p ts)

pub level-conversion : (e : Names) (c : Conversion) (t : LevelExpr) → level e (level'.Conversion c t) ≡ converted c (level e t)
level-conversion e c t = ap (level e) (sym (level'.rolls-Conversion c t)) ∙ level-roll e (LevelExpr-F.Conversion c t)

pub level-results : (e : Names) (call : TruthTableCall) → level e (level'.TruthTable call) ≡ first (results e call 1)
level-results e call = ap (level e) (sym (level'.rolls-TruthTable call)) ∙ level-roll e (LevelExpr-F.LevelExpr::TruthTable call)

-- ---- vectors

pub vector-variable : (e : Names) (name : List ℕ) (n : ℕ) → vector e (vector'.Variable name n) ≡ e.variable name
vector-variable e name n = ap (vector e) (sym (vector'.rolls-Variable name n)) ∙ vector-roll e (VectorExpr-F.VectorExpr::Variable name n)

pub vector-levels : (e : Names) (ts : List LevelExpr) → vector e (vector'.Levels ts) ≡ map (level e) ts
vector-levels e ts = ap (vector e) (sym (vector'.rolls-Levels ts)) ∙ vector-roll e (VectorExpr-F.Levels ts)

pub vector-others : (e : Names) (t : LevelExpr) (n : ℕ) → vector e (vector'.Others t n) ≡ replicate n (level e t)
vector-others e t n = ap (vector e) (sym (vector'.rolls-Others t n)) ∙ vector-roll e (VectorExpr-F.Others t n)

pub vector-literal : (e : Names) (ls : List Level) → vector e (vector'.Literal ls) ≡ ls
vector-literal e ls = ap (vector e) (sym (vector'.rolls-Literal ls)) ∙ vector-roll e (VectorExpr-F.VectorExpr::Literal ls)

pub vector-results : (e : Names) (call : TruthTableCall) (n : ℕ) → vector e (vector'.TruthTable call n) ≡ results e call n
vector-results e call n = ap (vector e) (sym (vector'.rolls-TruthTable call n)) ∙ vector-roll e (VectorExpr-F.VectorExpr::TruthTable call n)

-- ---- calls

pub results-of : (e : Names) (call : TruthTableCall) (n : ℕ) → results e call n ≡ truth_results (rows_of (e.constant (out-TruthTableCall call).table)) (vector e (out-TruthTableCall call).inputs) n
unfolding results vector
results-of e call n = ap (λ f. f n) (fold_out-TruthTableCall Level (List Level) (ℕ → List Level) (level_step e) (vector_step e) (call_step e) call)

pub ruleset worths = (level-literal, level-signal, level-variable, level-element, level-constant, level-not, level-logical, level-primitive, level-conversion, level-results, vector-variable, vector-levels, vector-others, vector-literal, vector-results, results-of)
