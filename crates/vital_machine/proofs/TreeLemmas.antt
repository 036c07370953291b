-- What numbered trees of one layer are worth.
use Rattle.std.proofs.Common.{◌≡◌, ℕ, List, map, replicate, ap, sym, ◌∙◌}
use Rattle.std.specs.Prelude.{Bool, false, not, take, unwrap_or}
use Rattle.std.specs.List.{reduce, slice_index_or}
use Rattle.vital_machine.specs.declared.trees.LevelTree.{LevelTree}
use Rattle.vital_machine.specs.declared.trees.LevelTree.TheFolds.{fold-roll-LevelTree, fold-roll-VectorTree, fold_out-TableTree, map-LevelTree, map-VectorTree}
use Rattle.vital_machine.specs.declared.trees.LevelTree.TheOpen.{LevelTree-F, VectorTree-F}
use Rattle.vital_machine.specs.declared.trees.LevelTree.TheVariants as level'
use Rattle.vital_machine.specs.declared.trees.LevelTree.TheViews.{roll-LevelTree, roll-VectorTree}
use Rattle.vital_machine.specs.declared.trees.TableTree.{TableTree, out-TableTree}
use Rattle.vital_machine.specs.declared.trees.TruthTree.{TruthTree}
use Rattle.vital_machine.specs.declared.trees.TruthTree.TheFolds.{fold-roll-TruthTree, map-TruthTree}
use Rattle.vital_machine.specs.declared.trees.TruthTree.TheOpen.{TruthTree-F}
use Rattle.vital_machine.specs.declared.trees.TruthTree.TheVariants as truth'
use Rattle.vital_machine.specs.declared.trees.TruthTree.TheViews.{roll-TruthTree}
use Rattle.vital_machine.specs.declared.trees.VectorTree.{VectorTree}
use Rattle.vital_machine.specs.declared.trees.VectorTree.TheVariants as vector'
use Rattle.vital_machine.specs.Seen.{Seen, bit}
use Rattle.vital_machine.specs.Slots.{levels_at}
use Rattle.vital_machine.specs.Trees.{level, level_step, results, table_step, truth, truth_step, vector, vector_step}
use Rattle.vital_machine.specs.TruthTables.{fitted, results_for}
use Rattle.vital_logic.specs.declared.level.Level.{Level}
use Rattle.vital_logic.specs.declared.level.Level.TheVariants.{U}
use Rattle.vital_names.specs.declared.predeclared.Conversion.{Conversion}
use Rattle.vital_names.specs.declared.predeclared.Primitive.{Primitive}
use Rattle.vital_nodes.specs.declared.expr.Logical.{Logical}
use Rattle.vital_primitives.specs.Operators.{converted, negated, operated}
use Rattle.vital_primitives.specs.Primitives.{primitive}
use Rattle.vital_primitives.specs.Operators.{first, same_level, same_truth, truth2}

level-roll : (s : Seen) (l : LevelTree-F LevelTree VectorTree TableTree) → level s (roll-LevelTree l) ≡ level_step s (map-LevelTree LevelTree VectorTree TableTree Level (List Level) (List Level) (level s) (vector s) (results s) l)
unfolding level vector results
level-roll s l = fold-roll-LevelTree Level (List Level) (List Level) (level_step s) (vector_step s) (table_step s) l

vector-roll : (s : Seen) (l : VectorTree-F LevelTree VectorTree TableTree) → vector s (roll-VectorTree l) ≡ vector_step s (map-VectorTree LevelTree VectorTree TableTree Level (List Level) (List Level) (level s) (vector s) (results s) l)
unfolding level vector results
vector-roll s l = fold-roll-VectorTree Level (List Level) (List Level) (level_step s) (vector_step s) (table_step s) l

-- ---- levels

pub level-literal : (s : Seen) (l : Level) → level s (level'.Literal l) ≡ l
level-literal s l = ap (level s) (sym (level'.rolls-Literal l)) ∙ level-roll s (LevelTree-F.LevelTree::Literal l)

pub level-bit : (s : Seen) (n : ℕ) → level s (level'.Bit n) ≡ bit s n
level-bit s n = ap (level s) (sym (level'.rolls-Bit n)) ∙ level-roll s (LevelTree-F.Bit n)

pub level-element : (s : Seen) (n k : ℕ) → level s (level'.Element n k) ≡ slice_index_or (levels_at s.slots n) k U
level-element s n k = ap (level s) (sym (level'.rolls-Element n k)) ∙ level-roll s (LevelTree-F.Element n k)

pub level-not : (s : Seen) (t : LevelTree) → level s (level'.Not t) ≡ negated (level s t)
level-not s t = ap (level s) (sym (level'.rolls-Not t)) ∙ level-roll s (LevelTree-F.Not t)

pub level-logical : (s : Seen) (o : Logical) (ts : List LevelTree) → level s (level'.Logical o ts) ≡ operated o (map (level s) ts)
level-logical s o ts = ap (level s) (sym (level'.rolls-Logical o ts)) ∙ level-roll s (LevelTree-F.Logical o ts)

pub level-primitive : (s : Seen) (p : Primitive) (ts : List LevelTree) → level s (level'.Primitive p ts) ≡ primitive p (take 4 (map (level s) ts))
level-primitive s p ts = ap (level s) (sym (level'.rolls-Primitive p ts)) ∙ level-roll s (LevelTree-F.Primitive p ts)

pub level-conversion : (s : Seen) (c : Conversion) (t : LevelTree) → level s (level'.Conversion c t) ≡ converted c (level s t)
level-conversion s c t = ap (level s) (sym (level'.rolls-Conversion c t)) ∙ level-roll s (LevelTree-F.Conversion c t)

pub level-result : (s : Seen) (call : TableTree) → level s (level'.FirstResult call) ≡ first (results s call)
level-result s call = ap (level s) (sym (level'.rolls-FirstResult call)) ∙ level-roll s (LevelTree-F.FirstResult call)

-- ---- vectors

pub vector-variable : (s : Seen) (n : ℕ) → vector s (vector'.Variable n) ≡ levels_at s.slots n
vector-variable s n = ap (vector s) (sym (vector'.rolls-Variable n)) ∙ vector-roll s (VectorTree-F.Variable n)

pub vector-levels : (s : Seen) (ts : List LevelTree) → vector s (vector'.Levels ts) ≡ map (level s) ts
vector-levels s ts = ap (vector s) (sym (vector'.rolls-Levels ts)) ∙ vector-roll s (VectorTree-F.Levels ts)

pub vector-others : (s : Seen) (t : LevelTree) (n : ℕ) → vector s (vector'.Others t n) ≡ replicate n (level s t)
vector-others s t n = ap (vector s) (sym (vector'.rolls-Others t n)) ∙ vector-roll s (VectorTree-F.Others t n)

pub vector-literal : (s : Seen) (ls : List Level) → vector s (vector'.Literal ls) ≡ ls
vector-literal s ls = ap (vector s) (sym (vector'.rolls-Literal ls)) ∙ vector-roll s (VectorTree-F.VectorTree::Literal ls)

pub vector-results : (s : Seen) (call : TableTree) → vector s (vector'.Results call) ≡ results s call
vector-results s call = ap (vector s) (sym (vector'.rolls-Results call)) ∙ vector-roll s (VectorTree-F.Results call)

-- ---- calls

pub results-of : (s : Seen) (call : TableTree) → results s call ≡ results_for (out-TableTree call).table (fitted (out-TableTree call).table.inputs (vector s (out-TableTree call).inputs))
unfolding results vector
results-of s call = fold_out-TableTree Level (List Level) (List Level) (level_step s) (vector_step s) (table_step s) call

-- ---- truth values

truth-roll : (s : Seen) (t : TruthTree-F TruthTree) → truth s (roll-TruthTree t) ≡ truth_step s (map-TruthTree TruthTree Bool (truth s) t)
unfolding truth
truth-roll s t = fold-roll-TruthTree Bool (truth_step s) t

pub truth-literal : (s : Seen) (b : Bool) → truth s (truth'.Literal b) ≡ b
truth-literal s b = ap (truth s) (sym (truth'.rolls-Literal b)) ∙ truth-roll s (TruthTree-F.Literal b)

pub truth-same_levels : (s : Seen) (l r : LevelTree) → truth s (truth'.SameLevels l r) ≡ same_level (level s l) (level s r)
truth-same_levels s l r = ap (truth s) (sym (truth'.rolls-SameLevels l r)) ∙ truth-roll s (TruthTree-F.SameLevels l r)

pub truth-other_levels : (s : Seen) (l r : LevelTree) → truth s (truth'.OtherLevels l r) ≡ not (same_level (level s l) (level s r))
truth-other_levels s l r = ap (truth s) (sym (truth'.rolls-OtherLevels l r)) ∙ truth-roll s (TruthTree-F.OtherLevels l r)

pub truth-same : (s : Seen) (l r : TruthTree) → truth s (truth'.Same l r) ≡ same_truth (truth s l) (truth s r)
truth-same s l r = ap (truth s) (sym (truth'.rolls-Same l r)) ∙ truth-roll s (TruthTree-F.Same l r)

pub truth-other : (s : Seen) (l r : TruthTree) → truth s (truth'.Other l r) ≡ not (same_truth (truth s l) (truth s r))
truth-other s l r = ap (truth s) (sym (truth'.rolls-Other l r)) ∙ truth-roll s (TruthTree-F.Other l r)

pub truth-not : (s : Seen) (t : TruthTree) → truth s (truth'.Not t) ≡ not (truth s t)
truth-not s t = ap (truth s) (sym (truth'.rolls-Not t)) ∙ truth-roll s (TruthTree-F.Not t)

pub truth-logical : (s : Seen) (o : Logical) (ts : List TruthTree) → truth s (truth'.Logical o ts) ≡ unwrap_or (reduce (truth2 o) (map (truth s) ts)) false
truth-logical s o ts = ap (truth s) (sym (truth'.rolls-Logical o ts)) ∙ truth-roll s (TruthTree-F.Logical o ts)

pub ruleset worths = (level-literal, level-bit, level-element, level-not, level-logical, level-primitive, level-conversion, level-result, vector-variable, vector-levels, vector-others, vector-literal, vector-results, results-of)

pub ruleset truths = (truth-literal, truth-same_levels, truth-other_levels, truth-same, truth-other, truth-not, truth-logical)
