-- What trees are worth in which numbers stand for names.
use Rattle.std.specs.Prelude.{Bool, false, not, List, replicate, take, unwrap_or}
use Rattle.std.specs.List.{reduce, slice_index_or}
use Rattle.vital_machine.specs.declared.trees.LevelTree.{LevelTree}
use Rattle.vital_machine.specs.declared.trees.LevelTree.TheFolds.{fold-LevelTree, fold-TableTree, fold-VectorTree}
use Rattle.vital_machine.specs.declared.trees.LevelTree.TheOpen.{LevelTree-F, TableTree-F, VectorTree-F}
use Rattle.vital_machine.specs.declared.trees.TableTree.{TableTree}
use Rattle.vital_machine.specs.declared.trees.TruthTree.{TruthTree}
use Rattle.vital_machine.specs.declared.trees.TruthTree.TheFolds.{fold-TruthTree}
use Rattle.vital_machine.specs.declared.trees.TruthTree.TheOpen.{TruthTree-F}
use Rattle.vital_machine.specs.declared.trees.VectorTree.{VectorTree}
use Rattle.vital_machine.specs.Seen.{Seen, bit}
use Rattle.vital_machine.specs.Slots.{levels_at}
use Rattle.vital_machine.specs.TruthTables.{fitted, results_for}
use Rattle.vital_primitives.specs.Operators.{first, same_level, same_truth, truth2}
use Rattle.vital_logic.specs.declared.level.Level.{Level}
use Rattle.vital_logic.specs.declared.level.Level.TheVariants.{U}
use Rattle.vital_primitives.specs.Operators.{converted, negated, operated}
use Rattle.vital_primitives.specs.Primitives.{primitive}

-- ---- levels and vectors

-- A level, a vector and the results of a table.
abbrev pub LevelStep : Type 0
LevelStep = LevelTree-F Level (List Level) (List Level)

abbrev pub VectorStep : Type 0
VectorStep = VectorTree-F Level (List Level) (List Level)

abbrev pub TableStep : Type 0
TableStep = TableTree-F Level (List Level) (List Level)

abbrev pub level_step : Seen → LevelStep → Level
level_step s (LevelTree-F.LevelTree::Literal l) = l
level_step s (LevelTree-F.Bit number) = bit s number
level_step s (LevelTree-F.Element number n) = slice_index_or (levels_at s.slots number) n U
level_step s (LevelTree-F.Not l) = negated l
level_step s (LevelTree-F.Logical operator ls) = operated operator ls
level_step s (LevelTree-F.Primitive p ls) = primitive p (take 4 ls)
level_step s (LevelTree-F.Conversion c l) = converted c l
level_step s (LevelTree-F.FirstResult results) = first results

abbrev pub vector_step : Seen → VectorStep → List Level
vector_step s (VectorTree-F.Variable number) = levels_at s.slots number
vector_step s (VectorTree-F.Levels ls) = ls
vector_step s (VectorTree-F.Others l n) = replicate n l
vector_step s (VectorTree-F.VectorTree::Literal ls) = ls
vector_step s (VectorTree-F.Results results) = results

abbrev pub table_step : Seen → TableStep → List Level
table_step s t = results_for t.table (fitted t.table.inputs t.inputs)

unfoldable pub level : Seen → LevelTree → Level
level s = fold-LevelTree Level (List Level) (List Level) (level_step s) (vector_step s) (table_step s)

unfoldable pub vector : Seen → VectorTree → List Level
vector s = fold-VectorTree Level (List Level) (List Level) (level_step s) (vector_step s) (table_step s)

unfoldable pub results : Seen → TableTree → List Level
results s = fold-TableTree Level (List Level) (List Level) (level_step s) (vector_step s) (table_step s)

-- ---- truth values

abbrev pub truth_step : Seen → TruthTree-F Bool → Bool
truth_step s (TruthTree-F.Literal b) = b
truth_step s (TruthTree-F.SameLevels l r) = same_level (level s l) (level s r)
truth_step s (TruthTree-F.OtherLevels l r) = not (same_level (level s l) (level s r))
truth_step s (TruthTree-F.Same l r) = same_truth l r
truth_step s (TruthTree-F.Other l r) = not (same_truth l r)
truth_step s (TruthTree-F.Not b) = not b
truth_step s (TruthTree-F.Logical operator bs) = unwrap_or (reduce (truth2 operator) bs) false

unfoldable pub truth : Seen → TruthTree → Bool
truth s = fold-TruthTree Bool (truth_step s)
