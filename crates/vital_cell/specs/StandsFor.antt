-- When a numbered tree stands for a typed tree: both are worth the same, whatever a process sees and holds.
use Rattle.std.specs.Prelude.{◌≡◌, ℕ, true, not, List, length, map}
use Rattle.vital_machine.specs.declared.trees.LevelTree.{LevelTree}
use Rattle.vital_machine.specs.declared.trees.TableTree.{TableTree}
use Rattle.vital_machine.specs.declared.trees.TruthTree.{TruthTree}
use Rattle.vital_machine.specs.declared.trees.VectorTree.{VectorTree}
use Rattle.vital_machine.specs.Seen.{Seen}
use Rattle.vital_machine.specs.Trees as numbered
use Rattle.vital_operands.specs.declared.tree.BooleanExpr.{BooleanExpr}
use Rattle.vital_operands.specs.declared.tree.LevelExpr.{LevelExpr}
use Rattle.vital_operands.specs.declared.tree.TruthTableCall.{TruthTableCall}
use Rattle.vital_operands.specs.declared.tree.VectorExpr.{VectorExpr}
use Rattle.vital_primitives.specs.Operators.{same_level}
use Rattle.vital_cell.specs.Scopes.{Scope, names_of}
use Rattle.vital_cell.specs.Sound.{has_vector}
use Rattle.vital_typed_cells.specs.Expressions as typed

-- Each vector variable is as long as it was declared.
abbrev pub Fits : Scope → Seen → Type 0
Fits k s = (name : List ℕ) (n : ℕ) → has_vector k name n ≡ true → length ((names_of k s).variable name) ≡ n

abbrev pub IsLevel : Scope → LevelTree → LevelExpr → Type 0
IsLevel k t e = (s : Seen) → Fits k s → numbered.level s t ≡ typed.level (names_of k s) e

abbrev pub AreLevels : Scope → List LevelTree → List LevelExpr → Type 0
AreLevels k ts es = (s : Seen) → Fits k s → map (numbered.level s) ts ≡ map (typed.level (names_of k s)) es

abbrev pub IsVector : Scope → VectorTree → VectorExpr → Type 0
IsVector k t e = (s : Seen) → Fits k s → numbered.vector s t ≡ typed.vector (names_of k s) e

-- The results of a call, of which there are so many.
abbrev pub IsCall : Scope → ℕ → TableTree → TruthTableCall → Type 0
IsCall k n t e = (s : Seen) → Fits k s → numbered.results s t ≡ typed.results (names_of k s) e n

abbrev pub IsTruth : Scope → TruthTree → BooleanExpr → Type 0
IsTruth k t e = (s : Seen) → Fits k s → numbered.truth s t ≡ typed.truth (names_of k s) e

abbrev pub IsSame : Scope → TruthTree → LevelExpr → LevelExpr → Type 0
IsSame k t l r = (s : Seen) → Fits k s → numbered.truth s t ≡ same_level (typed.level (names_of k s) l) (typed.level (names_of k s) r)

abbrev pub IsOther : Scope → TruthTree → LevelExpr → LevelExpr → Type 0
IsOther k t l r = (s : Seen) → Fits k s → numbered.truth s t ≡ not (same_level (typed.level (names_of k s) l) (typed.level (names_of k s) r))

abbrev pub AreTruths : Scope → List TruthTree → List BooleanExpr → Type 0
AreTruths k ts es = (s : Seen) → Fits k s → map (numbered.truth s) ts ≡ map (typed.truth (names_of k s)) es
