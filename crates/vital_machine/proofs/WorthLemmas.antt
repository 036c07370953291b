-- What trees are worth by what is found of their parts.
use Rattle.std.proofs.Common.{◌≡◌, ℕ, List, [], ap, sym, ◌∙◌}
use Rattle.std.specs.Prelude.{Option}
use Rattle.std.specs.List.{slice_index_or}
use Rattle.vital_machine.specs.declared.trees.LevelTree.{LevelTree}
use Rattle.vital_machine.specs.declared.trees.LevelTree.TheVariants as level'
use Rattle.vital_machine.specs.declared.trees.TableTree.{TableTree, out-TableTree}
use Rattle.vital_machine.specs.declared.trees.VectorTree.{VectorTree}
use Rattle.vital_machine.specs.declared.trees.VectorTree.TheVariants as vector'
use Rattle.vital_machine.specs.Seen.{Seen}
use Rattle.vital_machine.specs.Slots.{levels_at}
use Rattle.vital_machine.specs.Trees.{level, results, vector}
use Rattle.vital_machine.specs.TruthTables.{fitted, results_by}
use Rattle.vital_machine.proofs.TreeLemmas.{level-result, results-of, vector-results, vector-variable}
use Rattle.vital_logic.specs.declared.level.Level.{Level}
use Rattle.vital_logic.specs.declared.level.Level.TheVariants.{U}
use Rattle.vital_table.specs.Matches.{first_row}

-- The inputs of a call.
abbrev pub inputs_of : Seen → TableTree → List Level
inputs_of s d = fitted (out-TableTree d).table.inputs (vector s (out-TableTree d).inputs)

row-results : (s : Seen) (d : TableTree) (row : Option ℕ) → row ≡ first_row (out-TableTree d).table (inputs_of s d) (inputs_of s d) [] → results_by (out-TableTree d).table row ≡ results s d
row-results s d row found = ap (results_by (out-TableTree d).table) found ∙ sym (results-of s d)

pub first-worth : (s : Seen) (tree : LevelTree) (call d : TableTree) (row : Option ℕ) (l : Level) → tree ≡ level'.FirstResult call → d ≡ call → row ≡ first_row (out-TableTree d).table (inputs_of s d) (inputs_of s d) [] → l ≡ slice_index_or (results_by (out-TableTree d).table row) 0 U → l ≡ level s tree
first-worth s tree call d row l is same found by =
    by ∙ ap (λ ls. slice_index_or ls 0 U) (row-results s d row found ∙ ap (results s) same) ∙ sym (level-result s call) ∙ sym (ap (level s) is)

pub results-worth : (s : Seen) (tree : VectorTree) (call d : TableTree) (row : Option ℕ) → tree ≡ vector'.Results call → d ≡ call → row ≡ first_row (out-TableTree d).table (inputs_of s d) (inputs_of s d) [] → results_by (out-TableTree d).table row ≡ vector s tree
results-worth s tree call d row is same found = row-results s d row found ∙ ap (results s) same ∙ sym (vector-results s call) ∙ sym (ap (vector s) is)

pub variable-worth : (s : Seen) (tree : VectorTree) (n : ℕ) (ls : List Level) → tree ≡ vector'.Variable n → ls ≡ levels_at s.slots n → ls ≡ vector s tree
variable-worth s tree n ls is held = held ∙ sym (vector-variable s n) ∙ sym (ap (vector s) is)
