-- The levels of a vector in which nothing is named but constants and generics.
use Rattle.std.proofs.Common.{◌≡◌, ℕ, true, [], length, sym, ◌∙◌, ap}
use Rattle.std.specs.Prelude.{◌==◌}
use Rattle.std.proofs.lemmas.Bool.{eqb-true, false≢true}
use Rattle.vital_machine.specs.declared.trees.VectorTree.{VectorTree}
use Rattle.vital_machine.specs.Trees as N
use Rattle.vital_machine.specs.TruthTables.{fitted}
use Rattle.vital_machine.proofs.FitLemmas.{fitted-whole}
use Rattle.vital_operands.specs.declared.tree.VectorExpr.{VectorExpr}
use Rattle.vital_typed_cells.specs.Named.{is_vector, variable_is}
use Rattle.vital_typed_cells.specs.Trees.{is_sound_vector, vector_worth}
use Rattle.vital_cell.specs.Scopes.{Scope, names_at, names_of}
use Rattle.vital_cell.specs.Sound.{tests}
use Rattle.vital_cell.specs.StandsFor.{Fits, IsVector}
use Rattle.vital_cell.proofs.SoundLemmas.{first-holds, second-holds, vector-length}
use Rattle.vital_cell.proofs.StandLemmas.{vector-long}
use Rattle.vital_cell.proofs.ValueLemmas.{nothing, vector-known}
use Rattle.vital_typed_cells.specs.Expressions as T

fits-nothing : (k : Scope) → k.variables ≡ [] → Fits k nothing
fits-nothing k none = λ name n is. absurd (false≢true (sym (ap (λ vs. variable_is (is_vector n) vs name) none) ∙ is))

-- A vector of so many elements stays as it is where it is put to as many.
pub vector-fitted : (k : Scope) (x : VectorTree) (e : VectorExpr) (n : ℕ) → k.variables ≡ [] → IsVector k x e → is_sound_vector (tests k) n e ≡ true → fitted n (N.vector nothing x) ≡ T.vector (names_at k [] []) e
vector-fitted k x e n none is sound =
    let w = vector_worth (tests k) e in
    let ls = T.vector (names_of k nothing) e in
    let same : N.vector nothing x ≡ ls = is nothing (fits-nothing k none) in
    let long : length ls ≡ n = vector-long k nothing (fits-nothing k none) e (first-holds w.0 (w.1 == n) sound) ∙ sym (vector-length (tests k) e) ∙ eqb-true w.1 n (second-holds w.0 (w.1 == n) sound) in
    ap (fitted n) same ∙ fitted-whole n ls long ∙ sym same ∙ vector-known k x e none is
