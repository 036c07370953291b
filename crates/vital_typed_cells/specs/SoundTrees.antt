-- Expressions in which each name is that of a constant of a package that is worth what is asked of it, and in which each table fits the
-- call that names it.
use Rattle.std.specs.Prelude.{ℕ, Bool, List, Option}
use Rattle.vital_objects.specs.declared.package_value.PackageValue.{PackageValue}
use Rattle.vital_operands.specs.declared.tree.LevelExpr.{LevelExpr}
use Rattle.vital_operands.specs.declared.tree.LevelExpr.TheFolds.{fold-TruthTableCall}
use Rattle.vital_operands.specs.declared.tree.TruthTableCall.{TruthTableCall}
use Rattle.vital_operands.specs.declared.tree.VectorExpr.{VectorExpr}
use Rattle.vital_typed_cells.specs.SoundDeclarations.{names_in_packages}
use Rattle.vital_typed_cells.specs.Trees.{call_step, is_sound_level, level_step, vector_step, vector_worth}

unfoldable pub is_sound_tree : List (Option PackageValue) → LevelExpr → Bool
is_sound_tree vs t = is_sound_level (names_in_packages vs) t

-- A vector of any length.
unfoldable pub is_sound_vector : List (Option PackageValue) → VectorExpr → Bool
is_sound_vector vs v = (vector_worth (names_in_packages vs) v).0

-- A call for so many results.
unfoldable pub is_sound_call : List (Option PackageValue) → TruthTableCall → ℕ → Bool
is_sound_call vs =
    let s = names_in_packages vs in
    fold-TruthTableCall Bool (Bool × ℕ) (ℕ → Bool) (level_step s) (vector_step s) (call_step s)
