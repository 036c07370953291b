-- Bytes in lower case, as std folds them.
use Rattle.std.proofs.Common.{◌≡◌, ℕ, List, [], ◌∷◌, map, refl, ap, ◌∙◌, arith}
use Rattle.std.specs.Char.{to_ascii_lowercase}
use Rattle.vital_vhdl_lexemes.specs.Bytes.{lower_case}

lower_case_is : (b : ℕ) → to_ascii_lowercase b ≡ lower_case b
lower_case_is b = grind arith

pub map_lower_case : (bytes : List ℕ) → map to_ascii_lowercase bytes ≡ map lower_case bytes
map_lower_case [] = refl
map_lower_case (b ∷ bytes) = ap (λ (x : ℕ). x ∷ map to_ascii_lowercase bytes) (lower_case_is b) ∙ ap (λ (xs : List ℕ). lower_case b ∷ xs) (map_lower_case bytes)
