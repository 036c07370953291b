-- Masks of columns.
use Rattle.std.proofs.Common.{◌≡◌, ℕ, suc, ◌+◌, Bool, List, [], ◌∷◌, ◌++◌, length, subst, arith}
use Rattle.std.specs.Prelude.{slice_index}
use Rattle.vital_logic.specs.declared.level.Level.{Level}
use Rattle.vital_logic.specs.declared.level.Level.TheVariants.{U, X, Zero, One, Z, W, L, H, Dash}
use Rattle.vital_table.specs.declared.masks.ChangeMasks.{ChangeMasks}
use Rattle.vital_table.specs.declared.masks.LevelMasks.{LevelMasks}
use Rattle.vital_table.specs.Masks.{AreFor, AreInputColumns, AreStateColumns, IsInputColumn, IsStateColumn, mask_for, mask_of, masks_from}
use Rattle.vital_table.specs.Matches.{input_matches, level_matches, x01}

-- what holds of X, 0 and 1 holds of each level without its strength
by_x01 : (P : Level → Type 0) → P X → P Zero → P One → (level : Level) → P (x01 level)
by_x01 P x zero one U = x
by_x01 P x zero one X = x
by_x01 P x zero one Zero = zero
by_x01 P x zero one One = one
by_x01 P x zero one Z = x
by_x01 P x zero one W = x
by_x01 P x zero one L = zero
by_x01 P x zero one H = one
by_x01 P x zero one Dash = x

of_each : (rows : List (List ℕ)) (passes : Level → List ℕ → Bool) (masks : LevelMasks) → AreFor rows passes masks → (level : Level) → mask_for masks (x01 level) ≡ mask_of (passes (x01 level)) rows
of_each rows passes masks are level = by_x01 (λ (l : Level). mask_for masks l ≡ mask_of (passes l) rows) are.x are.zero are.one level

pub state_column_is : (rows : List (List ℕ)) (column : ℕ) (masks : LevelMasks) → AreFor rows (λ level row. level_matches (slice_index row column) level) masks → IsStateColumn rows column masks
state_column_is rows column masks are = of_each rows (λ level row. level_matches (slice_index row column) level) masks are

pub input_column_is : (rows : List (List ℕ)) (column : ℕ) (masks : ChangeMasks) →
    AreFor rows (λ new row. input_matches (slice_index row column) X new) masks.from_x →
    AreFor rows (λ new row. input_matches (slice_index row column) Zero new) masks.from_zero →
    AreFor rows (λ new row. input_matches (slice_index row column) One new) masks.from_one →
    IsInputColumn rows column masks
input_column_is rows column masks x zero one =
    λ old new.
    by_x01 (λ (o : Level). mask_for (masks_from masks o) (x01 new) ≡ mask_of (λ row. input_matches (slice_index row column) o (x01 new)) rows)
    (of_each rows (λ n row. input_matches (slice_index row column) X n) masks.from_x x new)
    (of_each rows (λ n row. input_matches (slice_index row column) Zero n) masks.from_zero zero new)
    (of_each rows (λ n row. input_matches (slice_index row column) One n) masks.from_one one new)
    old

-- ---- one more column

pub inputs_push : (rows : List (List ℕ)) (column : ℕ) (all : List ChangeMasks) (last : ChangeMasks) → AreInputColumns rows column all → IsInputColumn rows (column + length all) last → AreInputColumns rows column (all ++ last ∷ [])
inputs_push rows column [] last are is = (subst (λ (k : ℕ). IsInputColumn rows k last) (let e : column + 0 ≡ column = omega arith in e) is, tt)
inputs_push rows column (masks ∷ all) last are is =
    (are.0, inputs_push rows (column + 1) all last are.1 (subst (λ (k : ℕ). IsInputColumn rows k last) (let e : column + suc (length all) ≡ (column + 1) + length all = omega arith in e) is))

pub states_push : (rows : List (List ℕ)) (column : ℕ) (all : List LevelMasks) (last : LevelMasks) → AreStateColumns rows column all → IsStateColumn rows (column + length all) last → AreStateColumns rows column (all ++ last ∷ [])
states_push rows column [] last are is = (subst (λ (k : ℕ). IsStateColumn rows k last) (let e : column + 0 ≡ column = omega arith in e) is, tt)
states_push rows column (masks ∷ all) last are is =
    (are.0, states_push rows (column + 1) all last are.1 (subst (λ (k : ℕ). IsStateColumn rows k last) (let e : column + suc (length all) ≡ (column + 1) + length all = omega arith in e) is))
