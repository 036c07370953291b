-- The rows that match, as what columns have in common.
use Rattle.std.proofs.Common.{◌≡◌, ℕ, suc, ◌+◌, Bool, true, ◌&&◌, List, [], ◌∷◌, Option, Some, None, cond, eqb, length, position, ap, sym, ◌∙◌, fold, map, zip, arith}
use Rattle.std.specs.Prelude.{slice_index}
use Rattle.std.specs.Int.Bits.{bit_and}
use Rattle.std.specs.Int.Count.{count_trailing_zeros}
use Rattle.std.specs.Simd.Lanes.{mask_l}
use Rattle.std.proofs.Math.Bool.{and-true, and_assoc}
use Rattle.vital_logic.specs.declared.level.Level.{Level}
use Rattle.vital_table.specs.declared.masks.ChangeMasks.{ChangeMasks}
use Rattle.vital_table.specs.declared.masks.LevelMasks.{LevelMasks}
use Rattle.vital_table.specs.Masks.{AreInputColumns, AreMasks, AreStateColumns, change_mask_at, mask_at}
use Rattle.vital_table.specs.Matches.{first_row, input_matches, inputs_match, level_matches, row_matches, states_match, x01}
use Rattle.vital_table.specs.Tables.{Table}
use Rattle.vital_table.proofs.RowMasks.{lowest_bit, mask-and, mask_same}

abbrev pub with_input : ℕ → ChangeMasks × (Level × Level) → ℕ
with_input rows c = bit_and rows (change_mask_at c.0 c.1.0 c.1.1)

abbrev pub with_state : ℕ → LevelMasks × Level → ℕ
with_state rows c = bit_and rows (mask_at c.0 c.1)

same_rest : (a b : ℕ) → suc a ≡ suc b → a ≡ b
same_rest a b e = omega arith

folded_inputs : (rows : List (List ℕ)) (column : ℕ) (test : List ℕ → Bool) (columns : List ChangeMasks) (old new : List Level) →
    AreInputColumns rows column columns → length old ≡ length columns → length new ≡ length columns →
    fold with_input (mask_l (map test rows)) (zip columns (zip old new)) ≡ mask_l (map (λ row. test row && inputs_match column (zip old new) row) rows)
folded_inputs rows column test [] [] new are olds news = mask_same test (λ row. test row && true) rows (λ row. sym (and-true (test row)))
folded_inputs rows column test [] (o ∷ old) new are olds news = absurd (let e : suc (length old) ≡ 0 = olds in omega arith)
folded_inputs rows column test (c ∷ columns) [] new are olds news = absurd (let e : 0 ≡ suc (length columns) = olds in omega arith)
folded_inputs rows column test (c ∷ columns) (o ∷ old) [] are olds news = absurd (let e : 0 ≡ suc (length columns) = news in omega arith)
folded_inputs rows column test (c ∷ columns) (o ∷ old) (n ∷ new) are olds news =
    let matches : List ℕ → Bool = λ row. input_matches (slice_index row column) (x01 o) (x01 n) in
    ap (λ (k : ℕ). fold with_input k (zip columns (zip old new))) (ap (λ (k : ℕ). bit_and (mask_l (map test rows)) k) (are.0 o n) ∙ mask-and test matches rows)
    ∙ folded_inputs rows (column + 1) (λ row. test row && matches row) columns old new are.1 (same_rest (length old) (length columns) olds) (same_rest (length new) (length columns) news)
    ∙ mask_same (λ row. (test row && matches row) && inputs_match (column + 1) (zip old new) row) (λ row. test row && inputs_match column (zip (o ∷ old) (n ∷ new)) row) rows
    (λ row. and_assoc (test row) (matches row) (inputs_match (column + 1) (zip old new) row))

folded_states : (rows : List (List ℕ)) (column : ℕ) (test : List ℕ → Bool) (columns : List LevelMasks) (state : List Level) →
    AreStateColumns rows column columns → length state ≡ length columns →
    fold with_state (mask_l (map test rows)) (zip columns state) ≡ mask_l (map (λ row. test row && states_match column state row) rows)
folded_states rows column test [] [] are states = mask_same test (λ row. test row && true) rows (λ row. sym (and-true (test row)))
folded_states rows column test [] (s ∷ state) are states = absurd (let e : suc (length state) ≡ 0 = states in omega arith)
folded_states rows column test (c ∷ columns) [] are states = absurd (let e : 0 ≡ suc (length columns) = states in omega arith)
folded_states rows column test (c ∷ columns) (s ∷ state) are states =
    let matches : List ℕ → Bool = λ row. level_matches (slice_index row column) (x01 s) in
    ap (λ (k : ℕ). fold with_state k (zip columns state)) (ap (λ (k : ℕ). bit_and (mask_l (map test rows)) k) (are.0 s) ∙ mask-and test matches rows)
    ∙ folded_states rows (column + 1) (λ row. test row && matches row) columns state are.1 (same_rest (length state) (length columns) states)
    ∙ mask_same (λ row. (test row && matches row) && states_match (column + 1) state row) (λ row. test row && states_match column (s ∷ state) row) rows
    (λ row. and_assoc (test row) (matches row) (states_match (column + 1) state row))

-- the rows that all columns let match
pub matching : (rows : List (List ℕ)) (inputs : List ChangeMasks) (states : List LevelMasks) (all : ℕ) (old new state : List Level) (of_inputs of_states : ℕ) →
    AreMasks rows inputs states all → length old ≡ length inputs → length new ≡ length inputs → length state ≡ length states →
    of_inputs ≡ fold with_input all (zip inputs (zip old new)) → of_states ≡ fold with_state of_inputs (zip states state) →
    of_states ≡ mask_l (map (row_matches (length inputs) old new state) rows)
matching rows inputs states all old new state of_inputs of_states are olds news count first second =
    let some : of_inputs ≡ mask_l (map (λ row. inputs_match 0 (zip old new) row) rows) =
    first
    ∙ ap (λ (k : ℕ). fold with_input k (zip inputs (zip old new))) are.of_all
    ∙ folded_inputs rows 0 (λ row. true) inputs old new are.of_inputs olds news in
    second
    ∙ ap (λ (k : ℕ). fold with_state k (zip states state)) some
    ∙ folded_states rows (length inputs) (λ row. inputs_match 0 (zip old new) row) states state are.of_states count

-- the first of them
pub first_is : (t : Table) (inputs : List ChangeMasks) (states : List LevelMasks) (all : ℕ) (old new state : List Level) (of_inputs of_states : ℕ) (found : Option ℕ) →
    AreMasks t.rows inputs states all → t.inputs ≡ length inputs → t.states ≡ length states →
    length old ≡ t.inputs → length new ≡ t.inputs → length state ≡ t.states →
    of_inputs ≡ fold with_input all (zip inputs (zip old new)) → of_states ≡ fold with_state of_inputs (zip states state) →
    found ≡ cond (eqb of_states 0) None (Some (count_trailing_zeros 128 of_states)) → found ≡ first_row t old new state
first_is t inputs states all old new state of_inputs of_states found are ins sts olds news count first second is =
    is
    ∙ lowest_bit (row_matches (length inputs) old new state) t.rows of_states are.few
    (matching t.rows inputs states all old new state of_inputs of_states are (olds ∙ ins) (news ∙ ins) (count ∙ sts) first second)
    ∙ ap (λ (k : ℕ). position (row_matches k old new state) t.rows) (sym ins)
