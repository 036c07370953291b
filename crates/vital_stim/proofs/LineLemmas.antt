-- The lines of a text, one after another.
use Rattle.memchr.specs.Find.{IsFirstByte, is_byte}
use Rattle.std.proofs.Common.{◌≡◌, ℕ, ◌+◌, ◌-◌, ◌<◌, ◌≤◌, false, List, [], ◌∷◌, length, take, drop, sym, ◌∙◌, ap, arith}
use Rattle.std.specs.Prelude.{Bool, not, cond, Option, Some, None, unwrap_or}
use Rattle.std.specs.List.{position_or_len}
use Rattle.std.proofs.lemmas.Bool.{false_from_ne_true}
use Rattle.std.proofs.lemmas.Grind.{common_steps}
use Rattle.std.proofs.lemmas.List.Splits.{slice_split_none, slice_split_first}
use Rattle.std.proofs.lemmas.List.Sums.{prefix_len-le-length, fails_before_first, position_or_len_is}
use Rattle.vital_stim.specs.Parts.{is_line_end, lines_of}

-- ---- the first LF, or the length
pub is_within : (text : List ℕ) → position_or_len is_line_end text ≤ length text
is_within text = prefix_len-le-length (λ byte. not (is_line_end byte)) text

never : (n : ℕ) → n < n → ⊥
never n less = omega (arith, less)

-- What a search for LF answers, or the length where it finds none.
pub searched : (text : List ℕ) (found : Option ℕ) → IsFirstByte (is_byte 10) text found → unwrap_or found (length text) ≡ position_or_len is_line_end text
searched text None none = sym (position_or_len_is is_line_end text (length text) 0 (omega arith) (λ k below. false_from_ne_true _ (none k (omega arith) below)) (λ lt. elim (never (length text) lt) [ ]))
searched text (Some k) at = sym (position_or_len_is is_line_end text k 0 (omega (arith, at.0.high)) (λ i below. false_from_ne_true _ (at.0.before i (omega arith) below)) (λ lt. at.1))

-- ---- the lines that are left
left : (done : Bool) (lines : List (List ℕ)) → done ≡ false → cond done [] lines ≡ lines
left done lines e = ap (λ b. cond b [] lines) e

pub last_line : (done : Bool) (rest : List ℕ) (end : ℕ) → done ≡ false → end ≡ position_or_len is_line_end rest → end ≡ length rest → cond done [] (lines_of rest) ≡ rest ∷ []
last_line done rest end more place all =
    let at_end : position_or_len is_line_end rest ≡ length rest = sym place ∙ all in
    left done (lines_of rest) more ∙ slice_split_none is_line_end rest (λ k d within. fails_before_first is_line_end rest k d (omega (arith, at_end, within)))

pub next_line : (done : Bool) (rest : List ℕ) (end : ℕ) → done ≡ false → end ≡ position_or_len is_line_end rest → end ≤ length rest → (end ≡ length rest → ⊥) → cond done [] (lines_of rest) ≡ take end rest ∷ cond done [] (lines_of (take (length rest - (end + 1)) (drop (end + 1) rest)))
next_line done rest end more place within short =
    let before : position_or_len is_line_end rest < length rest = omega (arith, place, within, short) in
    let all_after : take (length rest - (end + 1)) (drop (end + 1) rest) ≡ drop (end + 1) rest = grind (arith, common_steps) in
    left done (lines_of rest) more
    ∙ slice_split_first is_line_end rest 0 before
    ∙ ap (λ n. take n rest ∷ lines_of (drop (n + 1) rest)) (sym place)
    ∙ ap (λ after. take end rest ∷ lines_of after) (sym all_after)
    ∙ ap (λ lines. take end rest ∷ lines) (sym (left done _ more))
