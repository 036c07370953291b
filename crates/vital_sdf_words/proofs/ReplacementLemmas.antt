-- What is written for a text, from left to right.
use Rattle.std.proofs.Common.{◌≡◌, ℕ, zero, suc, ◌-◌, ◌<◌, ◌≤◌, List, [], ◌∷◌, ◌++◌, length, drop, take, refl, sym, ◌∙◌, ap, arith}
use Rattle.std.specs.Prelude.{Some}
use Rattle.std.proofs.lemmas.List.{length-drop, take_all}
use Rattle.vital_sdf_words.specs.Conditions.{replaced, replaced_after, replacement_at, step}

-- the bytes that are read already count for nothing
replaced-read : (read : ℕ) (text : List ℕ) → replaced_after read text ≡ replaced (drop read text)
replaced-read zero text = refl
replaced-read (suc read) [] = refl
replaced-read (suc read) (first ∷ others) = replaced-read read others

drop-first : (n : ℕ) (first : ℕ) (others : List ℕ) → 0 < n → drop (n - 1) others ≡ drop n (first ∷ others)
drop-first zero first others some = absurd (omega arith)
drop-first (suc n) first others some =
    let less : suc n - 1 ≡ n = omega arith in
    ap (λ k. drop k others) less

-- one text that is replaced
pub replaced-row : (text : List ℕ) (row : List ℕ × List ℕ) → Some row ≡ replacement_at text → 0 < length row.0 → length row.0 ≤ length text → replaced text ≡ row.1 ++ replaced (take (length text - length row.0) (drop (length row.0) text))
replaced-row [] row is some within = absurd (omega arith)
replaced-row (first ∷ others) row is some within =
    let rest = drop (length row.0) (first ∷ others) in
    let whole : rest ≡ take (length (first ∷ others) - length row.0) rest = sym (take_all _ rest (omega (arith, length-drop (length row.0) (first ∷ others)))) in
    ap (λ found. (step found first).1 ++ replaced_after (step found first).0 others) (sym is)
    ∙ ap (λ rest. row.1 ++ rest) (replaced-read (length row.0 - 1) others ∙ ap replaced (drop-first (length row.0) first others some ∙ whole))
