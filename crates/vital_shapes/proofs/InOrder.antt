-- Places of offsets that rise do not fall.
use Rattle.std.proofs.Common.{◌≡◌, ℕ, zero, suc, ◌+◌, ◌-◌, ◌<◌, ◌≤◌, ◌==◌, not, Bool, true, false, List, length, take, get_or, count_by, refl, sym, ap, ◌∙◌, subst, inl, inr, ◌⊎◌, length-drop, take_all, le_of_eq, le_trans, arith}
use native.Mathlib.Decide.{dec_lt}
use Rattle.std.specs.List.{suffix_len, after_last}
use Rattle.std.proofs.lemmas.List.Sums.{count_by_more_yes, count_by_more_no, suffix_len-le-length, suffix_len-take_yes}
use Rattle.vital_lex.specs.Places.{line_of, column_of}
use Rattle.vital_shapes.specs.Reading.{place_at}
use Rattle.vital_shapes.specs.Standing.{IsNotAfter}

-- whether the byte is no LF
abbrev goes_on : ℕ → Bool
goes_on b = not (b == 10)

column_is : (text : List ℕ) (offset : ℕ) → column_of text offset ≡ 1 + suffix_len goes_on (take offset text)
column_is text offset =
    let xs = take offset text in
    let inside = suffix_len-le-length goes_on xs in
    ap (λ n. 1 + n) (length-drop (length xs - suffix_len goes_on xs) xs ∙ omega arith)

record InOrder (text : List ℕ) (a b : ℕ) : Type 0 where
  in_order : (line_of text a < line_of text b) ⊎ ((line_of text a ≡ line_of text b) × (column_of text a ≤ column_of text b))

one_more_at : (text : List ℕ) (a : ℕ) → a < length text → (b : Bool) → (get_or text a 0 == 10) ≡ b → InOrder text a (a + 1)
one_more_at text a inside true e = record { in_order = inl (let more = count_by_more_yes (λ x. x == 10) text a 0 inside e in omega arith) }
one_more_at text a inside false e = record {
  in_order = inr (
    (let same = count_by_more_no (λ x. x == 10) text a 0 inside e in omega arith),
    (let back : a + 1 - 1 ≡ a = omega arith in
        let on : goes_on (get_or text (a + 1 - 1) 0) ≡ true = ap (λ n. goes_on (get_or text n 0)) back ∙ ap not e in
        let more : suffix_len goes_on (take (a + 1) text) ≡ 1 + suffix_len goes_on (take a text) =
        suffix_len-take_yes goes_on text (a + 1) 0 (omega arith) (omega arith) on ∙ ap (λ n. 1 + suffix_len goes_on (take n text)) back in
        let now = column_is text a in
        let next = column_is text (a + 1) in
        omega arith),
  );
}

same_place : (text : List ℕ) (a b : ℕ) → take a text ≡ take b text → InOrder text a b
same_place text a b e = record {
  in_order = inr (
    ap (λ l. 1 + count_by (λ x. x == 10) l) e,
    le_of_eq (ap (λ l. 1 + length (after_last (λ x. x == 10) l)) e),
  );
}

one_more : (text : List ℕ) (a : ℕ) → InOrder text a (a + 1)
one_more text a = go (dec_lt a (length text))
  where
    go : Dec (a < length text) → InOrder text a (a + 1)
    go (yes inside) = one_more_at text a inside (get_or text a 0 == 10) refl
    go (no past) = same_place text a (a + 1) (take_all a text (omega arith) ∙ sym (take_all (a + 1) text (omega arith)))

after_both : (text : List ℕ) (a b c : ℕ) → InOrder text a b → InOrder text b c → InOrder text a c
after_both text a b c p q = record { in_order = go p.in_order q.in_order }
  where
    go : (line_of text a < line_of text b) ⊎ ((line_of text a ≡ line_of text b) × (column_of text a ≤ column_of text b)) →
        (line_of text b < line_of text c) ⊎ ((line_of text b ≡ line_of text c) × (column_of text b ≤ column_of text c)) →
        (line_of text a < line_of text c) ⊎ ((line_of text a ≡ line_of text c) × (column_of text a ≤ column_of text c))
    go (inl x) (inl y) = inl (omega arith)
    go (inl x) (inr y) = inl (let z = y.0 in omega arith)
    go (inr x) (inl y) = inl (let z = x.0 in omega arith)
    go (inr x) (inr y) = inr (x.0 ∙ y.0, le_trans x.1 y.1)

further_on : (text : List ℕ) (a k : ℕ) → InOrder text a (a + k)
further_on text a zero = same_place text a (a + 0) (ap (λ n. take n text) (omega arith))
further_on text a (suc k) =
    let same : a + k + 1 ≡ a + suc k = omega arith in
    after_both text a (a + k) (a + suc k) (further_on text a k) (subst (λ n. InOrder text (a + k) n) same (one_more text (a + k)))

pub places_in_order : (file : ℕ) (text : List ℕ) (a b : ℕ) → a ≤ b → IsNotAfter (place_at file text a) (place_at file text b)
unfolding place_at
places_in_order file text a b rises =
    let same : a + (b - a) ≡ b = omega arith in
    let p = subst (λ n. InOrder text a n) same (further_on text a (b - a)) in
    record { same_file = refl; in_order = p.in_order }
