-- What begins later in a text stands behind.
use Rattle.std.proofs.Common.{◌≡◌, ℕ, ◌+◌, ◌-◌, ◌<◌, ◌≤◌, ◌==◌, not, true, false, Bool, List, length, take, get_or, refl, sym, ap, ◌∙◌, inl, inr, ◌⊎◌, length-drop, arith}
use Rattle.std.specs.Cmp.{nat_cmp_is}
use Rattle.std.specs.List.{suffix_len}
use Rattle.std.specs.Ordering.{is_lt, nat_cmp, ordering_then}
use Rattle.std.specs.declared.cmp.Ordering.TheVariants.{Less, Equal}
use Rattle.std.proofs.lemmas.List.Sums.{count_by_more_yes, count_by_more_no, suffix_len-le-length, suffix_len-take_yes}
use Rattle.vital_base.specs.Places.{is_before}
use Rattle.vital_lex.specs.Places.{line_of, column_of}
use Rattle.vital_shapes.specs.Reading.{place_at}
use Rattle.vital_shapes.proofs.InOrder.{places_in_order}

-- a line and a column behind others
abbrev IsBehind : ℕ → ℕ → ℕ → ℕ → Type 0
IsBehind line column further across = (line < further) ⊎ ((line ≡ further) × (column < across))

-- ---- a byte further on

-- whether the byte is no LF
abbrev goes_on : ℕ → Bool
goes_on b = not (b == 10)

column_is : (text : List ℕ) (offset : ℕ) → column_of text offset ≡ 1 + suffix_len goes_on (take offset text)
column_is text offset =
    let xs = take offset text in
    let inside = suffix_len-le-length goes_on xs in
    ap (λ n. 1 + n) (length-drop (length xs - suffix_len goes_on xs) xs ∙ omega arith)

one_more_at : (text : List ℕ) (a : ℕ) → a < length text → (b : Bool) → (get_or text a 0 == 10) ≡ b → IsBehind (line_of text a) (column_of text a) (line_of text (a + 1)) (column_of text (a + 1))
one_more_at text a inside true e = inl (let more = count_by_more_yes (λ x. x == 10) text a 0 inside e in omega arith)
one_more_at text a inside false e = inr (
  (let same = count_by_more_no (λ x. x == 10) text a 0 inside e in omega arith),
  (let back : a + 1 - 1 ≡ a = omega arith in
      let on : goes_on (get_or text (a + 1 - 1) 0) ≡ true = ap (λ n. goes_on (get_or text n 0)) back ∙ ap not e in
      let more : suffix_len goes_on (take (a + 1) text) ≡ 1 + suffix_len goes_on (take a text) =
      suffix_len-take_yes goes_on text (a + 1) 0 (omega arith) (omega arith) on ∙ ap (λ n. 1 + suffix_len goes_on (take n text)) back in
      let now = column_is text a in
      let next = column_is text (a + 1) in
      omega arith),
)

-- ---- and more

further : (a b c d e f : ℕ) → IsBehind a b c d → (c < e) ⊎ ((c ≡ e) × (d ≤ f)) → IsBehind a b e f
further a b c d e f (inl x) (inl y) = inl (omega arith)
further a b c d e f (inl x) (inr y) = inl (let z = y.0 in omega arith)
further a b c d e f (inr x) (inl y) = inl (let z = x.0 in omega arith)
further a b c d e f (inr x) (inr y) = inr (x.0 ∙ y.0, (let z = x.1 in let w = y.1 in omega arith))

tested : (file a b c d : ℕ) → IsBehind a b c d → is_lt (ordering_then (nat_cmp file file) (ordering_then (nat_cmp a c) (nat_cmp b d))) ≡ true
tested file a b c d (inl x) =
    ap (λ o. is_lt (ordering_then o (ordering_then (nat_cmp a c) (nat_cmp b d)))) (sym (nat_cmp_is file file Equal refl))
    ∙ ap (λ o. is_lt (ordering_then o (nat_cmp b d))) (sym (nat_cmp_is a c Less x))
tested file a b c d (inr x) =
    ap (λ o. is_lt (ordering_then o (ordering_then (nat_cmp a c) (nat_cmp b d)))) (sym (nat_cmp_is file file Equal refl))
    ∙ ap (λ o. is_lt (ordering_then o (nat_cmp b d))) (sym (nat_cmp_is a c Equal x.0))
    ∙ ap (λ o. is_lt o) (sym (nat_cmp_is b d Less x.1))

pub later_is_behind : (file : ℕ) (text : List ℕ) (a b : ℕ) → a < b → a < length text → is_before (place_at file text a) (place_at file text b) ≡ true
unfolding place_at
later_is_behind file text a b later inside =
    tested file (line_of text a) (column_of text a) (line_of text b) (column_of text b)
    (further (line_of text a) (column_of text a) (line_of text (a + 1)) (column_of text (a + 1)) (line_of text b) (column_of text b)
    (one_more_at text a inside (get_or text a 0 == 10) refl)
    (places_in_order file text (a + 1) b (omega arith)).in_order)
