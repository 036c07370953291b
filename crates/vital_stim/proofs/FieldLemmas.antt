-- The fields of a line, one after another.
use Rattle.std.proofs.Common.{◌≡◌, ℕ, ◌+◌, ◌<◌, true, false, List, [], ◌∷◌, length, take, drop, refl, sym, ◌∙◌, ap, subst, arith}
use Rattle.std.specs.Prelude.{Bool, not, cond, ◌==◌, filter, nat_lt, Option, Some, None, position, unwrap_or}
use Rattle.std.specs.List.{slice_split, onto_first, position_or_len}
use Rattle.std.proofs.Math.Numerals.{one-add}
use Rattle.std.proofs.lemmas.Bool.{cond_both, ltb-false, lt-ltb, eqb-true, true≢false}
use Rattle.std.proofs.lemmas.Bool.Decides.{nat_tests}
use Rattle.std.proofs.lemmas.List.Sums.{prefix_len-le-length}
use Rattle.std.proofs.lemmas.List.Splits.{slice_split-cons_yes, slice_split-cons_no}
use Rattle.vital_stim.specs.Parts.{is_blank, fields_of, after_blanks}

abbrev is_some_field : List ℕ → Bool
is_some_field = λ piece. nat_lt 0 (length piece)

fields_of-blank : (b : ℕ) (bs : List ℕ) → is_blank b ≡ true → fields_of (b ∷ bs) ≡ fields_of bs
fields_of-blank b bs e = ap (filter is_some_field) (slice_split-cons_yes is_blank b bs e)

after_blanks-step : (b : ℕ) (bs : List ℕ) (v : Bool) → is_blank b ≡ v → fields_of bs ≡ fields_of (after_blanks bs) → fields_of (b ∷ bs) ≡ fields_of (cond v (after_blanks bs) (b ∷ bs))
after_blanks-step b bs true e h = fields_of-blank b bs e ∙ h
after_blanks-step b bs false e h = refl

pub fields_of-after_blanks : (line : List ℕ) → fields_of line ≡ fields_of (after_blanks line)
fields_of-after_blanks [] = refl
fields_of-after_blanks (b ∷ bs) = after_blanks-step b bs (is_blank b) refl (fields_of-after_blanks bs)

-- the first byte is no blank
abbrev pub BeginsField : List ℕ → Type 0
BeginsField [] = Unit {0}
BeginsField (b ∷ bs) = is_blank b ≡ false

begins_field-step : (b : ℕ) (bs : List ℕ) (v : Bool) → is_blank b ≡ v → BeginsField (after_blanks bs) → BeginsField (cond v (after_blanks bs) (b ∷ bs))
begins_field-step b bs true e h = h
begins_field-step b bs false e h = e

pub begins_field : (line : List ℕ) → BeginsField (after_blanks line)
begins_field [] = tt
begins_field (b ∷ bs) = begins_field-step b bs (is_blank b) refl (begins_field bs)

-- the parts of a line up to its first blank at m, and from there
record PartsAt (bs : List ℕ) (m : ℕ) : Type 0 where
  others : List (List ℕ)
  parts : slice_split is_blank bs ≡ take m bs ∷ others
  rest : filter is_some_field others ≡ fields_of (drop m bs)

parts_at-step : (b : ℕ) (bs : List ℕ) (v : Bool) → is_blank b ≡ v → PartsAt bs (position_or_len is_blank bs) → PartsAt (b ∷ bs) (cond (not v) (1 + position_or_len is_blank bs) 0)
parts_at-step b bs true e h = record { others = slice_split is_blank bs; parts = slice_split-cons_yes is_blank b bs e; rest = sym (fields_of-blank b bs e) }
parts_at-step b bs false e h = rw one-add (record {
  others = h.others;
  parts = slice_split-cons_no is_blank b bs e ∙ ap (onto_first b) h.parts;
  rest = h.rest;
})

parts_at : (bs : List ℕ) → PartsAt bs (position_or_len is_blank bs)
parts_at [] = record { others = []; parts = refl; rest = refl }
parts_at (b ∷ bs) = parts_at-step b bs (is_blank b) refl (parts_at bs)

-- the first blank, or the length
position-or_length : (bs : List ℕ) → unwrap_or (position is_blank bs) (length bs) ≡ position_or_len is_blank bs
position-or_length bs = cond_both (nat_lt (position_or_len is_blank bs) (length bs)) (Some (position_or_len is_blank bs)) None (λ o. unwrap_or o (length bs) ≡ position_or_len is_blank bs)
    (λ e. refl)
    (λ e. omega (arith, ltb-false _ _ e, prefix_len-le-length (λ b. not (is_blank b)) bs))

-- what a line gives first, where it does not begin with a blank
pub record Takes (bs field after : List ℕ) : Type 0 where
  pub some : (length field == 0) ≡ false → fields_of bs ≡ field ∷ fields_of after
  pub none : (length field == 0) ≡ true → (fields_of bs ≡ []) × (fields_of after ≡ [])

takes_some : (bs field after : List ℕ) (others : List (List ℕ)) → slice_split is_blank bs ≡ field ∷ others → filter is_some_field others ≡ fields_of after → (length field == 0) ≡ false → fields_of bs ≡ field ∷ fields_of after
takes_some bs field after others parts rest some =
    let positive : 0 < length field = grind (arith, nat_tests) in
    let shown : is_some_field field ≡ true = lt-ltb 0 (length field) positive in
    let kept : filter is_some_field (field ∷ others) ≡ field ∷ filter is_some_field others = rw shown refl in
    ap (filter is_some_field) parts ∙ kept ∙ ap (λ more. field ∷ more) rest

-- such a line has a first field
begins-some : (b : ℕ) (bs : List ℕ) (v : Bool) → v ≡ false → length (take (cond (not v) (1 + position_or_len is_blank bs) 0) (b ∷ bs)) ≡ 0 → ⊥
begins-some b bs true e h = absurd (true≢false e)
begins-some b bs false e h = let one = rw one-add at h in absurd (omega arith)

pub takes_at : (bs : List ℕ) → BeginsField bs → Takes bs (take (position_or_len is_blank bs) bs) (drop (position_or_len is_blank bs) bs)
takes_at [] h = record { some = λ k. absurd (true≢false k); none = λ k. (refl, refl) }
takes_at (b ∷ bs) h =
    let parts = parts_at (b ∷ bs) in
    record {
      some = takes_some (b ∷ bs) _ _ parts.others parts.parts parts.rest;
      none = λ k. absurd (begins-some b bs (is_blank b) h (eqb-true _ _ k));
    }

-- the first field of a line, and the fields of what follows it
pub takes_first : (line rest field after : List ℕ) (found : Option ℕ) (n : ℕ) → rest ≡ after_blanks line → found ≡ position is_blank rest → n ≡ unwrap_or found (length rest) → field ≡ take n rest → after ≡ drop n rest → Takes line field after
takes_first line rest field after found n skipped place reached front back =
    let at_end : n ≡ position_or_len is_blank rest = reached ∙ ap (λ o. unwrap_or o (length rest)) place ∙ position-or_length rest in
    let begins : BeginsField rest = subst BeginsField (sym skipped) (begins_field line) in
    let taken : Takes rest field after = rw (front, back, at_end) (takes_at rest begins) in
    let same : fields_of line ≡ fields_of rest = fields_of-after_blanks line ∙ ap fields_of (sym skipped) in
    record { some = λ k. same ∙ taken.some k; none = λ k. (same ∙ (taken.none k).0, (taken.none k).1) }
