-- Parts of a word, read from the left.
use Rattle.std.proofs.Common.{◌≡◌, ℕ, true, false, List, [], ◌∷◌, ◌++◌, refl, sym, ◌∙◌, ap, append_assoc, append-nil}
use Rattle.std.specs.Prelude.{Bool, cond, map, Some, None}
use Rattle.std.specs.List.{slice_split, onto_first}
use Rattle.std.proofs.lemmas.List.Splits.{slice_split-cons_no, slice_split-cons_yes}
use Rattle.vital_sdf_words.specs.Paths.{is_divider, parts, unescaped}
use Rattle.vital_sdf_words.specs.Units.{first_and_others}

-- the parts that are still to come, where these bytes of the first one are read
abbrev pub parts_after : ℕ → List ℕ → List (ℕ × Bool) → List (List ℕ)
parts_after divider part [] = part ∷ []
parts_after divider part (unit ∷ units) = cond (is_divider divider unit) (part ∷ parts_after divider [] units) (parts_after divider (part ++ unit.0 ∷ []) units)

-- bytes before the first part
abbrev before_first_part : List ℕ → List (List ℕ) → List (List ℕ)
before_first_part part [] = part ∷ []
before_first_part part (first ∷ others) = (part ++ first) ∷ others

abbrev bytes_of : List (List (ℕ × Bool)) → List (List ℕ)
bytes_of = map (map (λ unit. unit.0))

record Split (divider : ℕ) (units : List (ℕ × Bool)) : Type 0 where
  first : List (ℕ × Bool)
  others : List (List (ℕ × Bool))
  is : slice_split (is_divider divider) units ≡ first ∷ others
  parts : (part : List ℕ) → parts_after divider part units ≡ before_first_part part (bytes_of (first ∷ others))

at_unit : (divider : ℕ) (unit : ℕ × Bool) (units : List (ℕ × Bool)) → Split divider units → (b : Bool) → is_divider divider unit ≡ b → Split divider (unit ∷ units)
at_unit divider unit units s true e = record {
  first = [];
  others = slice_split (is_divider divider) units;
  is = slice_split-cons_yes (is_divider divider) unit units e;
  parts = λ part. rw (e, append-nil, s.is) (ap (λ ps. part ∷ ps) (s.parts []));
}
at_unit divider unit units s false e = record {
  first = unit ∷ s.first;
  others = s.others;
  is = slice_split-cons_no (is_divider divider) unit units e ∙ ap (onto_first unit) s.is;
  parts = λ part. rw e (s.parts (part ++ unit.0 ∷ []) ∙ ap (λ p. p ∷ bytes_of s.others) (append_assoc part (unit.0 ∷ []) (map (λ unit. unit.0) s.first)));
}

split : (divider : ℕ) (units : List (ℕ × Bool)) → Split divider units
split divider [] = record { first = []; others = []; is = refl; parts = λ part. rw append-nil refl }
split divider (unit ∷ units) = at_unit divider unit units (split divider units) (is_divider divider unit) refl

pub parts-all : (divider : ℕ) (word : List ℕ) → parts_after divider [] (unescaped word) ≡ parts divider word
parts-all divider word = let s = split divider (unescaped word) in s.parts [] ∙ ap bytes_of (sym s.is)

-- one byte more, which is a divider or not
pub parts-divider : (divider : ℕ) (found : List (List ℕ)) (part : List ℕ) (unit : ℕ × Bool) (units others : List (ℕ × Bool)) → Some (unit, others) ≡ first_and_others units → true ≡ is_divider divider unit → (found ++ part ∷ []) ++ parts_after divider [] others ≡ found ++ parts_after divider part units
parts-divider divider found part unit [] others is e = absurd (cc)
parts-divider divider found part unit (u ∷ us) others is e =
    let both : (unit, others) ≡ (u, us) = cc in
    let unit_is : unit ≡ u = ap (λ (p : (ℕ × Bool) × List (ℕ × Bool)). p.0) both in
    let others_is : others ≡ us = ap (λ (p : (ℕ × Bool) × List (ℕ × Bool)). p.1) both in
    rw (← unit_is, ← others_is, ← e) (append_assoc found (part ∷ []) (parts_after divider [] others))

pub parts-byte : (divider : ℕ) (found : List (List ℕ)) (part : List ℕ) (unit : ℕ × Bool) (units others : List (ℕ × Bool)) → Some (unit, others) ≡ first_and_others units → false ≡ is_divider divider unit → found ++ parts_after divider (part ++ unit.0 ∷ []) others ≡ found ++ parts_after divider part units
parts-byte divider found part unit [] others is e = absurd (cc)
parts-byte divider found part unit (u ∷ us) others is e =
    let both : (unit, others) ≡ (u, us) = cc in
    let unit_is : unit ≡ u = ap (λ (p : (ℕ × Bool) × List (ℕ × Bool)). p.0) both in
    let others_is : others ≡ us = ap (λ (p : (ℕ × Bool) × List (ℕ × Bool)). p.1) both in
    rw (← unit_is, ← others_is, ← e) refl

-- no byte more
pub parts-end : (divider : ℕ) (found : List (List ℕ)) (part : List ℕ) (units : List (ℕ × Bool)) → None ≡ first_and_others units → found ++ parts_after divider part units ≡ found ++ part ∷ []
parts-end divider found part [] is = refl
parts-end divider found part (u ∷ us) is = absurd (cc)
