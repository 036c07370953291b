-- Runs of letters and digits, read byte by byte.
use Rattle.std.proofs.Common.{◌≡◌, ℕ, ◌+◌, ◌<◌, suc, true, false, List, [], ◌∷◌, length, get_or, drop, inl, inr, refl, sym, ◌∙◌, ap, subst, drop-cons, add-one, arith}
use Rattle.std.specs.Prelude.{◌⊎◌, Bool, cond, ◌&&◌}
use Rattle.std.specs.Char.{is_ascii_alphanumeric}
use Rattle.std.specs.List.{list_all, slice_split, onto_first}
use Rattle.std.proofs.Math.Seq.{drop-length}
use Rattle.std.proofs.lemmas.Bool.{eqb-true, lt-ltb, true≢false, false_from_ne_true}
use Rattle.std.proofs.lemmas.List.Splits.{slice_split-cons_yes, slice_split-cons_no}
use Rattle.vital_identifiers.specs.Identifiers.{is_underscore, is_run}

-- are these runs, where the last byte before them was in a run or not?
abbrev pub runs : Bool → List ℕ → Bool
runs in_run [] = in_run
runs in_run (b ∷ bs) = cond (is_ascii_alphanumeric b) (runs true bs) (in_run && is_underscore b && runs false bs)

record Parted (bs : List ℕ) : Type 0 where
  first : List ℕ
  others : List (List ℕ)
  parts : slice_split is_underscore bs ≡ first ∷ others
  going : runs true bs ≡ (list_all is_ascii_alphanumeric first && list_all is_run others)
  fresh : runs false bs ≡ (is_run first && list_all is_run others)

no_underscore : (b : ℕ) → is_underscore b ≡ true → is_ascii_alphanumeric b ≡ false
no_underscore b e = subst (λ n. is_ascii_alphanumeric n ≡ false) (sym (eqb-true b 95 e)) refl

at_letter : (b : ℕ) (bs : List ℕ) (h : Parted bs) (a : Bool) → is_ascii_alphanumeric b ≡ a → is_underscore b ≡ false → Parted (b ∷ bs)
at_letter b bs h true a u = record {
  first = b ∷ h.first;
  others = h.others;
  parts = slice_split-cons_no is_underscore b bs u ∙ ap (onto_first b) h.parts;
  going = rw a h.going;
  fresh = rw (a, lt-ltb 0 (suc (length h.first)) (omega arith)) h.going;
}
at_letter b bs h false a u = record {
  first = b ∷ h.first;
  others = h.others;
  parts = slice_split-cons_no is_underscore b bs u ∙ ap (onto_first b) h.parts;
  going = rw (a, u) refl;
  fresh = rw (a, lt-ltb 0 (suc (length h.first)) (omega arith)) refl;
}

at_byte : (b : ℕ) (bs : List ℕ) (h : Parted bs) (u : Bool) → is_underscore b ≡ u → Parted (b ∷ bs)
at_byte b bs h true u = record {
  first = [];
  others = slice_split is_underscore bs;
  parts = slice_split-cons_yes is_underscore b bs u;
  going = rw (no_underscore b u, u) (h.fresh ∙ ap (list_all is_run) (sym h.parts));
  fresh = rw (no_underscore b u) refl;
}
at_byte b bs h false u = at_letter b bs h (is_ascii_alphanumeric b) refl u

parted : (bs : List ℕ) → Parted bs
parted [] = record { first = []; others = []; parts = refl; going = refl; fresh = refl }
parted (b ∷ bs) = at_byte b bs (parted bs) (is_underscore b) refl

pub runs-all : (bs : List ℕ) → runs false bs ≡ list_all is_run (slice_split is_underscore bs)
runs-all bs = (parted bs).fresh ∙ ap (list_all is_run) (sym (parted bs).parts)

-- at a byte, and at the end
pub runs-at : (in_run : Bool) (bs : List ℕ) (i : ℕ) → i < length bs → runs in_run (drop i bs) ≡ cond (is_ascii_alphanumeric (get_or bs i 0)) (runs true (drop (i + 1) bs)) (in_run && is_underscore (get_or bs i 0) && runs false (drop (i + 1) bs))
runs-at in_run bs i lt = ap (runs in_run) (drop-cons bs i 0 lt ∙ ap (λ n. get_or bs i 0 ∷ drop n bs) (sym (add-one i)))

pub runs-end : (in_run : Bool) (bs : List ℕ) (i : ℕ) → i ≡ length bs → runs in_run (drop i bs) ≡ in_run
runs-end in_run bs i at =
    let none : drop i bs ≡ [] = rw at (drop-length bs) in
    ap (runs in_run) none

pub runs-bad : (in_run : Bool) (bs : List ℕ) (i : ℕ) → i < length bs → is_ascii_alphanumeric (get_or bs i 0) ≡ false → (in_run ≡ false) ⊎ (get_or bs i 0 ≡ 95 → ⊥) → runs in_run (drop i bs) ≡ false
runs-bad false bs i lt a h = runs-at false bs i lt ∙ rw a refl
runs-bad true bs i lt a (inl h) = absurd (true≢false h)
runs-bad true bs i lt a (inr h) =
    let u : is_underscore (get_or bs i 0) ≡ false = false_from_ne_true _ (λ e. h (eqb-true _ 95 e)) in
    runs-at true bs i lt ∙ rw (a, u) refl
