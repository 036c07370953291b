-- Texts in small letters, and parts of paths, place by place.
use Rattle.std.proofs.Common.{◌≡◌, ℕ, zero, suc, ◌<◌, List, [], ◌∷◌, length, map, get_or, refl, sym, ◌∙◌, ap, arith}
use Rattle.std.specs.Prelude.{Bool, true, false, ◌&&◌}
use Rattle.std.specs.Borrow.{Bor}
use Rattle.std.specs.Char.{to_ascii_lowercase}
use Rattle.std.specs.Str.{bytes_eq}
use Rattle.std.specs.Cmp.Lexicographic.{bytes_decides}
use Rattle.std.proofs.lemmas.List.{ext_get_or, get_or-map, length-map}
use Rattle.vital_annotate.specs.Names.{folded}
use Rattle.vital_annotate.specs.Parts.{part_is, parts_are}

false_from_ne : (b : Bool) → (b ≡ true → ⊥) → b ≡ false
false_from_ne true h = absurd (h refl)
false_from_ne false h = refl

-- ---- a text in small letters
pub other-byte : (text other : List ℕ) (i : ℕ) → i < length other → (to_ascii_lowercase (get_or other i 0) ≡ get_or text i 0 → ⊥) → bytes_eq text (folded other) ≡ false
other-byte text other i inside differ =
    false_from_ne _ (λ h. differ (sym (ap (λ l. get_or l i 0) ((bytes_decides text (folded other)).0 h) ∙ get_or-map to_ascii_lowercase other i 0 0 inside)))

pub same-bytes : (text other : List ℕ) → length text ≡ length other → ((k : ℕ) → k < length text → to_ascii_lowercase (get_or other k 0) ≡ get_or text k 0) → bytes_eq text (folded other) ≡ true
same-bytes text other lengths each =
    (bytes_decides text (folded other)).1
    (ext_get_or 0 text (folded other) (lengths ∙ sym (length-map other to_ascii_lowercase)) (λ k below. sym (get_or-map to_ascii_lowercase other k 0 0 (omega (arith, lengths, below)) ∙ each k below)))

pub other-length : (text other : List ℕ) → (length text ≡ length other → ⊥) → bytes_eq text (folded other) ≡ false
other-length text other differ =
    false_from_ne _ (λ h. differ (ap length ((bytes_decides text (folded other)).0 h) ∙ length-map other to_ascii_lowercase))

-- ---- parts
abbrev pub now : Bor (List ℕ) → List ℕ
now b = b.now

and-false : (a b : Bool) → b ≡ false → (a && b) ≡ false
and-false true b h = h
and-false false b h = refl

first-false : (a b : Bool) → a ≡ false → (a && b) ≡ false
first-false true b h = absurd (cc)
first-false false b h = refl

both : (a b : Bool) → a ≡ true → b ≡ true → (a && b) ≡ true
both true b h k = k
both false b h k = absurd (cc)

pub parts-false : (ls ps : List (Bor (List ℕ))) (d e : Bor (List ℕ)) (k : ℕ) → k < length ls → length ls ≡ length ps → part_is (now (get_or ls k d)) (now (get_or ps k e)) ≡ false → parts_are (map now ls) (map now ps) ≡ false
parts-false [] ps d e k inside same h = absurd (omega arith)
parts-false (l ∷ ls) [] d e k inside same h = refl
parts-false (l ∷ ls) (p ∷ ps) d e zero inside same h = first-false _ _ h
parts-false (l ∷ ls) (p ∷ ps) d e (suc k) inside same h = and-false _ _ (parts-false ls ps d e k (omega arith) (omega arith) h)

pub parts-true : (ls ps : List (Bor (List ℕ))) (d e : Bor (List ℕ)) → length ls ≡ length ps → ((k : ℕ) → k < length ls → part_is (now (get_or ls k d)) (now (get_or ps k e)) ≡ true) → parts_are (map now ls) (map now ps) ≡ true
parts-true [] [] d e same h = refl
parts-true [] (p ∷ ps) d e same h = absurd (omega arith)
parts-true (l ∷ ls) [] d e same h = absurd (omega arith)
parts-true (l ∷ ls) (p ∷ ps) d e same h = both _ _ (h 0 (omega arith)) (parts-true ls ps d e (omega arith) (λ k below. h (suc k) (omega arith)))

pub parts-lengths : (ls ps : List (Bor (List ℕ))) → (length ls ≡ length ps → ⊥) → parts_are (map now ls) (map now ps) ≡ false
parts-lengths [] [] differ = absurd (differ refl)
parts-lengths [] (p ∷ ps) differ = refl
parts-lengths (l ∷ ls) [] differ = refl
parts-lengths (l ∷ ls) (p ∷ ps) differ = and-false _ _ (parts-lengths ls ps (λ e. differ (ap suc e)))
