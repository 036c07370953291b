-- Parts of a text: the bytes from one offset up to another.
use Rattle.std.proofs.Common.{◌≡◌, ℕ, suc, ◌+◌, ◌-◌, ◌<◌, ◌≤◌, List, [], ◌∷◌, ◌++◌, length, get_or, take, drop, ap, ◌∙◌, arith}
use Rattle.std.specs.Prelude.{slice_range}
use Rattle.std.proofs.Math.Seq.{take-add}
use Rattle.std.proofs.lemmas.List.{drop-drop, drop_more}
use Rattle.std.proofs.lemmas.List.Edits.{between_none}

pub range-split : (xs : List ℕ) (a b c : ℕ) → a ≤ b → b ≤ c → slice_range xs a c ≡ slice_range xs a b ++ slice_range xs b c
range-split xs a b c ab bc =
    let sizes : c - a ≡ (b - a) + (c - b) = omega arith in
    let place : a + (b - a) ≡ b = omega arith in
    ap (λ n. take n (drop a xs)) sizes ∙ take-add (b - a) (c - b) (drop a xs) ∙ ap (λ d. take (b - a) (drop a xs) ++ take (c - b) d) (drop-drop (b - a) a xs ∙ ap (λ n. drop n xs) place)

pub range-none : (xs : List ℕ) (a : ℕ) → slice_range xs a a ≡ []
range-none xs a = between_none xs a

pub range-head : (xs : List ℕ) (a c : ℕ) → a < c → c ≤ length xs → slice_range xs a c ≡ get_or xs a 0 ∷ slice_range xs (a + 1) c
range-head xs a c ac cl =
    let size : c - a ≡ suc (c - (a + 1)) = omega arith in
    ap (λ d. take (c - a) d) (drop_more xs a 0 (omega arith)) ∙ ap (λ n. take n (get_or xs a 0 ∷ drop (a + 1) xs)) size

pub range-one : (xs : List ℕ) (a : ℕ) → a < length xs → slice_range xs a (a + 1) ≡ get_or xs a 0 ∷ []
range-one xs a al = range-head xs a (a + 1) (omega arith) (omega arith) ∙ ap (λ r. get_or xs a 0 ∷ r) (range-none xs (a + 1))

pub range-two : (xs : List ℕ) (a : ℕ) → a + 1 < length xs → slice_range xs a (a + 2) ≡ get_or xs a 0 ∷ get_or xs (a + 1) 0 ∷ []
range-two xs a al =
    let next : a + 1 + 1 ≡ a + 2 = omega arith in
    range-head xs a (a + 2) (omega arith) (omega arith) ∙ ap (λ r. get_or xs a 0 ∷ r) (ap (λ e. slice_range xs (a + 1) e) (omega arith) ∙ range-one xs (a + 1) (omega arith))
