-- Elements by their numbers.
use Rattle.std.proofs.Common.{◌≡◌, ℕ, suc, ◌+◌, ◌<◌, List, ◌∷◌, length, get_or, sym, ◌∙◌, ap, arith}
use Rattle.std.proofs.lemmas.List.FromFn.{get_or-enumerate_from}
use Rattle.std.specs.Prelude.{slice_get, Some}
use Rattle.std.specs.List.{enumerate_from}

pub enumerated-at : {A : Type 0} (xs : List A) (k : ℕ) (x : A) → k < length xs → x ≡ get_or xs k x → (k, x) ≡ get_or (enumerate_from 0 xs) k (k, x)
enumerated-at {A} xs k x there at =
    let sum : k ≡ 0 + k = omega arith in
    ap (λ (y : A). (k, y)) at ∙ ap (λ (m : ℕ). (m, get_or xs k x)) sum ∙ sym (get_or-enumerate_from 0 xs k (k, x) there)

-- A list stands in another one from a number on.
abbrev pub StandsAt : {A : Type 0} → List A → List A → ℕ → Type 0
StandsAt part whole n = (k : ℕ) → slice_get part k ≡ slice_get whole (n + k)

pub all-stand : {A : Type 0} (xs : List A) → StandsAt xs xs 0
all-stand xs k =
    let sum : k ≡ 0 + k = omega arith in
    ap (slice_get xs) sum

pub first-stands : {A : Type 0} (x : A) (xs whole : List A) (n : ℕ) → StandsAt (x ∷ xs) whole n → slice_get whole n ≡ Some x
first-stands x xs whole n stands =
    let sum : n + 0 ≡ n = omega arith in
    sym (stands 0 ∙ ap (slice_get whole) sum)

pub others-stand : {A : Type 0} (x : A) (xs whole : List A) (n : ℕ) → StandsAt (x ∷ xs) whole n → StandsAt xs whole (n + 1)
others-stand x xs whole n stands k =
    let sum : n + suc k ≡ n + 1 + k = omega arith in
    stands (suc k) ∙ ap (slice_get whole) sum
