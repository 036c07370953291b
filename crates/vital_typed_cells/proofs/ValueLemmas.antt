-- Lists that are made of the numbered elements of others.
use Rattle.std.proofs.Common.{◌≡◌, ◌<◌, ℕ, ◌+◌, List, [], ◌∷◌, ◌++◌, length, map, take, ap, ◌∙◌, arith}
use Rattle.std.specs.Prelude.{get_or}
use Rattle.std.specs.List.{enumerate_from}
use Rattle.std.proofs.lemmas.List.{length-take-le}
use Rattle.vital_nodes.proofs.Lists.{take-one}

pub numbered-more : {A B : Type 0} (f : (ℕ × A) → B) (xs : List A) (x : A) (k n : ℕ) → n ≡ k + length xs → map f (enumerate_from k (xs ++ x ∷ [])) ≡ map f (enumerate_from k xs) ++ f (n, x) ∷ []
numbered-more f [] x k n is = let same : k ≡ n = omega (arith, is) in ap (λ m. f (m, x) ∷ []) same
numbered-more f (y ∷ xs) x k n is = ap (λ ys. f (k, y) ∷ ys) (numbered-more f xs x (k + 1) n (omega (arith, is)))

-- One element more.
pub numbered-take : {A B : Type 0} (f : (ℕ × A) → B) (xs : List A) (i : ℕ) (x : A) → i < length xs → x ≡ get_or xs i x → map f (enumerate_from 0 (take (i + 1) xs)) ≡ map f (enumerate_from 0 (take i xs)) ++ f (i, x) ∷ []
numbered-take f xs i x within is =
    let count : length (take i xs) ≡ i = length-take-le i xs (omega (arith, within)) in
    ap (λ ys. map f (enumerate_from 0 ys)) (take-one xs i x within is) ∙ numbered-more f (take i xs) x 0 i (omega (arith, count))
