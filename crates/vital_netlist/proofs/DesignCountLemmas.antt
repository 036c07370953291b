-- Counts of numbers, with one thing more that has a number.
use Rattle.std.proofs.Common.{◌≡◌, ℕ, ◌+◌, ◌^◌, ◌<◌, ◌≤◌, List, length, take, get_or, set, sym, ap, ◌∙◌, refl, arith, get_or-set_other, get_or-set_same}
use Rattle.std.specs.Prelude.{Bool, true, false, ◌==◌, nat_lt}
use Rattle.std.specs.List.{count_by}
use Rattle.std.proofs.lemmas.Bool.Decides.{nat_tests}
use Rattle.std.proofs.lemmas.List.{get_or_past, length-take-le}
use Rattle.std.proofs.lemmas.List.Sums.{count_by-le-length, count_by_more_no, count_by_more_yes}

-- how many of these have each number below a limit
abbrev pub AreCounted : {A : Type 0} → (A → ℕ) → List A → ℕ → List ℕ → Type 0
AreCounted number xs limit counts = (k : ℕ) → k < limit → get_or counts k 0 ≡ count_by (λ x. number x == k) xs

same-number : (m k : ℕ) → (m == k) ≡ true → m ≡ k
same-number m k is = grind (arith, nat_tests)

other-number : (m k : ℕ) → (m == k) ≡ false → m ≡ k → ⊥
other-number m k is same = grind (arith, nat_tests)

-- one more
pub counted-more : {A : Type 0} (number : A → ℕ) (xs : List A) (i : ℕ) (x : A) (limit : ℕ) (counts new : List ℕ) → i < length xs → x ≡ get_or xs i x → length counts ≡ limit → new ≡ set counts (number x) (get_or counts (number x) 0 + 1) → AreCounted number (take i xs) limit counts → AreCounted number (take (i + 1) xs) limit new
counted-more number xs i x limit counts new there is long put counted k within = by_test (number x == k) refl
  where
    by_test : (b : Bool) → (number x == k) ≡ b → get_or new k 0 ≡ count_by (λ y. number y == k) (take (i + 1) xs)
    by_test true same =
        let at : number x ≡ k = same-number (number x) k same in
        let here : number x < length counts = omega arith in
        ap (λ m. get_or new m 0) (sym at)
        ∙ ap (λ ns. get_or ns (number x) 0) put
        ∙ get_or-set_same counts (number x) (get_or counts (number x) 0 + 1) 0 here
        ∙ ap (λ m. get_or counts m 0 + 1) at
        ∙ ap (λ m. m + 1) (counted k within)
        ∙ sym (count_by_more_yes (λ y. number y == k) xs i x there (ap (λ y. number y == k) (sym is) ∙ same))
    by_test false other =
        ap (λ ns. get_or ns k 0) put
        ∙ get_or-set_other counts (number x) k (get_or counts (number x) 0 + 1) 0 (λ same. other-number (number x) k other (sym same))
        ∙ counted k within
        ∙ sym (count_by_more_no (λ y. number y == k) xs i x there (ap (λ y. number y == k) (sym is) ∙ other))

-- they are few
pub few-counted : {A : Type 0} (number : A → ℕ) (xs : List A) (i limit : ℕ) (counts : List ℕ) (k : ℕ) → i < length xs → length xs < 2 ^ 63 → length counts ≡ limit → AreCounted number (take i xs) limit counts → get_or counts k 0 < 2 ^ 63
few-counted number xs i limit counts k there short long counted = by_test (nat_lt k limit) refl
  where
    by_test : (b : Bool) → nat_lt k limit ≡ b → get_or counts k 0 < 2 ^ 63
    by_test true is =
        let within : k < limit = grind (arith, nat_tests) in
        omega (arith, counted k within, count_by-le-length (λ x. number x == k) (take i xs), length-take-le i xs (omega arith))
    by_test false is =
        let past : length counts ≤ k = grind (arith, nat_tests) in
        omega (arith, get_or_past counts k 0 past)
