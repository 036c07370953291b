-- How numbers compare from a place on.
use Rattle.std.proofs.Common.{◌≡◌, ℕ, suc, ◌+◌, ◌*◌, ◌<◌, true, false, List, drop, get_or, refl, sym, ap, subst, ◌∙◌, arith}
use Rattle.std.specs.Prelude.{cond, nat_lt, ◌==◌}
use Rattle.std.specs.Cmp.{ranks}
use Rattle.std.specs.Ordering.{MatchOrdering, nat_cmp}
use Rattle.std.specs.declared.cmp.Ordering.{Ordering}
use Rattle.std.specs.declared.cmp.Ordering.TheVariants.{Less, Equal, Greater}
use Rattle.std.proofs.lemmas.Bool.Decides.{nat_tests}
use Rattle.vital_naturals.proofs.DigitLemmas.{less_from, value_drop}
use Rattle.vital_naturals.specs.Digits.{AreDigits, value}

less-is : (x y : ℕ) → x < y → nat_cmp x y ≡ Less
less-is x y h =
    let less : nat_lt x y ≡ true = grind (arith, nat_tests) in
    ap (λ b. cond b Less (cond (x == y) Equal Greater)) less

greater-is : (x y : ℕ) → y < x → nat_cmp x y ≡ Greater
greater-is x y h =
    let not-less : nat_lt x y ≡ false = grind (arith, nat_tests) in
    let other : (x == y) ≡ false = grind (arith, nat_tests) in
    ap (λ b. cond b Less (cond (x == y) Equal Greater)) not-less ∙ ap (λ b. cond b Equal Greater) other

equal-is : (x y : ℕ) → x ≡ y → nat_cmp x y ≡ Equal
equal-is x y h =
    let not-less : nat_lt x y ≡ false = grind (arith, nat_tests) in
    let same : (x == y) ≡ true = grind (arith, nat_tests) in
    ap (λ b. cond b Less (cond (x == y) Equal Greater)) not-less ∙ ap (λ b. cond b Equal Greater) same

-- an ordering tells how numbers stand
told : (x y : ℕ) (o : Ordering) → nat_cmp x y ≡ o → MatchOrdering o (x < y) (x ≡ y) (y < x)
told x y o e = let P : Ordering → Type 0 = λ o. MatchOrdering o (x < y) (x ≡ y) (y < x) in subst P e (ranks x y)

cmp-behind : (o : Ordering) (a b n x y : ℕ) → nat_cmp a b ≡ o → x ≡ a + 10 * n → y ≡ b + 10 * n → nat_cmp x y ≡ o
cmp-behind Less a b n x y e h h' = less-is x y (omega (arith, told a b Less e))
cmp-behind Equal a b n x y e h h' = equal-is x y (omega (arith, told a b Equal e))
cmp-behind Greater a b n x y e h h' = greater-is x y (omega (arith, told a b Greater e))

-- numbers that are the same behind a place compare as their digits at it
pub cmp_at : (ds es : List ℕ) (p : ℕ) → value (drop (p + 1) ds) ≡ value (drop (p + 1) es) → nat_cmp (get_or ds p 0) (get_or es p 0) ≡ nat_cmp (value (drop p ds)) (value (drop p es))
cmp_at ds es p same =
    let one : p + 1 ≡ suc p = omega arith in
    let behind = sym (ap (λ k. value (drop k ds)) one) ∙ same ∙ ap (λ k. value (drop k es)) one in
    sym (cmp-behind (nat_cmp (get_or ds p 0) (get_or es p 0)) (get_or ds p 0) (get_or es p 0) (value (drop (suc p) es)) _ _ refl (value_drop ds p ∙ ap (λ n. get_or ds p 0 + 10 * n) behind) (value_drop es p))

-- where numbers differ from a place on, that decides
pub cmp_less : (ds es : List ℕ) (p : ℕ) → AreDigits ds → nat_cmp (value (drop p ds)) (value (drop p es)) ≡ Less → nat_cmp (value ds) (value es) ≡ Less
cmp_less ds es p h e = less-is (value ds) (value es) (less_from ds es p h (told (value (drop p ds)) (value (drop p es)) Less e))

pub cmp_greater : (ds es : List ℕ) (p : ℕ) → AreDigits es → nat_cmp (value (drop p ds)) (value (drop p es)) ≡ Greater → nat_cmp (value ds) (value es) ≡ Greater
cmp_greater ds es p h e = greater-is (value ds) (value es) (less_from es ds p h (told (value (drop p ds)) (value (drop p es)) Greater e))

-- and where they are the same from the first place on, they are the same
pub cmp_equal : (ds es : List ℕ) → value (drop 0 ds) ≡ value (drop 0 es) → nat_cmp (value ds) (value es) ≡ Equal
cmp_equal ds es e = equal-is (value ds) (value es) e

pub cmp_same : (ds es : List ℕ) (p : ℕ) → nat_cmp (value (drop p ds)) (value (drop p es)) ≡ Equal → value (drop p ds) ≡ value (drop p es)
cmp_same ds es p e = told (value (drop p ds)) (value (drop p es)) Equal e
