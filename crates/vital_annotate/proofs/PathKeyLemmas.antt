-- Numbers by keys.
use Rattle.std.proofs.Common.{◌≡◌, ℕ, suc, ◌+◌, ◌<◌, true, false, List, [], ◌∷◌, ◌++◌, length, map, take, get_or, refl, sym, ◌∙◌, ap, append-nil, arith}
use Rattle.std.specs.Prelude.{Bool, cond, filter, Option, Some, None}
use Rattle.std.specs.List.{enumerate_from}
use Rattle.std.specs.Option.{option_map_or}
use Rattle.std.specs.Str.{bytes_eq}
use Rattle.std.specs.Borrow.{Bor}
use Rattle.std.specs.Cmp.Lexicographic.{bytes_decides}
use Rattle.std.specs.HashMap.{HashMap, get_by}
use Rattle.std.specs.declared.alloc.Global.{Global}
use Rattle.std.specs.declared.vec.Vec.{Vec}
use Rattle.std.specs.declared.hash.BuildHasherDefault.{BuildHasherDefault}
use Rattle.std.specs.declared.hash.FoldHasher.{FoldHasher}
use Rattle.std.proofs.lemmas.List.{length-map, length-take-le, map_more}
use Rattle.vital_annotate.specs.Numbers.{numbers_where}
use Rattle.vital_annotate.specs.PathKeys.{numbers_under}

abbrev pub Groups : Type 0
Groups = HashMap (Bor (List ℕ)) (Vec ℕ Global) (BuildHasherDefault FoldHasher)

abbrev pub got : Groups → List ℕ → Option (Vec ℕ Global)
got groups name = get_by (λ key. bytes_eq name key.now) groups

abbrev pub items_of : Option (Vec ℕ Global) → List ℕ
items_of group = option_map_or (λ v. v.items) group []

-- ---- one number more under a key
put-at : (old_name old_q new_q removed_q : Option (Vec ℕ Global)) (pushed : Vec ℕ Global) (number : ℕ) (b : Bool) → (b ≡ true → old_name ≡ old_q) → new_q ≡ cond b (Some pushed) removed_q → removed_q ≡ cond b None old_q → pushed.items ≡ items_of old_name ++ number ∷ [] → items_of new_q ≡ items_of old_q ++ cond b (number ∷ []) []
put-at old_name old_q new_q removed_q pushed number true same new removed more = ap items_of new ∙ more ∙ ap (λ o. items_of o ++ number ∷ []) (same refl)
put-at old_name old_q new_q removed_q pushed number false same new removed more = ap items_of (new ∙ removed) ∙ sym (append-nil (items_of old_q))

pub group-put : (old removed new : Groups) (name q : List ℕ) (pushed : Vec ℕ Global) (number : ℕ) → got new q ≡ cond (bytes_eq name q) (Some pushed) (got removed q) → got removed q ≡ cond (bytes_eq name q) None (got old q) → pushed.items ≡ numbers_under old name ++ number ∷ [] → numbers_under new q ≡ numbers_under old q ++ cond (bytes_eq name q) (number ∷ []) []
group-put old removed new name q pushed number = put-at (got old name) (got old q) (got new q) (got removed q) pushed number (bytes_eq name q) (λ e. ap (got old) ((bytes_decides name q).0 e))

-- ---- one more item
abbrev pub numbers_from : {A : Type 0} → (A → Bool) → ℕ → List A → List ℕ
numbers_from test n xs = map (λ x. x.0) (filter (λ x. test x.1) (enumerate_from n xs))

from-step : {A : Type 0} (b c : Bool) (n m : ℕ) (y : A) (xs ys : List (ℕ × A)) → map (λ (z : ℕ × A). z.0) xs ≡ map (λ (z : ℕ × A). z.0) ys ++ cond c (m ∷ []) [] → map (λ (z : ℕ × A). z.0) (cond b ((n, y) ∷ xs) xs) ≡ map (λ (z : ℕ × A). z.0) (cond b ((n, y) ∷ ys) ys) ++ cond c (m ∷ []) []
from-step true c n m y xs ys e = ap (λ l. n ∷ l) e
from-step false c n m y xs ys e = e

from-last : {A : Type 0} (b : Bool) (n : ℕ) (x : A) → map (λ (z : ℕ × A). z.0) (cond b ((n, x) ∷ []) []) ≡ cond b (n ∷ []) []
from-last true n x = refl
from-last false n x = refl

pub from-more : {A : Type 0} (test : A → Bool) (n : ℕ) (xs : List A) (x : A) → numbers_from test n (xs ++ x ∷ []) ≡ numbers_from test n xs ++ cond (test x) ((n + length xs) ∷ []) []
from-more test n [] x =
    let same : n ≡ n + 0 = omega arith in
    from-last (test x) n x ∙ ap (λ m. cond (test x) (m ∷ []) []) same
from-more test n (y ∷ ys) x =
    let counted : (n + 1) + length ys ≡ n + suc (length ys) = omega arith in
    from-step (test y) (test x) n (n + suc (length ys)) y _ _ (from-more test (n + 1) ys x ∙ ap (λ m. numbers_from test (n + 1) ys ++ cond (test x) (m ∷ []) []) counted)

-- as a loop goes on
pub numbers-more : {A B : Type 0} (f : A → B) (test : B → Bool) (xs : List A) (i : ℕ) (x : A) (old new : List ℕ) (b : Bool) → i < length xs → x ≡ get_or xs i x → b ≡ test (f x) → old ≡ numbers_where test (map f (take i xs)) → new ≡ old ++ cond b (i ∷ []) [] → new ≡ numbers_where test (map f (take (i + 1) xs))
numbers-more f test xs i x old new b inside is passes before more =
    let counted : 0 + length (map f (take i xs)) ≡ i = omega (arith, length-map (take i xs) f, length-take-le i xs (omega arith)) in
    more
    ∙ ap (λ l. l ++ cond b (i ∷ []) []) before
    ∙ ap (λ c. numbers_where test (map f (take i xs)) ++ cond c (i ∷ []) []) passes
    ∙ ap (λ n. numbers_where test (map f (take i xs)) ++ cond (test (f x)) (n ∷ []) []) (sym counted)
    ∙ sym (from-more test 0 (map f (take i xs)) (f x))
    ∙ ap (numbers_where test) (sym (map_more f xs i x inside ∙ ap (λ y. map f (take i xs) ++ f y ∷ []) (sym is)))
