-- The first of a name, with one more behind the others.
use Rattle.std.proofs.Common.{◌≡◌, ℕ, ◌+◌, ◌<◌, true, false, List, [], ◌∷◌, length, take, map, get_or, refl, sym, ◌∙◌, ap}
use Rattle.std.specs.Prelude.{Bool, ◌||◌, cond, Option, Some, None, is_some}
use Rattle.std.specs.List.{find}
use Rattle.std.specs.Option.{option_map, option_or}
use Rattle.std.proofs.lemmas.List.{get_or_default}
use Rattle.std.proofs.lemmas.List.Folds.{find-append}
use Rattle.vital_nodes.proofs.Lists.{map-take}

-- one value more in a map, under a name that had none
pub put-new : {V : Type 0} (at_name at_q new : Option V) (value : V) (same : Bool) → (same ≡ true → at_name ≡ at_q) → is_some at_name ≡ false → new ≡ cond same (Some value) at_q → new ≡ option_or at_q (cond same (Some value) None)
put-new at_name None new value same alike fresh is = is
put-new at_name (Some v) new value false alike fresh is = is
put-new at_name (Some v) new value true alike fresh is =
    let there : is_some at_name ≡ true = ap is_some (alike refl) in
    let bad : true ≡ false = sym there ∙ fresh in
    cc

option_map-or : {V W : Type 0} (f : V → W) (o : Option V) (b : Bool) (v : V) → option_map f (option_or o (cond b (Some v) None)) ≡ option_or (option_map f o) (cond b (Some (f v)) None)
option_map-or f None true v = refl
option_map-or f None false v = refl
option_map-or f (Some w) b v = refl

-- the first that passes, with one more behind the others
pub find-more : {V W : Type 0} (f : V → W) (test : W → Bool) (xs : List V) (i : ℕ) (x : V) → i < length xs → x ≡ get_or xs i x → option_or (find test (map f (take i xs))) (cond (test (f x)) (Some (f x)) None) ≡ find test (map f (take (i + 1) xs))
find-more f test xs i x within is = sym (ap (find test) (map-take f xs i x within is) ∙ find-append test (map f (take i xs)) (f x ∷ []))

-- the same, where a map has what is seen of them
pub first-more : {V W : Type 0} (f : V → W) (test : W → Bool) (xs : List V) (i : ℕ) (x : V) (old new : Option V) (same : Bool) → i < length xs → x ≡ get_or xs i x → same ≡ test (f x) → option_map f old ≡ find test (map f (take i xs)) → new ≡ option_or old (cond same (Some x) None) → option_map f new ≡ find test (map f (take (i + 1) xs))
first-more f test xs i x old new same within is passes before put =
    ap (option_map f) put
    ∙ option_map-or f old same x
    ∙ ap (λ o. option_or o (cond same (Some (f x)) None)) before
    ∙ ap (λ b. option_or (find test (map f (take i xs))) (cond b (Some (f x)) None)) passes
    ∙ find-more f test xs i x within is

-- the same, where a map has a value of each
pub value-more : {A V W : Type 0} (f : A → W) (test : W → Bool) (value : W → V) (xs : List A) (i : ℕ) (d : A) (old new : Option V) → i < length xs → old ≡ option_map value (find test (map f (take i xs))) → new ≡ option_or old (cond (test (f (get_or xs i d))) (Some (value (f (get_or xs i d)))) None) → new ≡ option_map value (find test (map f (take (i + 1) xs)))
value-more f test value xs i d old new within before put =
    let x = get_or xs i d in
    put
    ∙ ap (λ o. option_or o (cond (test (f x)) (Some (value (f x))) None)) before
    ∙ sym (option_map-or value (find test (map f (take i xs))) (test (f x)) (f x))
    ∙ ap (option_map value) (find-more f test xs i x within (get_or_default xs i d x within))

-- ---- whether there is one
pub is_some-map : {V W : Type 0} (f : V → W) (o : Option V) → is_some (option_map f o) ≡ is_some o
is_some-map f None = refl
is_some-map f (Some v) = refl

pub or-right : (a b : Bool) → a ≡ false → b ≡ (a || b)
or-right true b h = absurd (cc)
or-right false b h = refl
