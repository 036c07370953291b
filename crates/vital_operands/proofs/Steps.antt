-- One turn of a loop over a list each of whose elements may give something.
use Rattle.std.proofs.Common.{◌≡◌, ℕ, zero, suc, ◌+◌, ◌<◌, List, [], ◌∷◌, ◌++◌, length, take, map, get_or, refl, sym, ◌∙◌, ap, arith}
use Rattle.std.specs.Prelude.{Bool, ◌||◌, Option, Some, None}
use Rattle.std.specs.List.{list_any}
use Rattle.std.specs.Option.{option_and_then, option_map}
use Rattle.std.proofs.lemmas.List.{map-append}
use Rattle.std.proofs.Math.Seq.{take-suc}
use Rattle.vital_operands.specs.Items.{all_some}

swap : {A : Type 0} (w v : A) (r : Option (List A)) → option_map (λ xs. w ∷ xs) (option_map (λ vs. vs ++ v ∷ []) r) ≡ option_map (λ vs. vs ++ v ∷ []) (option_map (λ xs. w ∷ xs) r)
swap w v None = refl
swap w v (Some vs) = refl

-- one more behind others
all_some-behind : {A : Type 0} (os : List (Option A)) (v : A) → all_some (os ++ Some v ∷ []) ≡ option_map (λ vs. vs ++ v ∷ []) (all_some os)
all_some-behind [] v = refl
all_some-behind (None ∷ os) v = refl
all_some-behind (Some w ∷ os) v = ap (option_map (λ xs. w ∷ xs)) (all_some-behind os v) ∙ swap w v (all_some os)

-- one element more gives something
pub all_some-more : {A B : Type 0} (f : A → Option B) (xs : List A) (i : ℕ) (x : A) (v : B) (vs : List B) → i < length xs → x ≡ get_or xs i x → f x ≡ Some v → all_some (map f (take i xs)) ≡ Some vs → all_some (map f (take (i + 1) xs)) ≡ Some (vs ++ v ∷ [])
all_some-more f xs i x v vs within is given before =
    let next : i + 1 ≡ suc i = omega arith in
    ap (λ k. all_some (map f (take k xs))) next
    ∙ ap (λ ys. all_some (map f ys)) (take-suc xs i x within)
    ∙ ap all_some (map-append f (take i xs) (get_or xs i x ∷ []))
    ∙ ap (λ y. all_some (map f (take i xs) ++ f y ∷ [])) (sym is)
    ∙ ap (λ o. all_some (map f (take i xs) ++ o ∷ [])) given
    ∙ all_some-behind (map f (take i xs)) v
    ∙ ap (option_map (λ ws. ws ++ v ∷ [])) before

none-kept : {A B : Type 0} (o : Option A) → option_and_then {T = A} {U = B} (λ x. None) o ≡ None
none-kept None = refl
none-kept (Some x) = refl

-- an element gives nothing
pub all_some-missing : {A B : Type 0} (f : A → Option B) (xs : List A) (i : ℕ) (x : A) → i < length xs → x ≡ get_or xs i x → f x ≡ None → all_some (map f xs) ≡ None
all_some-missing f [] i x within is missing = absurd (omega arith)
all_some-missing f (y ∷ ys) zero x within is missing = ap (λ o. option_and_then (λ v. option_map (λ vs. v ∷ vs) (all_some (map f ys))) o) (ap f (sym is) ∙ missing)
all_some-missing f (y ∷ ys) (suc i) x within is missing =
    let there : i < length ys = omega arith in
    ap (λ r. option_and_then (λ v. option_map (λ vs. v ∷ vs) r) (f y)) (all_some-missing f ys i x there is missing) ∙ none-kept (f y)

-- a test of what is made of elements
pub any_map : {X Y : Type 0} (p : X → Bool) (f : Y → X) (ys : List Y) → list_any p (map f ys) ≡ list_any (λ y. p (f y)) ys
any_map p f [] = refl
any_map p f (y ∷ ys) = ap (λ b. p (f y) || b) (any_map p f ys)
