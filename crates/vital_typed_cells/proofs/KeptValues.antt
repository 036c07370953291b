-- The values of constants of packages that are kept: those of constants that break no clause and pass no limit.
use Rattle.std.proofs.Common.{◌≡◌, ◌<◌, ℕ, zero, suc, ◌+◌, Bool, false, List, [], ◌∷◌, ◌++◌, length, map, Option, Some, None, refl, sym, ap, ◌∙◌, subst, arith}
use Rattle.std.specs.Prelude.{◌||◌, cond, get_or, slice_get}
use Rattle.std.specs.List.{enumerate_from}
use Rattle.std.specs.Option.{option_and_then, option_map, option_map_or}
use Rattle.std.proofs.lemmas.List.{length-map}
use Rattle.std.proofs.lemmas.List.FromFn.{length-enumerate_from}
use Rattle.std.proofs.lemmas.Option.{slice_get-get_or}
use Rattle.vital_limits.specs.ConstantLimits.{constant_limits, limits_at, no_limits}
use Rattle.vital_limits.specs.declared.packages.ConstantLimits.{ConstantLimits}
use Rattle.vital_nodes.specs.declared.unit.Units.{Units}
use Rattle.vital_objects.specs.declared.package_value.PackageValue.{PackageValue}
use Rattle.vital_objects.specs.PackageValues.{package_values, value_at}
use Rattle.vital_package_constants.specs.Breaches.{breaches_at, breaks_any, constant_breaches, no_breaches}
use Rattle.vital_package_constants.specs.declared.breaches.ConstantBreaches.{ConstantBreaches}
use Rattle.vital_typed_cells.specs.Packages.{if_sound, is_unsound, kept_values, passes_any, sound_values}
use Rattle.vital_typed_cells.proofs.ValueLemmas.{numbered-more}
use Rattle.vital_typed_cells.proofs.Unbroken.{IsFree, IsWithin}

-- ---- one value

-- An element of a list that is made of the numbered elements of another.
numbered-at : {A B : Type 0} (f : (ℕ × A) → B) (xs : List A) (k n m : ℕ) → m ≡ k + n → slice_get (map f (enumerate_from k xs)) n ≡ option_map (λ x. f (m, x)) (slice_get xs n)
numbered-at f [] k n m is = refl
numbered-at f (x ∷ xs) k zero m is = let same : k ≡ m = omega (arith, is) in ap (λ j. Some (f (j, x))) same
numbered-at f (x ∷ xs) k (suc n) m is = numbered-at f xs (k + 1) n m (omega (arith, is))

kept-of : (b : Bool) (o : Option (Option PackageValue)) → b ≡ false → option_and_then (λ v. v) (option_map (λ v. cond b None v) o) ≡ option_and_then (λ v. v) o
kept-of b None is = refl
kept-of b (Some v) is = ap (λ c. cond c None v) is

neither : (a b : Bool) → a ≡ false → b ≡ false → (a || b) ≡ false
neither a b first second = ap (λ x. x || b) first ∙ second

value-kept : (bs : List ConstantBreaches) (ls : List ConstantLimits) (vs : List (Option PackageValue)) (n : ℕ) → IsFree (breaches_at bs n) → IsWithin (limits_at ls n) → value_at (kept_values bs ls vs) n ≡ value_at vs n
value-kept bs ls vs n free within =
    ap (option_and_then (λ v. v)) (numbered-at (if_sound bs ls) vs 0 n n (omega arith))
    ∙ kept-of (is_unsound bs ls n) (slice_get vs n) (neither (breaks_any (breaches_at bs n)) (passes_any (limits_at ls n)) free within)

-- What a constant is worth that breaks no clause and passes no limit.
pub package-kept : (files : List Units) (n : ℕ) → IsFree (breaches_at (constant_breaches files) n) → IsWithin (limits_at (constant_limits files) n) → value_at (sound_values files) n ≡ value_at (package_values files) n
unfolding sound_values
package-kept files n free within = value-kept (constant_breaches files) (constant_limits files) (package_values files) n free within

-- ---- elements of a list with more behind it

pub front-some : {A : Type 0} (xs ys : List A) (n : ℕ) (x : A) → slice_get xs n ≡ Some x → slice_get (xs ++ ys) n ≡ Some x
front-some [] ys n x is = absurd (cc)
front-some (y ∷ xs) ys zero x is = is
front-some (y ∷ xs) ys (suc n) x is = front-some xs ys n x is

pub front-got : {A : Type 0} (d : A) (xs ys : List A) (n : ℕ) → n < length xs → slice_get (xs ++ ys) n ≡ slice_get xs n
front-got d xs ys n below = front-some xs ys n (get_or xs n d) (slice_get-get_or xs n d below) ∙ sym (slice_get-get_or xs n d below)

here-got : {A : Type 0} (xs ys : List A) (x : A) (n : ℕ) → n ≡ length xs → slice_get (xs ++ x ∷ ys) n ≡ Some x
here-got [] ys x zero is = refl
here-got [] ys x (suc n) is = absurd (omega (arith, is))
here-got (y ∷ xs) ys x zero is = absurd (omega (arith, is))
here-got (y ∷ xs) ys x (suc n) is = here-got xs ys x n (omega (arith, is))

-- ---- all values

abbrev pub kept : ConstantBreaches → ConstantLimits → Option PackageValue → Option PackageValue
kept b l v = cond (breaks_any b || passes_any l) None v

numbered-same : {A B : Type 0} (f g : (ℕ × A) → B) (xs : List A) (k m : ℕ) → ((n : ℕ) (x : A) → n < m → f (n, x) ≡ g (n, x)) → m ≡ k + length xs → map f (enumerate_from k xs) ≡ map g (enumerate_from k xs)
numbered-same f g [] k m same is = refl
numbered-same f g (x ∷ xs) k m same is =
    ap (λ y. y ∷ map f (enumerate_from (k + 1) xs)) (same k x (omega (arith, is))) ∙ ap (λ ys. g (k, x) ∷ ys) (numbered-same f g xs (k + 1) m same (omega (arith, is)))

-- What is kept of one more.
pub kept-more : (bs : List ConstantBreaches) (ls : List ConstantLimits) (vs : List (Option PackageValue)) (b : ConstantBreaches) (l : ConstantLimits) (v : Option PackageValue) → length bs ≡ length vs → length ls ≡ length vs
    → kept_values (bs ++ b ∷ []) (ls ++ l ∷ []) (vs ++ v ∷ []) ≡ kept_values bs ls vs ++ kept b l v ∷ []
kept-more bs ls vs b l v breaches limits =
    numbered-more (if_sound (bs ++ b ∷ []) (ls ++ l ∷ [])) vs v 0 (length vs) (omega arith)
    ∙ ap (λ c. map (if_sound (bs ++ b ∷ []) (ls ++ l ∷ [])) (enumerate_from 0 vs) ++ cond (breaks_any (option_map_or (λ x. x) c no_breaches) || passes_any (limits_at (ls ++ l ∷ []) (length vs))) None v ∷ [])
    (here-got bs [] b (length vs) (sym breaches))
    ∙ ap (λ c. map (if_sound (bs ++ b ∷ []) (ls ++ l ∷ [])) (enumerate_from 0 vs) ++ cond (breaks_any b || passes_any (option_map_or (λ x. x) c no_limits)) None v ∷ [])
    (here-got ls [] l (length vs) (sym limits))
    ∙ ap (λ xs. xs ++ kept b l v ∷ [])
    (numbered-same (if_sound (bs ++ b ∷ []) (ls ++ l ∷ [])) (if_sound bs ls) vs 0 (length vs)
    (λ n x below.
    ap (λ c. cond (breaks_any (option_map_or (λ y. y) c no_breaches) || passes_any (limits_at (ls ++ l ∷ []) n)) None x) (front-got no_breaches bs (b ∷ []) n (subst (λ m. n < m) (sym breaches) below))
    ∙ ap (λ c. cond (breaks_any (breaches_at bs n) || passes_any (option_map_or (λ y. y) c no_limits)) None x) (front-got no_limits ls (l ∷ []) n (subst (λ m. n < m) (sym limits) below)))
    (omega arith))

-- The constant of a number that breaks no clause and passes no limit is worth the same among them, whatever stands behind them.
pub value-among : (bs : List ConstantBreaches) (ls : List ConstantLimits) (vs more : List (Option PackageValue)) (n : ℕ) → n < length vs → IsFree (breaches_at bs n) → IsWithin (limits_at ls n) → value_at (kept_values bs ls vs ++ more) n ≡ value_at vs n
value-among bs ls vs more n below free within =
    let count : length (kept_values bs ls vs) ≡ length vs = length-map (enumerate_from 0 vs) (if_sound bs ls) ∙ length-enumerate_from 0 vs in
    ap (option_and_then (λ v. v)) (front-got None (kept_values bs ls vs) more n (subst (λ m. n < m) (sym count) below)) ∙ value-kept bs ls vs n free within
