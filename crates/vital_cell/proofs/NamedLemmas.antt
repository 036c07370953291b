-- The first of a name among values that stand beside names.
use Rattle.std.proofs.Common.{◌≡◌, ℕ, suc, ◌+◌, true, false, List, [], ◌∷◌, map, refl, sym, ◌∙◌, ap, arith}
use Rattle.std.specs.Prelude.{Bool, cond, find, position, slice_get, Option, Some, None}
use Rattle.std.specs.List.{position_from, zip}
use Rattle.std.specs.Option.{option_and_then, option_map}
use Rattle.std.specs.Str.{bytes_eq}
use Rattle.std.proofs.lemmas.Iterator.Adapters.{position_from-zero}

none-there : {A : Type 0} (o : Option ℕ) → option_and_then (λ n. slice_get {X = A} [] n) o ≡ None
none-there None = refl
none-there (Some n) = refl

-- one more in front of both
pick : {A : Type 0} (b : Bool) (x : A) (xs : List A) (i : ℕ) (o p : Option ℕ) → option_and_then (slice_get (x ∷ xs)) o ≡ option_and_then (slice_get xs) p → option_and_then (slice_get (x ∷ xs)) (cond b (Some (i + 1)) o) ≡ option_and_then (slice_get xs) (cond b (Some i) p)
pick true x xs i o p same =
    let next : i + 1 ≡ suc i = omega arith in
    ap (slice_get (x ∷ xs)) next
pick false x xs i o p same = same

behind : {A B : Type 0} (test : B → Bool) (x : A) (xs : List A) (i : ℕ) (ns : List B) → option_and_then (slice_get (x ∷ xs)) (position_from test (i + 1) ns) ≡ option_and_then (slice_get xs) (position_from test i ns)
behind test x xs i [] = refl
behind test x xs i (n ∷ ns) = pick (test n) x xs i (position_from test (i + 1 + 1) ns) (position_from test (i + 1) ns) (behind test x xs (i + 1) ns)

first-or-rest : {A B R : Type 0} (b : Bool) (f : R → B) (g : A → B) (r : R) (x : A) (xs : List A) (rest : Option R) (o : Option ℕ) → f r ≡ g x → option_map f rest ≡ option_map g (option_and_then (slice_get (x ∷ xs)) o) → option_map f (cond b (Some r) rest) ≡ option_map g (option_and_then (slice_get (x ∷ xs)) (cond b (Some 0) o))
first-or-rest true f g r x xs rest o same others = ap Some same
first-or-rest false f g r x xs rest o same others = others

found-from : {A B R : Type 0} (name_of : R → List ℕ) (make : (List ℕ × A) → R) (f : R → B) (g : A → B) → ((p : List ℕ × A) → name_of (make p) ≡ p.0) → ((p : List ℕ × A) → f (make p) ≡ g p.1) → (name : List ℕ) (names : List (List ℕ)) (xs : List A) → option_map f (find (λ r. bytes_eq (name_of r) name) (map make (zip names xs))) ≡ option_map g (option_and_then (slice_get xs) (position_from (λ n. bytes_eq n name) 0 names))
found-from name_of make f g keeps gives name [] xs = refl
found-from name_of make f g keeps gives name (n ∷ ns) [] = ap (option_map g) (sym (none-there (position_from (λ n. bytes_eq n name) 0 (n ∷ ns))))
found-from name_of make f g keeps gives name (n ∷ ns) (x ∷ xs) =
    let rest = find (λ r. bytes_eq (name_of r) name) (map make (zip ns xs)) in
    ap (λ m. option_map f (cond (bytes_eq m name) (Some (make (n, x))) rest)) (keeps (n, x))
    ∙ first-or-rest (bytes_eq n name) f g (make (n, x)) x xs rest (position_from (λ m. bytes_eq m name) 1 ns) (gives (n, x))
    (found-from name_of make f g keeps gives name ns xs ∙ ap (option_map g) (sym (behind (λ m. bytes_eq m name) x xs 0 ns)))

pub found : {A B R : Type 0} (name_of : R → List ℕ) (make : (List ℕ × A) → R) (f : R → B) (g : A → B) → ((p : List ℕ × A) → name_of (make p) ≡ p.0) → ((p : List ℕ × A) → f (make p) ≡ g p.1) → (name : List ℕ) (names : List (List ℕ)) (xs : List A) → option_map f (find (λ r. bytes_eq (name_of r) name) (map make (zip names xs))) ≡ option_map g (option_and_then (slice_get xs) (position (λ n. bytes_eq n name) names))
found name_of make f g keeps gives name names xs =
    found-from name_of make f g keeps gives name names xs
    ∙ ap (λ o. option_map g (option_and_then (slice_get xs) o)) (sym (position_from-zero (λ n. bytes_eq n name) names))
