-- Lists in which no two elements are alike, since each is judged with those before it.
use Rattle.std.proofs.Common.{◌≡◌, ℕ, Bool, true, false, List, [], ◌∷◌, ◌++◌, map, Option, Some, None, refl, sym, ap, ◌∙◌, subst, arith}
use Rattle.std.proofs.lemmas.List.Elements.{filter_map-append}
use Rattle.std.proofs.lemmas.List.Folds.{list_any-append}
use Rattle.std.proofs.lemmas.Map.Keys.{IsDistinct-cons}
use Rattle.std.proofs.lemmas.Map.Made.{IsDistinct-from_AllPairs}
use Rattle.std.proofs.lemmas.Slice.Eq.{bytes_eq-Decides}
use Rattle.std.specs.Prelude.{⊤, ◌||◌}
use Rattle.std.specs.List.{AllByRecursion, IsDistinct, cons_option, filter_map, list_any}
use Rattle.std.specs.Str.{bytes_eq}
use Rattle.vital_base.specs.declared.place.Place.{Place}
use Rattle.vital_statements.specs.Lists.{each_after, place_if}

pub never : {A : Type 0} → true ≡ false → A
never wrong = cc

-- ---- lists of places

pub none-before : {A : Type 0} (xs ys : List A) → xs ++ ys ≡ [] → xs ≡ []
none-before [] ys is = refl
none-before (x ∷ xs) ys is = cc

pub none-behind : {A : Type 0} (xs ys : List A) → xs ++ ys ≡ [] → ys ≡ []
none-behind [] ys is = is
none-behind (x ∷ xs) ys is = cc

pub none-placed : (is_broken : Bool) (place : Place) → place_if is_broken place ≡ [] → is_broken ≡ false
none-placed true place is = cc
none-placed false place is = refl

pub first-false : (a b : Bool) → (a || b) ≡ false → a ≡ false
first-false true b is = is
first-false false b is = refl

pub second-false : (a b : Bool) → (a || b) ≡ false → b ≡ false
second-false true b is = cc
second-false false b is = is

-- ---- what each is, with those before it

-- Something holds of each, with those before it.
abbrev pub Each : {A : Type 0} → (List A → A → Type 0) → List A → List A → Type 0
Each P before [] = ⊤
Each P before (x ∷ xs) = P before x × Each P (before ++ x ∷ []) xs

pub each-none : {A B : Type 0} (give : List A → A → List B) (before xs : List A) → each_after give before xs ≡ [] → Each (λ bs x. give bs x ≡ []) before xs
each-none give before [] is = tt
each-none give before (x ∷ xs) is = (
  none-before (give before x) (each_after give (before ++ x ∷ []) xs) is,
  each-none give (before ++ x ∷ []) xs (none-behind (give before x) (each_after give (before ++ x ∷ []) xs) is),
)

-- ---- what is found is apart

-- No element is like a later one.
abbrev pub AreApart : {B : Type 0} → (B → B → Bool) → List B → Type 0
AreApart like [] = ⊤
AreApart like (x ∷ xs) = AllByRecursion (λ y. like x y ≡ false) xs × AreApart like xs

pub distinct : (ns : List (List ℕ)) → AreApart bytes_eq ns → IsDistinct bytes_eq ns
distinct [] apart = IsDistinct-from_AllPairs bytes_eq-Decides [] (λ i j d lt within. absurd (omega arith))
distinct (n ∷ ns) apart = IsDistinct-cons bytes_eq n ns apart.0 (distinct ns apart.1)

-- What is found at an element is like nothing that is found before it.
abbrev pub IsApart : {A B : Type 0} → (A → Option B) → (B → B → Bool) → List A → A → Type 0
IsApart {A} {B} find like before x = (w : B) → find x ≡ Some w → list_any (λ v. like v w) (filter_map find before) ≡ false

abbrev NoneLike : {B : Type 0} → (B → B → Bool) → List B → List B → Type 0
NoneLike like vs ws = AllByRecursion (λ w. list_any (λ v. like v w) vs ≡ false) ws

parted : {B : Type 0} (like : B → B → Bool) (vs us ws : List B) → NoneLike like (vs ++ us) ws → NoneLike like vs ws × NoneLike like us ws
parted like vs us [] none = (tt, tt)
parted like vs us (w ∷ ws) none =
    let both = sym (list_any-append (λ v. like v w) vs us) ∙ none.0 in
    let others = parted like vs us ws none.1 in (
      (first-false (list_any (λ v. like v w) vs) (list_any (λ v. like v w) us) both, others.0),
      (second-false (list_any (λ v. like v w) vs) (list_any (λ v. like v w) us) both, others.1),
    )

alone : {B : Type 0} (like : B → B → Bool) (u : B) (ws : List B) → NoneLike like (u ∷ []) ws → AllByRecursion (λ w. like u w ≡ false) ws
alone like u [] none = tt
alone like u (w ∷ ws) none = (first-false (like u w) false none.0, alone like u ws none.1)

found-step : {A B : Type 0} (find : A → Option B) (like : B → B → Bool) (before : List A) (x : A) (xs : List A) (o : Option B) → find x ≡ o → IsApart find like before x
    → NoneLike like (filter_map find (before ++ x ∷ [])) (filter_map find xs) × AreApart like (filter_map find xs)
    → NoneLike like (filter_map find before) (cons_option o (filter_map find xs)) × AreApart like (cons_option o (filter_map find xs))
found-step find like before x xs None is apart others =
    let found : filter_map find (before ++ x ∷ []) ≡ filter_map find before ++ [] = filter_map-append find before (x ∷ []) ∙ ap (λ o. filter_map find before ++ cons_option o []) is in
    ((parted like (filter_map find before) [] (filter_map find xs) (subst (λ vs. NoneLike like vs (filter_map find xs)) found others.0)).0, others.1)
found-step find like before x xs (Some w) is apart others =
    let found : filter_map find (before ++ x ∷ []) ≡ filter_map find before ++ w ∷ [] = filter_map-append find before (x ∷ []) ∙ ap (λ o. filter_map find before ++ cons_option o []) is in
    let both = parted like (filter_map find before) (w ∷ []) (filter_map find xs) (subst (λ vs. NoneLike like vs (filter_map find xs)) found others.0) in
    ((apart w is, both.0), (alone like w (filter_map find xs) both.1, others.1))

found-apart : {A B : Type 0} (find : A → Option B) (like : B → B → Bool) (before xs : List A) → Each (IsApart find like) before xs
    → NoneLike like (filter_map find before) (filter_map find xs) × AreApart like (filter_map find xs)
found-apart find like before [] each = (tt, tt)
found-apart find like before (x ∷ xs) each = found-step find like before x xs (find x) refl each.0 (found-apart find like (before ++ x ∷ []) xs each.1)

pub is-distinct : {A B : Type 0} (find : A → Option B) (like : B → B → Bool) (xs : List A) → Each (IsApart find like) [] xs → AreApart like (filter_map find xs)
is-distinct find like xs each = (found-apart find like [] xs each).1

-- What holds of each holds by what is weaker.
pub each-weaker : {A : Type 0} (P Q : List A → A → Type 0) → ((before : List A) (x : A) → P before x → Q before x) → (before xs : List A) → Each P before xs → Each Q before xs
each-weaker P Q weaker before [] each = tt
each-weaker P Q weaker before (x ∷ xs) each = (weaker before x each.0, each-weaker P Q weaker (before ++ x ∷ []) xs each.1)

-- ---- names

all-named : {B K : Type 0} (like : B → B → Bool) (eq : K → K → Bool) (name : B → K) → ((v w : B) → like v w ≡ false → eq (name v) (name w) ≡ false) → (v : B) (ws : List B)
    → AllByRecursion (λ w. like v w ≡ false) ws → AllByRecursion (λ k. eq (name v) k ≡ false) (map name ws)
all-named like eq name differ v [] all = tt
all-named like eq name differ v (w ∷ ws) all = (differ v w all.0, all-named like eq name differ v ws all.1)

-- Elements that are not alike have names that differ.
pub names-differ : {B K : Type 0} (like : B → B → Bool) (eq : K → K → Bool) (name : B → K) → ((v w : B) → like v w ≡ false → eq (name v) (name w) ≡ false) → (ws : List B)
    → AreApart like ws → AreApart eq (map name ws)
names-differ like eq name differ [] distinct = tt
names-differ like eq name differ (w ∷ ws) distinct = (all-named like eq name differ w ws distinct.0, names-differ like eq name differ ws distinct.1)
