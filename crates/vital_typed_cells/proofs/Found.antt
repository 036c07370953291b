-- What is found in lists of which each element has a property.
use Rattle.std.proofs.Common.{◌≡◌, Bool, true, false, List, [], ◌∷◌, ◌++◌, map, Option, Some, None, refl}
use Rattle.std.specs.Prelude.{◌||◌, cond, IfSome, find}
use Rattle.std.specs.List.{AllByRecursion, cons_option, filter_map, list_any}
use Rattle.std.specs.Option.{option_and_then, option_map, option_map_or, option_or}

-- ---- options

pub if-or : {A : Type 0} (P : A → Type 0) (b : Bool) (x : A) (o : Option A) → (b ≡ true → P x) → IfSome o P → IfSome (cond b (Some x) o) P
if-or P true x o here there = here refl
if-or P false x o here there = there

pub either : {A : Type 0} (P : A → Type 0) (o q : Option A) → IfSome o P → IfSome q P → IfSome (option_or o q) P
either P None q first second = second
either P (Some x) q first second = first

pub mapped : {A B : Type 0} (P : B → Type 0) (f : A → B) (o : Option A) → IfSome o (λ x. P (f x)) → IfSome (option_map f o) P
mapped P f None has = tt
mapped P f (Some x) has = has

pub then-some : {A B : Type 0} (P : B → Type 0) (f : A → Option B) (o : Option A) → IfSome o (λ x. IfSome (f x) P) → IfSome (option_and_then f o) P
then-some P f None has = tt
then-some P f (Some x) has = has

-- ---- lists

pub found : {A : Type 0} (P : A → Type 0) (test : A → Bool) (xs : List A) → AllByRecursion P xs → IfSome (find test xs) (λ x. P x × (test x ≡ true))
found P test [] all = tt
found P test (x ∷ xs) all = if-or (λ y. P y × (test y ≡ true)) (test x) x (find test xs) (λ is. (all.0, is)) (found P test xs all.1)

pub weaker : {A : Type 0} (P Q : A → Type 0) → ((x : A) → P x → Q x) → (xs : List A) → AllByRecursion P xs → AllByRecursion Q xs
weaker P Q step [] all = tt
weaker P Q step (x ∷ xs) all = (step x all.0, weaker P Q step xs all.1)

pub each : {A : Type 0} (P : A → Type 0) → ((x : A) → P x) → (xs : List A) → AllByRecursion P xs
each P holds [] = tt
each P holds (x ∷ xs) = (holds x, each P holds xs)

pub both-lists : {A : Type 0} (P : A → Type 0) (xs ys : List A) → AllByRecursion P xs → AllByRecursion P ys → AllByRecursion P (xs ++ ys)
both-lists P [] ys first second = second
both-lists P (x ∷ xs) ys first second = (first.0, both-lists P xs ys first.1 second)

pub all-mapped : {A B : Type 0} (P : B → Type 0) (f : A → B) (xs : List A) → AllByRecursion (λ x. P (f x)) xs → AllByRecursion P (map f xs)
all-mapped P f [] all = tt
all-mapped P f (x ∷ xs) all = (all.0, all-mapped P f xs all.1)

put-kept : {B : Type 0} (P : B → Type 0) (o : Option B) (bs : List B) → IfSome o P → AllByRecursion P bs → AllByRecursion P (cons_option o bs)
put-kept P None bs here there = there
put-kept P (Some b) bs here there = (here, there)

pub all-kept : {A B : Type 0} (P : B → Type 0) (f : A → Option B) (xs : List A) → AllByRecursion (λ x. IfSome (f x) P) xs → AllByRecursion P (filter_map f xs)
all-kept P f [] all = tt
all-kept P f (x ∷ xs) all = put-kept P (f x) (filter_map f xs) all.0 (all-kept P f xs all.1)

-- ---- what one list has of each element of another

or-right : (a b : Bool) → b ≡ true → (a || b) ≡ true
or-right true b is = refl
or-right false b is = is

or-left : (a b : Bool) → a ≡ true → (a || b) ≡ true
or-left true b is = refl
or-left false b is = cc

pub more-any : {B : Type 0} (test : B → Bool) (o : Option B) (bs : List B) → list_any test bs ≡ true → list_any test (cons_option o bs) ≡ true
more-any test None bs is = is
more-any test (Some b) bs is = or-right (test b) (list_any test bs) is

pub here-any : {B : Type 0} (test : B → Bool) (o : Option B) (bs : List B) → option_map_or test o false ≡ true → list_any test (cons_option o bs) ≡ true
here-any test None bs is = cc
here-any test (Some b) bs is = or-left (test b) (list_any test bs) is

-- The elements that a function keeps of a list have one each among those that another function keeps.
abbrev pub HasOne : {A B : Type 0} → (A → B → Bool) → (A → Type 0) → List B → A → Type 0
HasOne test K bs x = K x → list_any (test x) bs ≡ true

abbrev pub GivesOne : {A B : Type 0} → (A → B → Bool) → (A → Type 0) → Option B → A → Type 0
GivesOne test K o x = K x → option_map_or (test x) o false ≡ true

one-more : {A B : Type 0} (test : A → B → Bool) (K : A → Type 0) (o : Option B) (bs : List B) (xs : List A) → AllByRecursion (HasOne test K bs) xs → AllByRecursion (HasOne test K (cons_option o bs)) xs
one-more test K o bs xs all = weaker (HasOne test K bs) (HasOne test K (cons_option o bs)) (λ x has. λ k. more-any (test x) o bs (has k)) xs all

one-here : {A B : Type 0} (test : A → B → Bool) (K : A → Type 0) (o : Option B) (bs : List B) (q : Option A) → IfSome q (GivesOne test K o) → IfSome q (HasOne test K (cons_option o bs))
one-here test K o bs None has = tt
one-here test K o bs (Some x) has = λ k. here-any (test x) o bs (has k)

pub kept : {X A B : Type 0} (g : X → Option A) (f : X → Option B) (test : A → B → Bool) (K : A → Type 0) (xs : List X) → AllByRecursion (λ x. IfSome (g x) (GivesOne test K (f x))) xs
    → AllByRecursion (HasOne test K (filter_map f xs)) (filter_map g xs)
kept g f test K [] all = tt
kept g f test K (x ∷ xs) all =
    put-kept (HasOne test K (filter_map f (x ∷ xs))) (g x) (filter_map g xs) (one-here test K (f x) (filter_map f xs) (g x) all.0)
    (one-more test K (f x) (filter_map f xs) (filter_map g xs) (kept g f test K xs all.1))
