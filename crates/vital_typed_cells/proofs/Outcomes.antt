-- What holds of the tree of an outcome that is made of others, if there is one.
use Rattle.std.proofs.Common.{◌≡◌, Bool, true, false, List, [], ◌∷◌, ◌++◌, length, map, Option, Some, None, refl, arith}
use Rattle.std.specs.Prelude.{if◌then◌else◌}
use Rattle.std.specs.List.{AllByRecursion}
use Rattle.std.specs.Option.{IfSome, option_and_then, option_map}
use Rattle.vital_base.specs.declared.place.Place.{Place}
use Rattle.vital_expr.specs.Outcomes.{Outcome, all_typed, and_then, both, both_by, map_typed, or_broken, put_first, then_by}

-- A tree, if there is one, is one of which a fact holds.
abbrev pub IfTyped : {A : Type 0} → (A → Type 0) → Outcome A → Type 0
IfTyped P o = IfSome o.tree P

pub if-map : {A B : Type 0} (P : A → Type 0) (Q : B → Type 0) (f : A → B) (o : Option A) → IfSome o P → ((t : A) → P t → Q (f t)) → IfSome (option_map f o) Q
if-map P Q f None holds step = tt
if-map P Q f (Some t) holds step = step t holds

pub if-and-then : {A B : Type 0} (P : A → Type 0) (Q : B → Type 0) (f : A → Option B) (o : Option A) → IfSome o P → ((t : A) → P t → IfSome (f t) Q) → IfSome (option_and_then f o) Q
if-and-then P Q f None holds step = tt
if-and-then P Q f (Some t) holds step = step t holds

pub if-mapped : {A B : Type 0} (P : A → Type 0) (Q : B → Type 0) (f : A → B) (o : Outcome A) → IfTyped P o → ((t : A) → P t → Q (f t)) → IfTyped Q (map_typed f o)
if-mapped P Q f o holds step = if-map P Q f o.tree holds step

pub if-then-by : {A B : Type 0} (P : A → Type 0) (Q : B → Type 0) (f : A → Outcome B) (o : Option A) (ps : List Place) → IfSome o P → ((t : A) → P t → IfTyped Q (f t)) → IfTyped Q (then_by f o ps)
if-then-by P Q f None ps holds step = tt
if-then-by P Q f (Some t) ps holds step = step t holds

pub if-then : {A B : Type 0} (P : A → Type 0) (Q : B → Type 0) (f : A → Outcome B) (o : Outcome A) → IfTyped P o → ((t : A) → P t → IfTyped Q (f t)) → IfTyped Q (and_then f o)
if-then P Q f o holds step = if-then-by P Q f o.tree o.places holds step

if-both-by : {A B C : Type 0} (P : A → Type 0) (Q : B → Type 0) (R : C → Type 0) (f : A → B → Outcome C) (a : Option A) (b : Option B) (ps : List Place) → IfSome a P → IfSome b Q → ((t : A) (u : B) → P t → Q u → IfTyped R (f t u)) → IfTyped R (both_by f a b ps)
if-both-by P Q R f (Some t) (Some u) ps first second step = step t u first second
if-both-by P Q R f (Some t) None ps first second step = tt
if-both-by P Q R f None b ps first second step = tt

pub if-both : {A B C : Type 0} (P : A → Type 0) (Q : B → Type 0) (R : C → Type 0) (f : A → B → Outcome C) (o : Outcome A) (q : Outcome B) → IfTyped P o → IfTyped Q q → ((t : A) (u : B) → P t → Q u → IfTyped R (f t u)) → IfTyped R (both f o q)
if-both P Q R f o q first second step = if-both-by P Q R f o.tree q.tree (o.places ++ q.places) first second step

pub if-or : {A : Type 0} (P : A → Type 0) (ps : List Place) (o : Option A) → IfSome o P → IfTyped P (or_broken ps o)
if-or P ps None holds = tt
if-or P ps (Some t) holds = holds

-- One outcome or another by a test.
pub if-test : {A : Type 0} (P : A → Type 0) (b : Bool) (o q : Outcome A) → (b ≡ true → IfTyped P o) → (b ≡ false → IfTyped P q) → IfTyped P (if b then o else q)
if-test P true o q first other = first refl
if-test P false o q first other = other refl

-- As many trees as outcomes, of each of which it holds.
abbrev pub EachOf : {A : Type 0} → (A → Type 0) → List (Outcome A) → List A → Type 0
EachOf P os ts = AllByRecursion P ts × (length ts ≡ length os)

pub if-all : {A : Type 0} (P : A → Type 0) (os : List (Outcome A)) → AllByRecursion (IfTyped P) os → IfTyped (EachOf P os) (all_typed os)
if-all P [] hold = (tt, refl)
if-all P (o ∷ os) hold =
    if-both P (EachOf P os) (EachOf P (o ∷ os)) put_first o (all_typed os) hold.0 (if-all P os hold.1)
    (λ t ts first others. ((first, others.0), omega (arith, others.1)))

-- The same of lists of which each element has such an outcome.
pub all-mapped : {A B : Type 0} (P : A → Type 0) (Q : B → Type 0) (f : A → B) (xs : List A) → AllByRecursion P xs → ((x : A) → P x → Q (f x)) → AllByRecursion Q (map f xs)
all-mapped P Q f [] hold step = tt
all-mapped P Q f (x ∷ xs) hold step = (step x hold.0, all-mapped P Q f xs hold.1 step)
