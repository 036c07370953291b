-- Outcomes that are made of told ones are told.
use Rattle.std.proofs.Common.{◌≡◌, ◌≢◌, Bool, true, false, List, [], ◌∷◌, ◌++◌, Option, Some, None, refl}
use Rattle.std.specs.Prelude.{IsSome, if◌then◌else◌}
use Rattle.std.specs.List.{AllByRecursion}
use Rattle.std.specs.Option.{option_map}
use Rattle.vital_base.specs.declared.place.Place.{Place}
use Rattle.vital_expr.specs.Outcomes.{Outcome, all_typed, and_then, both, both_by, broken, map_typed, or_broken, put_first, then_by}
use Rattle.vital_typed_cells.specs.Told.{IsTold}

-- Of no places there are none before and none behind.
pub none-before : (ps qs : List Place) → ps ++ qs ≡ [] → ps ≡ []
none-before [] qs is = refl
none-before (p ∷ ps) qs is = cc

pub none-behind : (ps qs : List Place) → ps ++ qs ≡ [] → qs ≡ []
none-behind [] qs is = is
none-behind (p ∷ ps) qs is = cc

-- There is something, or else there is a place.
abbrev pub ToldBy : {A : Type 0} → Option A → List Place → Type 0
ToldBy o ps = ps ≡ [] → IsSome o

some-mapped : {A B : Type 0} (f : A → B) (o : Option A) → IsSome o → IsSome (option_map f o)
some-mapped f None there = there
some-mapped f (Some t) there = refl

pub told-broken : (A : Type 0) (own : List Place) → own ≢ [] → IsTold {A = A} (broken own)
told-broken A own there = λ is. absurd (there is)

pub told-or : {A : Type 0} (own : List Place) (o : Option A) → own ≢ [] → IsTold (or_broken own o)
told-or own None there = λ is. absurd (there is)
told-or own (Some t) there = λ is. refl

pub told-mapped : {A B : Type 0} (f : A → B) (o : Outcome A) → IsTold o → IsTold (map_typed f o)
told-mapped f o told = λ is. some-mapped f o.tree (told is)

then-told : {A B : Type 0} (f : A → Outcome B) (o : Option A) (ps : List Place) → ToldBy o ps → ((t : A) → IsTold (f t)) → IsTold (then_by f o ps)
then-told f None ps told step = λ is. told is
then-told f (Some t) ps told step = λ is. step t (none-behind ps (f t).places is)

pub told-then : {A B : Type 0} (f : A → Outcome B) (o : Outcome A) → IsTold o → ((t : A) → IsTold (f t)) → IsTold (and_then f o)
told-then f o told step = then-told f o.tree o.places told step

both-told : {A B C : Type 0} (f : A → B → Outcome C) (a : Option A) (b : Option B) (ps qs : List Place) → ToldBy a ps → ToldBy b qs → ((t : A) (u : B) → IsTold (f t u)) → IsTold (both_by f a b (ps ++ qs))
both-told f (Some t) (Some u) ps qs first second step = λ is. step t u (none-behind (ps ++ qs) (f t u).places is)
both-told f (Some t) None ps qs first second step = λ is. second (none-behind ps qs is)
both-told f None b ps qs first second step = λ is. first (none-before ps qs is)

pub told-both : {A B C : Type 0} (f : A → B → Outcome C) (o : Outcome A) (q : Outcome B) → IsTold o → IsTold q → ((t : A) (u : B) → IsTold (f t u)) → IsTold (both f o q)
told-both f o q first second step = both-told f o.tree q.tree o.places q.places first second step

pub told-all : {A : Type 0} (os : List (Outcome A)) → AllByRecursion IsTold os → IsTold (all_typed os)
told-all [] told = λ is. refl
told-all (o ∷ os) told = told-both put_first o (all_typed os) told.0 (told-all os told.1) (λ t ts is. refl)

-- One outcome or another by a test.
pub told-test : {A : Type 0} (b : Bool) (o q : Outcome A) → (b ≡ true → IsTold o) → IsTold q → IsTold (if b then o else q)
told-test true o q first other = first refl
told-test false o q first other = other
