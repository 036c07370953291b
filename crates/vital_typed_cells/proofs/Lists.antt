-- Lists of declarations beside the last of those that are declared together.
use Rattle.std.proofs.Common.{◌≡◌, Bool, true, false, List, [], ◌∷◌, map, Option, Some, None, refl, ap, ◌∙◌, subst}
use Rattle.std.specs.Prelude.{cond, IfSome, find, unwrap_or}
use Rattle.std.specs.List.{AllByRecursion, cons_option, filter_map, flat_map}
use Rattle.std.specs.Option.{option_map}
use Rattle.vital_base.specs.declared.place.Place.{Place}
use Rattle.vital_names.specs.declared.site.CellUnit.{CellUnit}
use Rattle.vital_names.specs.Viewpoints.{first_places_from}
use Rattle.vital_nodes.specs.declared.stmt.Process.{Process}
use Rattle.vital_objects.specs.Together.{beside_lasts}
use Rattle.vital_uses.specs.Sited.{beside, sited}
use Rattle.vital_typed_cells.proofs.Found.{found}
use Rattle.vital_typed_cells.proofs.Regions.{back-all, front-all}

-- ---- what is kept of a list is kept of what it is beside

pub beside-kept : {A B : Type 0} (last : A → Bool) (g : A → Option B) (xs : List A) → filter_map (λ x. g x.0) (beside_lasts last xs) ≡ filter_map g xs
beside-kept last g [] = refl
beside-kept last g (x ∷ xs) = ap (cons_option (g x)) (beside-kept last g xs)

sited-from : {A B : Type 0} (place : A → Place) (last : A → Bool) (unit : CellUnit) (process : Option Process) (g : A → Option B) (begun : Option Place) (xs : List A)
    → filter_map (λ s. g s.declaration) (beside unit process (first_places_from place last begun xs) xs) ≡ filter_map g xs
sited-from place last unit process g begun [] = refl
sited-from place last unit process g begun (x ∷ xs) =
    ap (cons_option (g x)) (sited-from place last unit process g (cond (last x) None (Some (unwrap_or begun (place x)))) xs)

pub sited-kept : {A B : Type 0} (place : A → Place) (last : A → Bool) (unit : CellUnit) (process : Option Process) (g : A → Option B) (xs : List A)
    → filter_map (λ s. g s.declaration) (sited place last unit process xs) ≡ filter_map g xs
sited-kept place last unit process g xs = sited-from place last unit process g None xs

pub all-some : {A B : Type 0} (h : A → B) (xs : List A) → filter_map (λ x. Some (h x)) xs ≡ map h xs
all-some h [] = refl
all-some h (x ∷ xs) = ap (λ ys. h x ∷ ys) (all-some h xs)

-- What holds of declarations holds of them at their sites.
sited-all-from : {A : Type 0} (P : A → Type 0) (place : A → Place) (last : A → Bool) (unit : CellUnit) (process : Option Process) (begun : Option Place) (xs : List A)
    → AllByRecursion P xs → AllByRecursion (λ s. P s.declaration) (beside unit process (first_places_from place last begun xs) xs)
sited-all-from P place last unit process begun [] all = tt
sited-all-from P place last unit process begun (x ∷ xs) all = (all.0, sited-all-from P place last unit process (cond (last x) None (Some (unwrap_or begun (place x)))) xs all.1)

pub sited-all : {A : Type 0} (P : A → Type 0) (place : A → Place) (last : A → Bool) (unit : CellUnit) (process : Option Process) (xs : List A)
    → AllByRecursion P xs → AllByRecursion (λ s. P s.declaration) (sited place last unit process xs)
sited-all P place last unit process xs all = sited-all-from P place last unit process None xs all

-- ---- the lasts of those that are declared together

pub lasts-have : {A : Type 0} (P : A → Type 0) (last : A → Bool) (xs : List A) → AllByRecursion P xs → AllByRecursion (λ x. IfSome x.1 (λ e. P e × (last e ≡ true))) (beside_lasts last xs)
lasts-have P last [] all = tt
lasts-have P last (x ∷ xs) all = (found P last (x ∷ xs) all, lasts-have P last xs all.1)

pub firsts-have : {A : Type 0} (P : A → Type 0) (last : A → Bool) (xs : List A) → AllByRecursion P xs → AllByRecursion (λ x. P x.0) (beside_lasts last xs)
firsts-have P last [] all = tt
firsts-have P last (x ∷ xs) all = (all.0, firsts-have P last xs all.1)

-- Each at its site has beside it what it has beside it alone.
mapped-if : {A B : Type 0} (f : A → B) (b : Bool) (x : A) (o : Option A) → cond b (Some (f x)) (option_map f o) ≡ option_map f (cond b (Some x) o)
mapped-if f true x o = refl
mapped-if f false x o = refl

find-sited : {A : Type 0} (place : A → Place) (last : A → Bool) (unit : CellUnit) (process : Option Process) (begun : Option Place) (xs : List A)
    → find last xs ≡ option_map (λ s. s.declaration) (find (λ s. last s.declaration) (beside unit process (first_places_from place last begun xs) xs))
find-sited place last unit process begun [] = refl
find-sited place last unit process begun (x ∷ xs) =
    ap (cond (last x) (Some x)) (find-sited place last unit process (cond (last x) None (Some (unwrap_or begun (place x)))) xs)
    ∙ mapped-if (λ s. s.declaration) (last x) (record { site = record { unit = unit; process = process; viewpoint = unwrap_or begun (place x) }; declaration = x })
    (find (λ s. last s.declaration) (beside unit process (first_places_from place last (cond (last x) None (Some (unwrap_or begun (place x)))) xs) xs))

beside-from : {A : Type 0} (P : A → Option A → Type 0) (place : A → Place) (last : A → Bool) (unit : CellUnit) (process : Option Process) (begun : Option Place) (xs : List A)
    → AllByRecursion (λ x. P x.0 x.1) (beside_lasts last xs)
    → AllByRecursion (λ x. P x.0.declaration (option_map (λ s. s.declaration) x.1)) (beside_lasts (λ s. last s.declaration) (beside unit process (first_places_from place last begun xs) xs))
beside-from P place last unit process begun [] all = tt
beside-from P place last unit process begun (x ∷ xs) all =
    (subst (P x) (find-sited place last unit process begun (x ∷ xs)) all.0, beside-from P place last unit process (cond (last x) None (Some (unwrap_or begun (place x)))) xs all.1)

pub beside-sited : {A : Type 0} (P : A → Option A → Type 0) (place : A → Place) (last : A → Bool) (unit : CellUnit) (process : Option Process) (xs : List A)
    → AllByRecursion (λ x. P x.0 x.1) (beside_lasts last xs)
    → AllByRecursion (λ x. P x.0.declaration (option_map (λ s. s.declaration) x.1)) (beside_lasts (λ s. last s.declaration) (sited place last unit process xs))
beside-sited P place last unit process xs all = beside-from P place last unit process None xs all

-- ---- properties together

pub all-both : {A : Type 0} (P Q : A → Type 0) (xs : List A) → AllByRecursion P xs → AllByRecursion Q xs → AllByRecursion (λ x. P x × Q x) xs
all-both P Q [] first second = tt
all-both P Q (x ∷ xs) first second = ((first.0, second.0), all-both P Q xs first.1 second.1)

-- ---- what is made of elements

pub of-mapped : {A B : Type 0} (P : B → Type 0) (f : A → B) (xs : List A) → AllByRecursion P (map f xs) → AllByRecursion (λ x. P (f x)) xs
of-mapped P f [] all = tt
of-mapped P f (x ∷ xs) all = (all.0, of-mapped P f xs all.1)

pub of-flat : {A B : Type 0} (P : B → Type 0) (f : A → List B) (xs : List A) → AllByRecursion P (flat_map f xs) → AllByRecursion (λ x. AllByRecursion P (f x)) xs
of-flat P f [] all = tt
of-flat P f (x ∷ xs) all = (front-all P (f x) (flat_map f xs) all, of-flat P f xs (back-all P (f x) (flat_map f xs) all))

none-first : {B : Type 0} (o : Option B) (bs : List B) → cons_option o bs ≡ [] → (o ≡ None) × (bs ≡ [])
none-first None bs is = (refl, is)
none-first (Some b) bs is = absurd (cc)

-- Where nothing is kept, nothing is of each element.
pub none-kept : {A B : Type 0} (f : A → Option B) (xs : List A) → filter_map f xs ≡ [] → AllByRecursion (λ x. f x ≡ None) xs
none-kept f [] is = tt
none-kept f (x ∷ xs) is =
    let both = none-first (f x) (filter_map f xs) is in
    (both.0, none-kept f xs both.1)
