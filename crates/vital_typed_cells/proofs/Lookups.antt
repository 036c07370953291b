-- Constants of packages by their numbers.
use Rattle.std.proofs.Common.{◌≡◌, ℕ, zero, suc, ◌+◌, List, [], ◌∷◌, ◌++◌, length, Some, refl, ap, ◌∙◌, arith}
use Rattle.std.specs.Prelude.{slice_get, take, IfSome}
use Rattle.std.specs.List.{AllByRecursion, enumerate_from, flat_map}
use Rattle.vital_library.specs.Constants.{as_constant, constants_in, constants_of, where_constant}
use Rattle.vital_library.specs.Units.{units_of}
use Rattle.vital_nodes.specs.declared.decl.Decl.{Decl}
use Rattle.vital_nodes.specs.declared.decl.Decl.TheVariants as decl
use Rattle.vital_nodes.specs.declared.decl.Object.{Object}
use Rattle.vital_nodes.specs.declared.decl.ObjectClass.{ObjectClass}
use Rattle.vital_nodes.specs.declared.decl.ObjectClass.TheVariants as class
use Rattle.vital_nodes.specs.declared.unit.Unit.{Unit as Unit'}
use Rattle.vital_nodes.specs.declared.unit.Unit.TheVariants as unit
use Rattle.vital_nodes.specs.declared.unit.Units.{Units}
use Rattle.vital_typed_cells.proofs.Found.{all-kept, both-lists, each}

-- ---- an element at its number

-- Each of the first elements of a list, which are numbered from a number on, is in the list at its own.
abbrev pub IsAt : {A : Type 0} → ℕ → List A → (ℕ × A) → Type 0
IsAt n xs e = (m : ℕ) × ((e.0 ≡ n + m) × (slice_get xs m ≡ Some e.1))

later : {A : Type 0} (n : ℕ) (x : A) (xs : List A) (e : ℕ × A) → IsAt (n + 1) xs e → IsAt n (x ∷ xs) e
later n x xs e at = (suc at.0, (omega (arith, at.1.0), at.1.1))

all-later : {A : Type 0} (n : ℕ) (x : A) (xs : List A) (es : List (ℕ × A)) → AllByRecursion (IsAt (n + 1) xs) es → AllByRecursion (IsAt n (x ∷ xs)) es
all-later n x xs [] all = tt
all-later n x xs (e ∷ es) all = (later n x xs e all.0, all-later n x xs es all.1)

taken-at : {A : Type 0} (k n : ℕ) (xs : List A) → AllByRecursion (IsAt n xs) (take k (enumerate_from n xs))
taken-at zero n xs = tt
taken-at (suc k) n [] = tt
taken-at (suc k) n (x ∷ xs) = ((zero, (omega arith, refl)), all-later n x xs (take k (enumerate_from (n + 1) xs)) (taken-at k (n + 1) xs))

numbered-at : {A : Type 0} (n : ℕ) (xs : List A) → AllByRecursion (IsAt n xs) (enumerate_from n xs)
numbered-at n [] = tt
numbered-at n (x ∷ xs) = ((zero, (omega arith, refl)), all-later n x xs (enumerate_from (n + 1) xs) (numbered-at (n + 1) xs))

-- An element that is numbered from 0 on is at its number.
pub from-zero : {A : Type 0} (xs : List A) (e : ℕ × A) → IsAt 0 xs e → slice_get xs e.0 ≡ Some e.1
from-zero xs e at = let same : e.0 ≡ at.0 = omega (arith, at.1.0) in ap (slice_get xs) same ∙ at.1.1

pub all-taken : {A : Type 0} (k : ℕ) (xs : List A) → AllByRecursion (IsAt 0 xs) (take k (enumerate_from 0 xs))
all-taken k xs = taken-at k 0 xs

pub all-numbered : {A : Type 0} (xs : List A) → AllByRecursion (IsAt 0 xs) (enumerate_from 0 xs)
all-numbered xs = numbered-at 0 xs

-- Those that are taken of a longer list are numbered as those in front of it.
pub taken-front : {A : Type 0} (n : ℕ) (xs ys : List A) → take (length xs) (enumerate_from n (xs ++ ys)) ≡ enumerate_from n xs
taken-front n [] ys = refl
taken-front n (x ∷ xs) ys = ap (λ es. (n, x) ∷ es) (taken-front (n + 1) xs ys)

-- ---- constants

where-there : (k : ObjectClass) (o : Object) → o.«class» ≡ k → IfSome (where_constant k o) (λ c. c.«class» ≡ class.Constant)
where-there class.Constant o is = is
where-there class.Signal o is = tt
where-there class.Variable o is = tt

declared-constant : (d : Decl) → IfSome (as_constant d) (λ o. o.«class» ≡ class.Constant)
declared-constant (decl.Attribute identifier type_mark) = tt
declared-constant (decl.Specification s) = tt
declared-constant (decl.Object o) = where-there o.«class» o refl
declared-constant (decl.Alias a) = tt
declared-constant (decl.Component c) = tt

unit-constants : (u : Unit') → AllByRecursion (λ o. o.«class» ≡ class.Constant) (constants_in u)
unit-constants (unit.Entity e) = tt
unit-constants (unit.Arch a) = tt
unit-constants (unit.Pack p) = all-kept (λ o. o.«class» ≡ class.Constant) as_constant p.declarations (each (λ d. IfSome (as_constant d) (λ o. o.«class» ≡ class.Constant)) declared-constant p.declarations)
unit-constants (unit.Config c) = tt

all-constants : (us : List Unit') → AllByRecursion (λ o. o.«class» ≡ class.Constant) (flat_map constants_in us)
all-constants [] = tt
all-constants (u ∷ us) = both-lists (λ o. o.«class» ≡ class.Constant) (constants_in u) (flat_map constants_in us) (unit-constants u) (all-constants us)

-- Each constant of a package is one by its class.
pub constants-are : (files : List Units) → AllByRecursion (λ o. o.«class» ≡ class.Constant) (constants_of files)
constants-are files = all-constants (units_of files)
