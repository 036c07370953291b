-- Units with their positions.
use Rattle.std.proofs.Common.{◌≡◌, ℕ, suc, ◌+◌, ◌<◌, List, [], ◌∷◌, ◌++◌, length, take, map, get_or, refl, sym, ◌∙◌, ap, subst, append_assoc, append-nil, arith}
use Rattle.std.specs.Prelude.{Some}
use Rattle.std.specs.List.{enumerate_from, flat_map, slice_get, AllByRecursion}
use Rattle.std.specs.Option.{option_and_then}
use Rattle.std.proofs.lemmas.List.{map-append, take_more, length-take-le, length_push}
use Rattle.std.proofs.lemmas.Grind.{flat_map-append}
use Rattle.std.proofs.lemmas.Simd.{map-map}
use Rattle.vital_nodes.specs.declared.unit.Unit.{Unit as Unit'}
use Rattle.vital_nodes.specs.declared.unit.Units.{Units}
use Rattle.vital_library.specs.declared.position.Position.{Position}
use Rattle.vital_library.specs.declared.unit_at.UnitAt.{UnitAt}
use Rattle.vital_library.specs.Positions.{unit_at, numbered_from, numbered, seen, units_in}
use Rattle.vital_library.specs.Units.{units_of}

abbrev placed : ℕ → ℕ × Unit' → Position × Unit'
placed file = λ u. (record { file = file; unit = u.0 }, u.1)

abbrev of-file : ℕ × Units → List (Position × Unit')
of-file = λ f. numbered_from f.0 0 f.1.units

-- ---- one more
enumerate-push : {A : Type 0} (n : ℕ) (xs : List A) (x : A) → enumerate_from n (xs ++ x ∷ []) ≡ enumerate_from n xs ++ (n + length xs, x) ∷ []
enumerate-push n [] x =
    let same : n ≡ n + 0 = omega arith in
    ap (λ m. (m, x) ∷ []) same
enumerate-push n (y ∷ ys) x =
    let same : (n + 1) + length ys ≡ n + suc (length ys) = omega arith in
    ap (λ others. (n, y) ∷ others) (enumerate-push (n + 1) ys x ∙ ap (λ m. enumerate_from (n + 1) ys ++ (m, x) ∷ []) same)

enumerate-take : {A : Type 0} (xs : List A) (i : ℕ) (x : A) → i < length xs → x ≡ get_or xs i x → enumerate_from 0 (take (i + 1) xs) ≡ enumerate_from 0 (take i xs) ++ (i, x) ∷ []
enumerate-take xs i x within is =
    let front : length (take i xs) ≡ i = length-take-le i xs (omega arith) in
    let here : 0 + length (take i xs) ≡ i = omega (arith, front) in
    ap (enumerate_from 0) (take_more xs i x within ∙ ap (λ y. take i xs ++ y ∷ []) (sym is))
    ∙ enumerate-push 0 (take i xs) x
    ∙ ap (λ m. enumerate_from 0 (take i xs) ++ (m, x) ∷ []) here

pub numbered_from-take : (file : ℕ) (units : List Unit') (i : ℕ) (u : Unit') → i < length units → u ≡ get_or units i u → numbered_from file 0 (take (i + 1) units) ≡ numbered_from file 0 (take i units) ++ (record { file = file; unit = i }, u) ∷ []
numbered_from-take file units i u within is =
    ap (map (placed file)) (enumerate-take units i u within is)
    ∙ map-append (placed file) (enumerate_from 0 (take i units)) ((i, u) ∷ [])

pub numbered-take : (files : List Units) (i : ℕ) (f : Units) → i < length files → f ≡ get_or files i f → numbered (take (i + 1) files) ≡ numbered (take i files) ++ numbered_from i 0 f.units
numbered-take files i f within is =
    ap (flat_map of-file) (enumerate-take files i f within is)
    ∙ flat_map-append of-file (enumerate_from 0 (take i files)) ((i, f) ∷ [])
    ∙ ap (λ last. numbered (take i files) ++ last) (append-nil (numbered_from i 0 f.units))

-- ---- the units alone
numbered_from-units : (file n : ℕ) (units : List Unit') → map (λ u. u.1) (numbered_from file n units) ≡ units
numbered_from-units file n [] = refl
numbered_from-units file n (u ∷ units) = ap (λ others. u ∷ others) (numbered_from-units file (n + 1) units)

pub length-numbered_from : (file n : ℕ) (units : List Unit') → length (numbered_from file n units) ≡ length units
length-numbered_from file n [] = refl
length-numbered_from file n (u ∷ units) = ap suc (length-numbered_from file (n + 1) units)

numbered-units_from : (n : ℕ) (files : List Units) → map (λ u. u.1) (flat_map of-file (enumerate_from n files)) ≡ units_of files
numbered-units_from n [] = refl
numbered-units_from n (f ∷ files) =
    map-append (λ u. u.1) (numbered_from n 0 f.units) (flat_map of-file (enumerate_from (n + 1) files))
    ∙ ap (λ units. units ++ map (λ u. u.1) (flat_map of-file (enumerate_from (n + 1) files))) (numbered_from-units n 0 f.units)
    ∙ ap (λ others. f.units ++ others) (numbered-units_from (n + 1) files)

pub numbered-units : (files : List Units) → map (λ u. u.1) (numbered files) ≡ units_of files
numbered-units files = numbered-units_from 0 files

pub seen-units : (units : List UnitAt) (files : List Units) → map seen units ≡ numbered files → units_in units ≡ units_of files
seen-units units files e = sym (map-map (λ u. u.1) seen units) ∙ ap (map (λ u. u.1)) e ∙ numbered-units files

-- ---- each unit stands at its position
abbrev pub Stands : List Units → Position × Unit' → Type 0
Stands files u = unit_at files u.0 ≡ Some u.1

pub get-here : {A : Type 0} (before : List A) (x : A) (after : List A) → slice_get (before ++ x ∷ after) (length before) ≡ Some x
get-here [] x after = refl
get-here (y ∷ before) x after = get-here before x after

all-append : {A : Type 0} (P : A → Type 0) (xs ys : List A) → AllByRecursion P xs → AllByRecursion P ys → AllByRecursion P (xs ++ ys)
all-append P [] ys h k = k
all-append P (x ∷ xs) ys h k = (h.0, all-append P xs ys h.1 k)

pub longer : {A : Type 0} (before : List A) (x : A) (n : ℕ) → n ≡ length before → n + 1 ≡ length (before ++ x ∷ [])
longer before x n here = omega (arith, here, length_push before x)

stand-file : (files : List Units) (number : ℕ) (f : Units) → slice_get files number ≡ Some f → (before units : List Unit') (n : ℕ) → n ≡ length before → f.units ≡ before ++ units → AllByRecursion (Stands files) (numbered_from number n units)
stand-file files number f there before [] n here is = tt
stand-file files number f there before (u ∷ units) n here is =
    (ap (option_and_then (λ x. slice_get x.units n)) there ∙ ap (λ us. slice_get us n) is ∙ ap (slice_get (before ++ u ∷ units)) here ∙ get-here before u units, stand-file files number f there (before ++ u ∷ []) units (n + 1) (longer before u n here) (is ∙ sym (append_assoc before (u ∷ []) units)))

stand-from : (before files : List Units) (n : ℕ) → n ≡ length before → AllByRecursion (Stands (before ++ files)) (flat_map of-file (enumerate_from n files))
stand-from before [] n here = tt
stand-from before (f ∷ files) n here =
    let all = before ++ f ∷ files in
    let rest = stand-from (before ++ f ∷ []) files (n + 1) (longer before f n here) in
    all-append (Stands all) (of-file (n, f)) (flat_map of-file (enumerate_from (n + 1) files))
    (stand-file all n f (ap (slice_get all) here ∙ get-here before f files) [] f.units 0 refl refl)
    (subst (λ (fs : List Units). AllByRecursion (Stands fs) (flat_map of-file (enumerate_from (n + 1) files))) (append_assoc before (f ∷ []) files) rest)

pub stand : (files : List Units) → AllByRecursion (Stands files) (numbered files)
stand files = stand-from [] files 0 refl
