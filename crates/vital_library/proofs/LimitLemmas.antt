-- Units up to the limit.
use Rattle.std.proofs.Common.{◌≡◌, ℕ, zero, suc, ◌+◌, ◌<◌, ◌≤◌, List, [], ◌∷◌, ◌++◌, length, take, drop, map, get_or, sym, ◌∙◌, ap, append-nil, arith, length-append}
use Rattle.std.proofs.Common.{subst}
use Rattle.std.proofs.lemmas.Grind.{flat_map-append}
use Rattle.std.proofs.lemmas.List.{take_more, take-append-drop, length-map}
use Rattle.std.specs.Prelude.{Some}
use Rattle.std.specs.List.{slice_get}
use Rattle.std.specs.Option.{option_map}
use Rattle.vital_nodes.specs.declared.unit.Unit.{Unit as Unit'}
use Rattle.vital_nodes.specs.declared.unit.Units.{Units}
use Rattle.vital_library.specs.declared.error.LibraryError.{LibraryError}
use Rattle.vital_library.specs.declared.error.LibraryError.TheVariants as error
use Rattle.vital_library.specs.Limits.{IsPastLimit}
use Rattle.vital_library.specs.declared.unit_at.UnitAt.{UnitAt}
use Rattle.vital_library.specs.Positions.{numbered_from, numbered, seen, units_in}
use Rattle.vital_nodes.specs.Places.{place_of_unit}
use Rattle.vital_library.specs.Units.{units_of}
use Rattle.vital_library.proofs.NumberedLemmas.{seen-units, length-numbered_from}

get-within : {A B : Type 0} (f : A → B) (y : B) (xs ys : List A) (n : ℕ) → option_map f (slice_get xs n) ≡ Some y → option_map f (slice_get (xs ++ ys) n) ≡ Some y
get-within f y [] ys n h = absurd (cc)
get-within f y (x ∷ xs) ys zero h = h
get-within f y (x ∷ xs) ys (suc n) h = get-within f y xs ys n h

-- a refusal stands for more units
pub past-more : (e : LibraryError) (xs ys : List Unit') → IsPastLimit e xs → IsPastLimit e (xs ++ ys)
past-more (error.TooManyUnits place) xs ys h = get-within place_of_unit place xs ys 4096 h
past-more (error.Duplicate place) xs ys h = absurd h
past-more (error.NoEntity place) xs ys h = absurd h
past-more error.NoMemory xs ys h = tt

pub units-split : (files : List Units) (i : ℕ) (f : Units) → i < length files → f ≡ get_or files i f → units_of files ≡ (units_of (take i files) ++ f.units) ++ units_of (drop (i + 1) files)
units-split files i f within is =
    let units : Units → List Unit' = λ file. file.units in
    ap units_of (sym (take-append-drop (i + 1) files))
    ∙ flat_map-append units (take (i + 1) files) (drop (i + 1) files)
    ∙ ap (λ fs. units_of fs ++ units_of (drop (i + 1) files)) (take_more files i f within ∙ ap (λ y. take i files ++ y ∷ []) (sym is))
    ∙ ap (λ us. us ++ units_of (drop (i + 1) files)) (flat_map-append units (take i files) (f ∷ []) ∙ ap (λ last. units_of (take i files) ++ last) (append-nil f.units))

pub past-file : (e : LibraryError) (files : List Units) (i : ℕ) (f : Units) (units : List UnitAt) → i < length files → f ≡ get_or files i f → map seen units ≡ numbered (take i files) → IsPastLimit e (units_in units ++ f.units) → IsPastLimit e (units_of files)
past-file e files i f units within is so_far h =
    let before : units_in units ≡ units_of (take i files) = seen-units units (take i files) so_far in
    let front : IsPastLimit e (units_of (take i files) ++ f.units) = subst (λ us. IsPastLimit e (us ++ f.units)) before h in
    subst (λ us. IsPastLimit e us) (sym (units-split files i f within is)) (past-more e (units_of (take i files) ++ f.units) (units_of (drop (i + 1) files)) front)

pub few-kept : (old new : List UnitAt) (file : ℕ) (units : List Unit') → map seen new ≡ map seen old ++ numbered_from file 0 units → length (units_in old ++ units) ≤ 4096 → length new ≤ 4096
few-kept old new file units e h =
    let counted : length (map seen new) ≡ length (map seen old) + length (numbered_from file 0 units) = ap length e ∙ length-append (map seen old) (numbered_from file 0 units) in
    omega (arith, h, counted, length-map new seen, length-map old seen, length-numbered_from file 0 units, length-append (units_in old) units, length-map old (λ at. at.unit.now))

pub few-all : (units : List UnitAt) (files : List Units) → map seen units ≡ numbered files → length units ≤ 4096 → length (units_of files) ≤ 4096
few-all units files e h =
    let same : length (units_in units) ≡ length (units_of files) = ap length (seen-units units files e) in
    omega (arith, h, same, length-map units (λ at. at.unit.now))
