-- The first file of a name, by its number.
use Rattle.std.proofs.Common.{◌≡◌, ℕ, ◌<◌, List, [], ◌∷◌, length, Bool, None, Some, refl, ap, sym, position, arith}
use Rattle.std.specs.List.{find, slice_get, position_or_len}
use Rattle.std.specs.Option.{option_map}
use Rattle.std.specs.Str.{bytes_eq}
use Rattle.std.proofs.lemmas.Grind.{common_steps}
use Rattle.std.proofs.lemmas.List.Folds.{find_at}
use Rattle.std.proofs.lemmas.Option.{slice_get_past, slice_get_cases}
use Rattle.vital_base.specs.declared.mem_shelf.MemFile.{MemFile}
use Rattle.vital_base.specs.MemShelves.{file_named, bytes_at}

found_none : {X : Type 0} (p : X → Bool) (xs : List X) → position p xs ≡ None → find p xs ≡ None
found_none p [] h = refl
found_none p (x ∷ xs) h = grind (arith, common_steps, find_at p (x ∷ xs), slice_get_past (x ∷ xs) (position_or_len p (x ∷ xs)))

found_some : {X : Type 0} (p : X → Bool) (xs : List X) (i : ℕ) → position p xs ≡ Some i → (find p xs ≡ slice_get xs i) × (i < length xs)
found_some p xs i h = grind (arith, common_steps, find_at p xs)

-- no file has the name
pub named_none : (files : List MemFile) (name : List ℕ)
    → None ≡ position (λ file. bytes_eq file.name name) files → file_named files name ≡ None
named_none files name h = ap (option_map (λ file. file.bytes)) (found_none (λ file. bytes_eq file.name name) files (sym h))

-- the first file of the name is the one with this number
pub named_some : (files : List MemFile) (name : List ℕ) (index : ℕ)
    → Some index ≡ position (λ file. bytes_eq file.name name) files → file_named files name ≡ Some (bytes_at files index)
named_some files name index h =
    let found = found_some (λ file. bytes_eq file.name name) files index (sym h) in
    let whole : (x : MemFile) × (slice_get files index ≡ Some x) = grind (arith, common_steps, slice_get_cases files index) in
    rw (found.0, whole.1) refl
