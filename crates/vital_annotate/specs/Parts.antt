-- How the parts of a path equal the identifiers of a design.
use Rattle.std.specs.Prelude.{ℕ, ◌-◌, Bool, true, false, ◌&&◌, ◌==◌, if◌then◌else◌, List, [], ◌∷◌, length, take, drop}
use Rattle.std.specs.Str.{bytes_eq}
use Rattle.vital_annotate.specs.Names.{folded}

abbrev pub begins_extended : List ℕ → Bool
begins_extended [] = false
begins_extended (b ∷ bytes) = b == 92

-- what stands between the outer backslashes of an extended identifier, with those inside doubled as they stand
abbrev pub inner : List ℕ → List ℕ
inner identifier = take (length identifier - 2) (drop 1 identifier)

-- A part equals a basic identifier, which is in small letters, ignoring case, and the inner text of an extended one exactly.
unfoldable pub part_is : List ℕ → List ℕ → Bool
part_is identifier part = if begins_extended identifier then bytes_eq (inner identifier) part else bytes_eq identifier (folded part)

-- Each part of a path equals the label at its place.
abbrev pub parts_are : List (List ℕ) → List (List ℕ) → Bool
parts_are [] [] = true
parts_are (l ∷ ls) (p ∷ ps) = part_is l p && parts_are ls ps
parts_are ls ps = false
