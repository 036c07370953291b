-- Names of conditions while they are written.
use Rattle.std.specs.Prelude.{ℕ, ◌&&◌, nat_lt, Bool, true, false, List, [], ◌∷◌, ◌++◌, length, if◌then◌else◌}
use Rattle.std.specs.Char.{to_ascii_lowercase}
use Rattle.vital_sdf_words.specs.Conditions.{is_underscore}
use Rattle.vital_sdf_words.specs.declared.tidy_name.TidyName.{TidyName as TidyName'}

-- What bytes add to a name that has begun or not, and behind which an underscore came last or not.
abbrev pub added : Bool → Bool → List ℕ → List ℕ
added has_begun is_gap [] = []
added has_begun is_gap (byte ∷ bytes) =
    if is_underscore byte then added has_begun true bytes
    else if has_begun && is_gap then 95 ∷ to_ascii_lowercase byte ∷ added true false bytes
    else to_ascii_lowercase byte ∷ added true false bytes

-- The name that comes of these further bytes.
abbrev pub tidied_after : TidyName' → List ℕ → List ℕ
tidied_after name bytes = name.bytes.items ++ added (nat_lt 0 (length name.bytes.items)) name.is_gap bytes
