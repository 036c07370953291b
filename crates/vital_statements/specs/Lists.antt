-- Lists of which each is judged with those before it.
use Rattle.std.specs.Prelude.{Bool, List, [], ◌∷◌, ◌++◌, if◌then◌else◌}
use Rattle.vital_base.specs.declared.place.Place.{Place}

-- What each of a list gives with those before it, where those of a first list stand before them all.
abbrev pub each_after : {A B : Type 0} → (List A → A → List B) → List A → List A → List B
each_after give before [] = []
each_after give before (x ∷ xs) = give before x ++ each_after give (before ++ x ∷ []) xs

-- What each of a list gives with those before it.
abbrev pub each : {A B : Type 0} → (List A → A → List B) → List A → List B
each give xs = each_after give [] xs

-- A place, if a clause is broken there.
abbrev pub place_if : Bool → Place → List Place
place_if is_broken place = if is_broken then place ∷ [] else []
