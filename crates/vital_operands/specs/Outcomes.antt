-- What comes of an expression where a type is asked of it.
use Rattle.std.specs.Prelude.{List, [], ◌∷◌, ◌++◌, Option, Some, None}
use Rattle.vital_base.specs.declared.place.Place.{Place}

-- It is typed, or it is not of its form: at these places a clause is broken that speaks of the forms of expressions. There may be
-- none of them: then the names in it break other clauses.
pub data Outcome (A : Type 0) : Type 0 where
  Typed : A → Outcome A
  Broken : List Place → Outcome A

abbrev pub tree_of : {A : Type 0} → Outcome A → Option A
tree_of (Typed t) = Some t
tree_of (Broken places) = None

abbrev pub places_of : {A : Type 0} → Outcome A → List Place
places_of (Typed t) = []
places_of (Broken places) = places

-- Where it is typed, so is what is made of it.
abbrev pub map_typed : {A B : Type 0} → (A → B) → Outcome A → Outcome B
map_typed f (Typed t) = Typed (f t)
map_typed f (Broken places) = Broken places

-- Where two are typed, a test of both decides; else what is broken in them is broken.
abbrev pub both : {A B C : Type 0} → (A → B → Outcome C) → Outcome A → Outcome B → Outcome C
both f (Typed t) (Typed u) = f t u
both f (Typed t) (Broken places) = Broken places
both f (Broken places) (Typed u) = Broken places
both f (Broken places) (Broken others) = Broken (places ++ others)

-- Where all of a list are typed, so is the list; else what is broken in any is broken, in order.
abbrev pub all_typed : {A : Type 0} → List (Outcome A) → Outcome (List A)
all_typed [] = Typed []
all_typed (o ∷ os) = both (λ t ts. Typed (t ∷ ts)) o (all_typed os)

-- What there is, or else what is broken.
abbrev pub or_broken : {A : Type 0} → List Place → Option A → Outcome A
or_broken places (Some t) = Typed t
or_broken places None = Broken places
