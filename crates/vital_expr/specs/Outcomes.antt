-- What comes of an expression where a type is asked of it.
use Rattle.std.specs.Prelude.{List, [], ◌∷◌, ◌++◌, Option, Some, None}
use Rattle.std.specs.Option.{option_map}
use Rattle.vital_base.specs.declared.place.Place.{Place}

-- A tree, where it is of its form, and the places at which it breaks a clause that speaks of the forms of expressions. Where it is
-- of its form there are none; else there may be none too, since the names in it break other clauses.
pub record Outcome (A : Type 0) : Type 0 where
  pub tree : Option A
  pub places : List Place

abbrev pub typed : {A : Type 0} → A → Outcome A
typed t = record { tree = Some t; places = [] }

abbrev pub broken : {A : Type 0} → List Place → Outcome A
broken places = record { tree = None; places = places }

-- Where it is typed, so is what is made of it.
abbrev pub map_typed : {A B : Type 0} → (A → B) → Outcome A → Outcome B
map_typed f o = record { tree = option_map f o.tree; places = o.places }

-- What comes of an expression after what is broken before it.
abbrev pub after : {A : Type 0} → List Place → Outcome A → Outcome A
after places o = record { tree = o.tree; places = places ++ o.places }

-- Where it is typed, what follows of the tree decides.
abbrev pub then_by : {A B : Type 0} → (A → Outcome B) → Option A → List Place → Outcome B
then_by f (Some t) places = after places (f t)
then_by f None places = broken places

abbrev pub and_then : {A B : Type 0} → (A → Outcome B) → Outcome A → Outcome B
and_then f o = then_by f o.tree o.places

-- Where two are typed, what follows of both trees decides; else what is broken in them is broken.
abbrev pub both_by : {A B C : Type 0} → (A → B → Outcome C) → Option A → Option B → List Place → Outcome C
both_by f (Some t) (Some u) places = after places (f t u)
both_by f (Some t) None places = broken places
both_by f None u places = broken places

abbrev pub both : {A B C : Type 0} → (A → B → Outcome C) → Outcome A → Outcome B → Outcome C
both f o q = both_by f o.tree q.tree (o.places ++ q.places)

abbrev pub put_first : {A : Type 0} → A → List A → Outcome (List A)
put_first t ts = typed (t ∷ ts)

-- Where all of a list are typed, so is the list; else what is broken in any is broken, in order.
abbrev pub all_typed : {A : Type 0} → List (Outcome A) → Outcome (List A)
all_typed [] = typed []
all_typed (o ∷ os) = both put_first o (all_typed os)

-- What there is, or else what is broken.
abbrev pub or_broken : {A : Type 0} → List Place → Option A → Outcome A
or_broken places (Some t) = typed t
or_broken places None = broken places

-- Trees with one more behind them, if there are these and that.
abbrev pub with_tree : {A : Type 0} → Option (List A) → Option A → Option (List A)
with_tree (Some ts) (Some t) = Some (ts ++ t ∷ [])
with_tree (Some ts) None = None
with_tree None t = None
