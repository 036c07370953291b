-- Truth values of one layer.
use Rattle.std.proofs.Common.{List, [], ◌∷◌}
use Rattle.vital_base.specs.declared.place.Place.{Place}
use Rattle.vital_nodes.specs.declared.expr.Actual.TheOpen.{Expr-F}
use Rattle.vital_nodes.specs.declared.expr.Item.{Item}
use Rattle.vital_nodes.specs.declared.expr.Relational.{Relational}
use Rattle.vital_nodes.specs.declared.expr.Relational.TheVariants as relational
use Rattle.vital_nodes.specs.Layers.{ExprLayer}
use Rattle.vital_operands.specs.declared.tree.BooleanExpr.TheVariants as truth
use Rattle.vital_operands.specs.Items.{is_positional}
use Rattle.vital_expr.specs.declared.side.Side.{Side}
use Rattle.vital_expr.specs.declared.side.Side.TheVariants as side
use Rattle.vital_expr.specs.Booleans.{boolean_in, boolean_in_item, boolean_in_items, other_sides, related, related_by, same_sides, side_of}
use Rattle.vital_expr.specs.Outcomes.{broken, map_typed}
use Rattle.vital_expr.specs.Reading.{Reading, booleans_of, first_of}
use Rattle.vital_typed_cells.specs.ExprScopes.{Scope}
use Rattle.vital_typed_cells.proofs.Outcomes.{IfTyped, EachOf, if-both, if-mapped, if-test}
use Rattle.vital_typed_cells.proofs.Readings.{SoundReading, SoundReadings, booleans-sound, first-sound}
use Rattle.vital_typed_cells.proofs.ExprTrees.{SoundBoolean, SoundLevel, sound-not-true, sound-other, sound-other-levels, sound-same, sound-same-levels, sound-truths}

-- ---- relations

abbrev SoundSide : Scope → Side → Type 0
SoundSide s (side.Level t) = SoundLevel s t
SoundSide s (side.Boolean t) = SoundBoolean s t

side-sound : (s : Scope) (r : Reading) → SoundReading s r → IfTyped (SoundSide s) (side_of r)
side-sound s r sound =
    if-test (SoundSide s) r.is_boolean (map_typed (λ t. side.Boolean t) r.boolean) (map_typed (λ t. side.Level t) r.level)
    (λ h. if-mapped (SoundBoolean s) (SoundSide s) (λ t. side.Boolean t) r.boolean sound.boolean (λ t holds. holds))
    (λ h. if-mapped (SoundLevel s) (SoundSide s) (λ t. side.Level t) r.level sound.level (λ t holds. holds))

same-sound : (s : Scope) (own : List Place) (a b : Side) → SoundSide s a → SoundSide s b → IfTyped (SoundBoolean s) (same_sides own a b)
same-sound s own (side.Level a) (side.Level b) left right = sound-same-levels s a b left right
same-sound s own (side.Level a) (side.Boolean b) left right = tt
same-sound s own (side.Boolean a) (side.Level b) left right = tt
same-sound s own (side.Boolean a) (side.Boolean b) left right = sound-same s a b left right

other-sound : (s : Scope) (own : List Place) (a b : Side) → SoundSide s a → SoundSide s b → IfTyped (SoundBoolean s) (other_sides own a b)
other-sound s own (side.Level a) (side.Level b) left right = sound-other-levels s a b left right
other-sound s own (side.Level a) (side.Boolean b) left right = tt
other-sound s own (side.Boolean a) (side.Level b) left right = tt
other-sound s own (side.Boolean a) (side.Boolean b) left right = sound-other s a b left right

by-operator : (s : Scope) (own : List Place) (o : Relational) (l r : Reading) → SoundReading s l → SoundReading s r → IfTyped (SoundBoolean s) (related_by own o l r)
by-operator s own relational.Equal l r left right = if-both (SoundSide s) (SoundSide s) (SoundBoolean s) (same_sides own) (side_of l) (side_of r) (side-sound s l left) (side-sound s r right) (same-sound s own)
by-operator s own relational.NotEqual l r left right = if-both (SoundSide s) (SoundSide s) (SoundBoolean s) (other_sides own) (side_of l) (side_of r) (side-sound s l left) (side-sound s r right) (other-sound s own)
by-operator s own relational.Less l r left right = tt
by-operator s own relational.LessOrEqual l r left right = tt
by-operator s own relational.Greater l r left right = tt
by-operator s own relational.GreaterOrEqual l r left right = tt

related-sound : (s : Scope) (own : List Place) (o : Relational) (rs : List Reading) → SoundReadings s rs → IfTyped (SoundBoolean s) (related own o rs)
related-sound s own o [] sound = tt
related-sound s own o (l ∷ []) sound = tt
related-sound s own o (l ∷ r ∷ []) sound = by-operator s own o l r sound.0 sound.1.0
related-sound s own o (l ∷ r ∷ q ∷ rs) sound = tt

-- ---- truth values

item-sound : (s : Scope) (own : List Place) (i : Item) (r : Reading) → SoundReading s r → IfTyped (SoundBoolean s) (boolean_in_item own i r)
item-sound s own i r sound = if-test (SoundBoolean s) (is_positional i) r.boolean (broken own) (λ h. sound.boolean) (λ h. tt)

items-sound : (s : Scope) (own : List Place) (is : List Item) (rs : List Reading) → SoundReadings s rs → IfTyped (SoundBoolean s) (boolean_in_items own is rs)
items-sound s own [] rs sound = tt
items-sound s own (i ∷ []) [] sound = tt
items-sound s own (i ∷ []) (r ∷ rs) sound = item-sound s own i r sound.0
items-sound s own (i ∷ j ∷ is) rs sound = tt

pub boolean-sound : (s : Scope) (own : List Place) (rs : List Reading) (l : ExprLayer) → SoundReadings s rs → IfTyped (SoundBoolean s) (boolean_in own rs l)
boolean-sound s own rs (Expr-F.Logical place operator operands) sound =
    if-mapped (EachOf (SoundBoolean s) _) (SoundBoolean s) (λ ts. truth.Logical operator ts) (booleans_of rs) (booleans-sound s rs sound) (λ ts hold. sound-truths s operator ts hold.0)
boolean-sound s own rs (Expr-F.Relation r) sound = related-sound s own r.operator rs sound
boolean-sound s own rs (Expr-F.Sum u) sound = tt
boolean-sound s own rs (Expr-F.Product p) sound = tt
boolean-sound s own rs (Expr-F.Not place operand) sound =
    if-mapped (SoundBoolean s) (SoundBoolean s) (λ t. truth.Not t) (first_of rs).boolean (first-sound s rs sound).boolean (sound-not-true s)
boolean-sound s own rs (Expr-F.Number place number) sound = tt
boolean-sound s own rs (Expr-F.Physical physical) sound = tt
boolean-sound s own rs (Expr-F.Character place character) sound = tt
boolean-sound s own rs (Expr-F.StringLiteral place text) sound = tt
boolean-sound s own rs (Expr-F.Reference name) sound = (first-sound s rs sound).boolean
boolean-sound s own rs (Expr-F.Parenthesized place is) sound = items-sound s own is rs sound
