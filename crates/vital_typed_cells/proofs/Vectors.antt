-- Vectors that are made of sound levels are sound, and of the length that is asked.
use Rattle.std.proofs.Common.{◌≡◌, ℕ, Bool, true, false, List, [], ◌∷◌, Option, Some, None, refl, ap, sym}
use Rattle.std.specs.Prelude.{cond, is_some}
use Rattle.std.specs.Option.{IfSome}
use Rattle.vital_base.specs.declared.place.Place.{Place}
use Rattle.vital_logic.specs.declared.level.Level.{Level}
use Rattle.vital_nodes.specs.declared.expr.Actual.TheOpen.{Expr-F}
use Rattle.vital_nodes.specs.declared.expr.Item.{Item}
use Rattle.vital_nodes.specs.Layers.{ExprLayer}
use Rattle.vital_operands.specs.declared.tree.LevelExpr.{LevelExpr}
use Rattle.vital_operands.specs.declared.tree.VectorExpr.{VectorExpr}
use Rattle.vital_operands.specs.declared.tree.VectorExpr.TheVariants as vector
use Rattle.vital_operands.specs.Items.{are_positional, is_positional, levels_of_text, others_value}
use Rattle.vital_expr.specs.Outcomes.{and_then, broken}
use Rattle.vital_expr.specs.Reading.{Reading, first_of, levels_of}
use Rattle.vital_expr.specs.Vectors.{fits, if_fits, if_vector_fits, length_in, length_of, list_of_levels, others_of_length, vector_by_level, vector_in, vector_in_item, vector_in_items, vector_of_levels, vector_of_one, vector_of_several}
use Rattle.vital_typed_cells.specs.ExprScopes.{Scope}
use Rattle.vital_typed_cells.proofs.Outcomes.{IfTyped, if-or, if-test, if-then}
use Rattle.vital_typed_cells.proofs.Readings.{SoundReading, SoundReadings, SoundVector, first-sound, levels-sound}
use Rattle.vital_typed_cells.proofs.ExprTests.{same-number}
use Rattle.vital_typed_cells.proofs.ExprTrees.{HoldsVector, SoundLevel, SoundLevels, sound-levels, sound-literal, sound-others}

if-fitting : (s : Scope) (asked : Option ℕ) (v : VectorExpr) (b : Bool) → (b ≡ true → fits asked (length_of v) ≡ true) → HoldsVector s v → IfSome (cond b (Some v) None) (SoundVector s asked)
if-fitting s asked v true fit holds = record { holds = holds; fits = fit refl }
if-fitting s asked v false fit holds = tt

pub fitting : (s : Scope) (asked : Option ℕ) (v : VectorExpr) → HoldsVector s v → IfSome (if_fits asked v) (SoundVector s asked)
fitting s asked v holds = if-fitting s asked v (fits asked (length_of v)) (λ h. h) holds

pub vector-fitting : (s : Scope) (own : List Place) (asked : Option ℕ) (v : VectorExpr) → HoldsVector s v → IfTyped (SoundVector s asked) (if_vector_fits own asked v)
vector-fitting s own asked v holds = if-or (SoundVector s asked) own (if_fits asked v) (fitting s asked v holds)

list-sound : (s : Scope) (own : List Place) (asked : Option ℕ) (ts : List LevelExpr) → SoundLevels s ts → IfTyped (SoundVector s asked) (list_of_levels own asked ts)
list-sound s own asked ts sound = vector-fitting s own asked (vector.Levels ts) (sound-levels s ts sound)

by-level : (s : Scope) (own : List Place) (asked : Option ℕ) (r : Reading) (o : Option LevelExpr) → SoundReading s r → IfSome o (SoundLevel s) → IfTyped (SoundVector s asked) (vector_by_level own asked r o)
by-level s own asked r (Some t) sound holds = list-sound s own asked (t ∷ []) (holds, tt)
by-level s own asked r None sound holds = sound.vector asked

others-sound : (s : Scope) (own : List Place) (asked : Option ℕ) (t : LevelExpr) → SoundLevel s t → IfTyped (SoundVector s asked) (others_of_length own asked t)
others-sound s own None t holds = tt
others-sound s own (Some n) t holds = record { holds = sound-others s t n holds; fits = same-number n (length_of (vector.Others t n)) (sym (ap length_in (vector.outs-Others t n))) }

item-sound : (s : Scope) (own : List Place) (asked : Option ℕ) (i : Item) (r : Reading) → SoundReading s r → IfTyped (SoundVector s asked) (vector_in_item own asked i r)
item-sound s own asked i r sound =
    if-test (SoundVector s asked) (is_positional i) (vector_of_one own asked r) (cond (is_some (others_value i)) (and_then (others_of_length own asked) r.level) (broken own))
    (λ h. by-level s own asked r r.level.tree sound sound.level)
    (λ h. if-test (SoundVector s asked) (is_some (others_value i)) (and_then (others_of_length own asked) r.level) (broken own) (λ k. if-then (SoundLevel s) (SoundVector s asked) (others_of_length own asked) r.level sound.level (others-sound s own asked)) (λ k. tt))

several-sound : (s : Scope) (own : List Place) (asked : Option ℕ) (is : List Item) (rs : List Reading) → SoundReadings s rs → IfTyped (SoundVector s asked) (vector_of_several own asked is rs)
several-sound s own asked is rs sound =
    if-test (SoundVector s asked) (are_positional is) (and_then (list_of_levels own asked) (levels_of rs)) (broken own)
    (λ h. if-then _ (SoundVector s asked) (list_of_levels own asked) (levels_of rs) (levels-sound s rs sound) (λ ts hold. list-sound s own asked ts hold.0))
    (λ h. tt)

items-sound : (s : Scope) (own : List Place) (asked : Option ℕ) (is : List Item) (rs : List Reading) → SoundReadings s rs → IfTyped (SoundVector s asked) (vector_in_items own asked is rs)
items-sound s own asked [] rs sound = tt
items-sound s own asked (i ∷ []) rs sound = item-sound s own asked i (first_of rs) (first-sound s rs sound)
items-sound s own asked (i ∷ j ∷ is) rs sound = several-sound s own asked (i ∷ j ∷ is) rs sound

text-sound : (s : Scope) (asked : Option ℕ) (o : Option (List Level)) → IfSome (vector_of_levels asked o) (SoundVector s asked)
text-sound s asked None = tt
text-sound s asked (Some ls) = fitting s asked (vector.Literal ls) (sound-literal s ls)

pub vector-sound : (s : Scope) (own : List Place) (rs : List Reading) (asked : Option ℕ) (l : ExprLayer) → SoundReadings s rs → IfTyped (SoundVector s asked) (vector_in own rs asked l)
vector-sound s own rs asked (Expr-F.Logical place operator operands) sound = tt
vector-sound s own rs asked (Expr-F.Relation r) sound = tt
vector-sound s own rs asked (Expr-F.Sum u) sound = tt
vector-sound s own rs asked (Expr-F.Product p) sound = tt
vector-sound s own rs asked (Expr-F.Not place operand) sound = tt
vector-sound s own rs asked (Expr-F.Number place number) sound = tt
vector-sound s own rs asked (Expr-F.Physical physical) sound = tt
vector-sound s own rs asked (Expr-F.Character place character) sound = tt
vector-sound s own rs asked (Expr-F.StringLiteral place text) sound = if-or (SoundVector s asked) own (vector_of_levels asked (levels_of_text text)) (text-sound s asked (levels_of_text text))
vector-sound s own rs asked (Expr-F.Reference name) sound = (first-sound s rs sound).vector asked
vector-sound s own rs asked (Expr-F.Parenthesized place is) sound = items-sound s own asked is rs sound
