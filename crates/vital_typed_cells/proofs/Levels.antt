-- Levels of one layer.
use Rattle.std.proofs.Common.{List, [], ◌∷◌, Option, Some, None}
use Rattle.std.specs.Option.{IfSome, option_map}
use Rattle.vital_base.specs.declared.place.Place.{Place}
use Rattle.vital_logic.specs.declared.level.Level.{Level}
use Rattle.vital_nodes.specs.declared.expr.Actual.TheOpen.{Expr-F}
use Rattle.vital_nodes.specs.declared.expr.Item.{Item}
use Rattle.vital_nodes.specs.Layers.{ExprLayer}
use Rattle.vital_operands.specs.declared.tree.LevelExpr.TheVariants as level
use Rattle.vital_operands.specs.Items.{is_positional, printed_level}
use Rattle.vital_expr.specs.Levels.{level_in, level_in_item, level_in_items}
use Rattle.vital_expr.specs.Outcomes.{broken}
use Rattle.vital_expr.specs.Reading.{Reading, first_of, levels_of}
use Rattle.vital_typed_cells.specs.ExprScopes.{Scope}
use Rattle.vital_typed_cells.proofs.Outcomes.{IfTyped, EachOf, if-mapped, if-or, if-test}
use Rattle.vital_typed_cells.proofs.Readings.{SoundReading, SoundReadings, first-sound, levels-sound}
use Rattle.vital_typed_cells.proofs.ExprTrees.{SoundLevel, sound-level, sound-logical, sound-not}

item-sound : (s : Scope) (own : List Place) (i : Item) (r : Reading) → SoundReading s r → IfTyped (SoundLevel s) (level_in_item own i r)
item-sound s own i r sound = if-test (SoundLevel s) (is_positional i) r.level (broken own) (λ h. sound.level) (λ h. tt)

items-sound : (s : Scope) (own : List Place) (is : List Item) (rs : List Reading) → SoundReadings s rs → IfTyped (SoundLevel s) (level_in_items own is rs)
items-sound s own [] rs sound = tt
items-sound s own (i ∷ []) [] sound = tt
items-sound s own (i ∷ []) (r ∷ rs) sound = item-sound s own i r sound.0
items-sound s own (i ∷ j ∷ is) rs sound = tt

printed-sound : (s : Scope) (o : Option Level) → IfSome (option_map (λ l. level.Literal l) o) (SoundLevel s)
printed-sound s None = tt
printed-sound s (Some l) = sound-level s l

pub level-sound : (s : Scope) (own : List Place) (rs : List Reading) (l : ExprLayer) → SoundReadings s rs → IfTyped (SoundLevel s) (level_in own rs l)
level-sound s own rs (Expr-F.Logical place operator operands) sound =
    if-mapped (EachOf (SoundLevel s) _) (SoundLevel s) (λ ts. level.Logical operator ts) (levels_of rs) (levels-sound s rs sound) (λ ts hold. sound-logical s operator ts hold.0)
level-sound s own rs (Expr-F.Relation r) sound = tt
level-sound s own rs (Expr-F.Sum u) sound = tt
level-sound s own rs (Expr-F.Product p) sound = tt
level-sound s own rs (Expr-F.Not place operand) sound =
    if-mapped (SoundLevel s) (SoundLevel s) (λ t. level.Not t) (first_of rs).level (first-sound s rs sound).level (sound-not s)
level-sound s own rs (Expr-F.Number place number) sound = tt
level-sound s own rs (Expr-F.Physical physical) sound = tt
level-sound s own rs (Expr-F.Character place character) sound = if-or (SoundLevel s) own (option_map (λ l. level.Literal l) (printed_level character)) (printed-sound s (printed_level character))
level-sound s own rs (Expr-F.StringLiteral place text) sound = tt
level-sound s own rs (Expr-F.Reference name) sound = (first-sound s rs sound).level
level-sound s own rs (Expr-F.Parenthesized place is) sound = items-sound s own is rs sound
