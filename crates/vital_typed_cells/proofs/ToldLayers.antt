-- Of an expression it is told what comes of it, where it is told of its parts.
use Rattle.std.proofs.Common.{◌≢◌, ℕ, List, [], ◌∷◌, length, Option, Some, None, refl}
use Rattle.std.specs.Prelude.{⊤, cond, is_some}
use Rattle.std.specs.Option.{option_map}
use Rattle.vital_base.specs.declared.place.Place.{Place}
use Rattle.vital_nodes.specs.declared.expr.Actual.TheOpen.{Expr-F}
use Rattle.vital_nodes.specs.declared.expr.Item.{Item}
use Rattle.vital_nodes.specs.declared.expr.Relational.{Relational}
use Rattle.vital_nodes.specs.declared.expr.Relational.TheVariants as relational
use Rattle.vital_nodes.specs.Layers.{ExprLayer}
use Rattle.vital_operands.specs.declared.tree.BooleanExpr.{BooleanExpr}
use Rattle.vital_operands.specs.declared.tree.BooleanExpr.TheVariants as truth
use Rattle.vital_operands.specs.declared.tree.DelayExpr.{DelayExpr}
use Rattle.vital_operands.specs.declared.tree.DelayExpr.TheVariants as delays
use Rattle.vital_operands.specs.declared.tree.LevelExpr.{LevelExpr}
use Rattle.vital_operands.specs.declared.tree.LevelExpr.TheVariants as level
use Rattle.vital_operands.specs.declared.tree.TimeExpr.{TimeExpr}
use Rattle.vital_operands.specs.declared.tree.TimeExpr.TheVariants as time
use Rattle.vital_operands.specs.declared.tree.VectorExpr.{VectorExpr}
use Rattle.vital_operands.specs.declared.tree.VectorExpr.TheVariants as vector
use Rattle.vital_operands.specs.Items.{are_positional, is_positional, levels_of_text, others_value, physical_time, printed_level}
use Rattle.vital_operands.specs.Named.{even_delay}
use Rattle.vital_timing.specs.declared.delay.DelayType.{DelayType}
use Rattle.vital_timing.specs.declared.delay.DelayType.TheVariants.{One, Two, Six}
use Rattle.vital_expr.specs.declared.side.Side.{Side}
use Rattle.vital_expr.specs.declared.side.Side.TheVariants as side
use Rattle.vital_expr.specs.Booleans.{boolean_in, boolean_in_items, other_sides, related, related_by, same_sides, side_of}
use Rattle.vital_expr.specs.Delays.{delay_by_others, delay_in, delay_in_item, delay_in_items, delay_of_several, delay_of_time, delay_of_times, has_list, listed_delay, time_in, time_in_items}
use Rattle.vital_expr.specs.Levels.{level_in, level_in_items}
use Rattle.vital_expr.specs.Outcomes.{and_then, broken, map_typed}
use Rattle.vital_expr.specs.Reading.{Reading, booleans_of, first_of, levels_of, literals_of, texts_of}
use Rattle.vital_expr.specs.Texts.{is_joint, joined, text_in, text_in_items}
use Rattle.vital_expr.specs.Vectors.{if_fits, if_vector_fits, list_of_levels, others_of_length, vector_by_level, vector_in, vector_in_item, vector_in_items, vector_of_levels, vector_of_one, vector_of_several}
use Rattle.vital_typed_cells.specs.Told.{IsTold}
use Rattle.vital_typed_cells.proofs.ExprTold.{told-both, told-broken, told-mapped, told-or, told-test, told-then}
use Rattle.vital_typed_cells.proofs.ToldReadings.{GivenTold, ItemsTold, ToldReading, ToldReadings, all-by-position, booleans-told, by-others, by-position, levels-told, literals-told, texts-told}

-- It is told of the parts of an expression, but for items that give no value.
abbrev pub PartsTold : ExprLayer → List Reading → Type 0
PartsTold (Expr-F.Logical place operator operands) rs = ToldReadings rs
PartsTold (Expr-F.Relation r) rs = ToldReadings rs
PartsTold (Expr-F.Sum s) rs = ToldReadings rs
PartsTold (Expr-F.Product p) rs = ToldReadings rs
PartsTold (Expr-F.Not place operand) rs = ToldReading (first_of rs)
PartsTold (Expr-F.Number place number) rs = ⊤
PartsTold (Expr-F.Physical physical) rs = ⊤
PartsTold (Expr-F.Character place character) rs = ⊤
PartsTold (Expr-F.StringLiteral place text) rs = ⊤
PartsTold (Expr-F.Reference name) rs = ToldReading (first_of rs)
PartsTold (Expr-F.Parenthesized place is) rs = ItemsTold is rs

-- ---- levels

level-items : (own : List Place) (is : List Item) (rs : List Reading) → own ≢ [] → ItemsTold is rs → IsTold (level_in_items own is rs)
level-items own [] rs there told = told-broken LevelExpr own there
level-items own (i ∷ []) [] there told = absurd told
level-items own (i ∷ []) (r ∷ rs) there told = told-test (is_positional i) r.level (broken own) (λ h. (by-position i r told.0 h).level) (told-broken LevelExpr own there)
level-items own (i ∷ j ∷ is) rs there told = told-broken LevelExpr own there

pub level-told : (own : List Place) (rs : List Reading) (l : ExprLayer) → own ≢ [] → PartsTold l rs → IsTold (level_in own rs l)
level-told own rs (Expr-F.Logical place operator operands) there told = told-mapped (λ ts. level.Logical operator ts) (levels_of rs) (levels-told rs told)
level-told own rs (Expr-F.Relation r) there told = told-broken LevelExpr own there
level-told own rs (Expr-F.Sum s) there told = told-broken LevelExpr own there
level-told own rs (Expr-F.Product p) there told = told-broken LevelExpr own there
level-told own rs (Expr-F.Not place operand) there told = told-mapped (λ t. level.Not t) (first_of rs).level told.level
level-told own rs (Expr-F.Number place number) there told = told-broken LevelExpr own there
level-told own rs (Expr-F.Physical physical) there told = told-broken LevelExpr own there
level-told own rs (Expr-F.Character place character) there told = told-or own (option_map (λ l. level.Literal l) (printed_level character)) there
level-told own rs (Expr-F.StringLiteral place text) there told = told-broken LevelExpr own there
level-told own rs (Expr-F.Reference name) there told = told.level
level-told own rs (Expr-F.Parenthesized place is) there told = level-items own is rs there told

-- ---- vectors

vector-fitting : (own : List Place) (asked : Option ℕ) (v : VectorExpr) → own ≢ [] → IsTold (if_vector_fits own asked v)
vector-fitting own asked v there = told-or own (if_fits asked v) there

vector-by-level : (own : List Place) (asked : Option ℕ) (r : Reading) (o : Option LevelExpr) → own ≢ [] → ToldReading r → IsTold (vector_by_level own asked r o)
vector-by-level own asked r None there told = told.vector asked
vector-by-level own asked r (Some t) there told = vector-fitting own asked (vector.Levels (t ∷ [])) there

vector-others : (own : List Place) (asked : Option ℕ) (t : LevelExpr) → own ≢ [] → IsTold (others_of_length own asked t)
vector-others own None t there = told-broken VectorExpr own there
vector-others own (Some n) t there = λ is. refl

vector-item : (own : List Place) (asked : Option ℕ) (i : Item) (r : Reading) → own ≢ [] → GivenTold i r → IsTold (vector_in_item own asked i r)
vector-item own asked i r there told =
    told-test (is_positional i) (vector_of_one own asked r) (cond (is_some (others_value i)) (and_then (others_of_length own asked) r.level) (broken own))
    (λ h. vector-by-level own asked r r.level.tree there (by-position i r told h))
    (told-test (is_some (others_value i)) (and_then (others_of_length own asked) r.level) (broken own)
    (λ h. told-then (others_of_length own asked) r.level (by-others i r told h).level (λ t. vector-others own asked t there))
    (told-broken VectorExpr own there))

vector-several : (own : List Place) (asked : Option ℕ) (is : List Item) (rs : List Reading) → own ≢ [] → ItemsTold is rs → IsTold (vector_of_several own asked is rs)
vector-several own asked is rs there told =
    told-test (are_positional is) (and_then (list_of_levels own asked) (levels_of rs)) (broken own)
    (λ h. told-then (list_of_levels own asked) (levels_of rs) (levels-told rs (all-by-position is rs told h)) (λ ts. vector-fitting own asked (vector.Levels ts) there))
    (told-broken VectorExpr own there)

vector-items : (own : List Place) (asked : Option ℕ) (is : List Item) (rs : List Reading) → own ≢ [] → ItemsTold is rs → IsTold (vector_in_items own asked is rs)
vector-items own asked [] rs there told = told-broken VectorExpr own there
vector-items own asked (i ∷ []) [] there told = absurd told
vector-items own asked (i ∷ []) (r ∷ rs) there told = vector-item own asked i r there told.0
vector-items own asked (i ∷ j ∷ is) rs there told = vector-several own asked (i ∷ j ∷ is) rs there told

pub vector-told : (own : List Place) (rs : List Reading) (asked : Option ℕ) (l : ExprLayer) → own ≢ [] → PartsTold l rs → IsTold (vector_in own rs asked l)
vector-told own rs asked (Expr-F.Logical place operator operands) there told = told-broken VectorExpr own there
vector-told own rs asked (Expr-F.Relation r) there told = told-broken VectorExpr own there
vector-told own rs asked (Expr-F.Sum s) there told = told-broken VectorExpr own there
vector-told own rs asked (Expr-F.Product p) there told = told-broken VectorExpr own there
vector-told own rs asked (Expr-F.Not place operand) there told = told-broken VectorExpr own there
vector-told own rs asked (Expr-F.Number place number) there told = told-broken VectorExpr own there
vector-told own rs asked (Expr-F.Physical physical) there told = told-broken VectorExpr own there
vector-told own rs asked (Expr-F.Character place character) there told = told-broken VectorExpr own there
vector-told own rs asked (Expr-F.StringLiteral place text) there told = told-or own (vector_of_levels asked (levels_of_text text)) there
vector-told own rs asked (Expr-F.Reference name) there told = told.vector asked
vector-told own rs asked (Expr-F.Parenthesized place is) there told = vector-items own asked is rs there told

-- ---- truth values

side-told : (r : Reading) → ToldReading r → IsTold (side_of r)
side-told r told = told-test r.is_boolean (map_typed (λ t. side.Boolean t) r.boolean) (map_typed (λ t. side.Level t) r.level) (λ h. told-mapped (λ t. side.Boolean t) r.boolean told.boolean) (told-mapped (λ t. side.Level t) r.level told.level)

same-told : (own : List Place) (a b : Side) → own ≢ [] → IsTold (same_sides own a b)
same-told own (side.Level a) (side.Level b) there = λ is. refl
same-told own (side.Level a) (side.Boolean b) there = told-broken BooleanExpr own there
same-told own (side.Boolean a) (side.Level b) there = told-broken BooleanExpr own there
same-told own (side.Boolean a) (side.Boolean b) there = λ is. refl

other-told : (own : List Place) (a b : Side) → own ≢ [] → IsTold (other_sides own a b)
other-told own (side.Level a) (side.Level b) there = λ is. refl
other-told own (side.Level a) (side.Boolean b) there = told-broken BooleanExpr own there
other-told own (side.Boolean a) (side.Level b) there = told-broken BooleanExpr own there
other-told own (side.Boolean a) (side.Boolean b) there = λ is. refl

by-operator : (own : List Place) (o : Relational) (l r : Reading) → own ≢ [] → ToldReading l → ToldReading r → IsTold (related_by own o l r)
by-operator own relational.Equal l r there left right = told-both (same_sides own) (side_of l) (side_of r) (side-told l left) (side-told r right) (λ a b. same-told own a b there)
by-operator own relational.NotEqual l r there left right = told-both (other_sides own) (side_of l) (side_of r) (side-told l left) (side-told r right) (λ a b. other-told own a b there)
by-operator own relational.Less l r there left right = told-broken BooleanExpr own there
by-operator own relational.LessOrEqual l r there left right = told-broken BooleanExpr own there
by-operator own relational.Greater l r there left right = told-broken BooleanExpr own there
by-operator own relational.GreaterOrEqual l r there left right = told-broken BooleanExpr own there

related-told : (own : List Place) (o : Relational) (rs : List Reading) → own ≢ [] → ToldReadings rs → IsTold (related own o rs)
related-told own o [] there told = told-broken BooleanExpr own there
related-told own o (l ∷ []) there told = told-broken BooleanExpr own there
related-told own o (l ∷ r ∷ []) there told = by-operator own o l r there told.0 told.1.0
related-told own o (l ∷ r ∷ q ∷ rs) there told = told-broken BooleanExpr own there

boolean-items : (own : List Place) (is : List Item) (rs : List Reading) → own ≢ [] → ItemsTold is rs → IsTold (boolean_in_items own is rs)
boolean-items own [] rs there told = told-broken BooleanExpr own there
boolean-items own (i ∷ []) [] there told = absurd told
boolean-items own (i ∷ []) (r ∷ rs) there told = told-test (is_positional i) r.boolean (broken own) (λ h. (by-position i r told.0 h).boolean) (told-broken BooleanExpr own there)
boolean-items own (i ∷ j ∷ is) rs there told = told-broken BooleanExpr own there

pub boolean-told : (own : List Place) (rs : List Reading) (l : ExprLayer) → own ≢ [] → PartsTold l rs → IsTold (boolean_in own rs l)
boolean-told own rs (Expr-F.Logical place operator operands) there told = told-mapped (λ ts. truth.Logical operator ts) (booleans_of rs) (booleans-told rs told)
boolean-told own rs (Expr-F.Relation r) there told = related-told own r.operator rs there told
boolean-told own rs (Expr-F.Sum s) there told = told-broken BooleanExpr own there
boolean-told own rs (Expr-F.Product p) there told = told-broken BooleanExpr own there
boolean-told own rs (Expr-F.Not place operand) there told = told-mapped (λ t. truth.Not t) (first_of rs).boolean told.boolean
boolean-told own rs (Expr-F.Number place number) there told = told-broken BooleanExpr own there
boolean-told own rs (Expr-F.Physical physical) there told = told-broken BooleanExpr own there
boolean-told own rs (Expr-F.Character place character) there told = told-broken BooleanExpr own there
boolean-told own rs (Expr-F.StringLiteral place text) there told = told-broken BooleanExpr own there
boolean-told own rs (Expr-F.Reference name) there told = told.boolean
boolean-told own rs (Expr-F.Parenthesized place is) there told = boolean-items own is rs there told

-- ---- times

time-items : (own : List Place) (is : List Item) (rs : List Reading) → own ≢ [] → ItemsTold is rs → IsTold (time_in_items own is rs)
time-items own [] rs there told = told-broken TimeExpr own there
time-items own (i ∷ []) [] there told = absurd told
time-items own (i ∷ []) (r ∷ rs) there told = told-test (is_positional i) r.time (broken own) (λ h. (by-position i r told.0 h).time) (told-broken TimeExpr own there)
time-items own (i ∷ j ∷ is) rs there told = told-broken TimeExpr own there

pub time-told : (own : List Place) (rs : List Reading) (l : ExprLayer) → own ≢ [] → PartsTold l rs → IsTold (time_in own rs l)
time-told own rs (Expr-F.Logical place operator operands) there told = told-broken TimeExpr own there
time-told own rs (Expr-F.Relation r) there told = told-broken TimeExpr own there
time-told own rs (Expr-F.Sum s) there told = told-broken TimeExpr own there
time-told own rs (Expr-F.Product p) there told = told-broken TimeExpr own there
time-told own rs (Expr-F.Not place operand) there told = told-broken TimeExpr own there
time-told own rs (Expr-F.Number place number) there told = told-broken TimeExpr own there
time-told own rs (Expr-F.Physical physical) there told = told-or own (option_map (λ t. time.Literal t) (physical_time physical)) there
time-told own rs (Expr-F.Character place character) there told = told-broken TimeExpr own there
time-told own rs (Expr-F.StringLiteral place text) there told = told-broken TimeExpr own there
time-told own rs (Expr-F.Reference name) there told = told.time
time-told own rs (Expr-F.Parenthesized place is) there told = time-items own is rs there told

-- ---- delays

delay-several : (own : List Place) (d : DelayType) (is : List Item) (rs : List Reading) → own ≢ [] → ItemsTold is rs → IsTold (delay_of_several own d is rs)
delay-several own d is rs there told =
    told-test (has_list d (length is)) (cond (are_positional is) (and_then (delay_of_times own d) (literals_of rs)) (broken own)) (broken own)
    (λ h. told-test (are_positional is) (and_then (delay_of_times own d) (literals_of rs)) (broken own)
    (λ k. told-then (delay_of_times own d) (literals_of rs) (literals-told rs (all-by-position is rs told k)) (λ ts. told-or own (option_map (λ x. delays.Literal x) (listed_delay d ts)) there))
    (told-broken DelayExpr own there))
    (told-broken DelayExpr own there)

delay-others : (own : List Place) (d : DelayType) (r : Reading) → own ≢ [] → ToldReading r → IsTold (delay_by_others own d r)
delay-others own One r there told = told-broken DelayExpr own there
delay-others own Two r there told = told-mapped (λ t. delays.Literal (even_delay Two t)) r.literal told.literal
delay-others own Six r there told = told-mapped (λ t. delays.Literal (even_delay Six t)) r.literal told.literal

delay-item : (own : List Place) (d : DelayType) (i : Item) (r : Reading) → own ≢ [] → GivenTold i r → IsTold (delay_in_item own d i r)
delay-item own d i r there told =
    told-test (is_positional i) (r.delay d) (cond (is_some (others_value i)) (delay_by_others own d r) (broken own))
    (λ h. (by-position i r told h).delay d)
    (told-test (is_some (others_value i)) (delay_by_others own d r) (broken own) (λ h. delay-others own d r there (by-others i r told h)) (told-broken DelayExpr own there))

delay-items : (own : List Place) (d : DelayType) (is : List Item) (rs : List Reading) → own ≢ [] → ItemsTold is rs → IsTold (delay_in_items own d is rs)
delay-items own d [] rs there told = told-broken DelayExpr own there
delay-items own d (i ∷ []) [] there told = absurd told
delay-items own d (i ∷ []) (r ∷ rs) there told = delay-item own d i r there told.0
delay-items own d (i ∷ j ∷ is) rs there told = delay-several own d (i ∷ j ∷ is) rs there told

pub delay-told : (own : List Place) (rs : List Reading) (d : DelayType) (l : ExprLayer) → own ≢ [] → PartsTold l rs → IsTold (delay_in own rs d l)
delay-told own rs d (Expr-F.Logical place operator operands) there told = told-broken DelayExpr own there
delay-told own rs d (Expr-F.Relation r) there told = told-broken DelayExpr own there
delay-told own rs d (Expr-F.Sum s) there told = told-broken DelayExpr own there
delay-told own rs d (Expr-F.Product p) there told = told-broken DelayExpr own there
delay-told own rs d (Expr-F.Not place operand) there told = told-broken DelayExpr own there
delay-told own rs d (Expr-F.Number place number) there told = told-broken DelayExpr own there
delay-told own rs d (Expr-F.Physical physical) there told = told-or own (delay_of_time d (physical_time physical)) there
delay-told own rs d (Expr-F.Character place character) there told = told-broken DelayExpr own there
delay-told own rs d (Expr-F.StringLiteral place text) there told = told-broken DelayExpr own there
delay-told own rs d (Expr-F.Reference name) there told = told.delay d
delay-told own rs d (Expr-F.Parenthesized place is) there told = delay-items own d is rs there told

-- ---- texts

text-items : (own : List Place) (is : List Item) (rs : List Reading) → own ≢ [] → ItemsTold is rs → IsTold (text_in_items own is rs)
text-items own [] rs there told = told-broken ⊤ own there
text-items own (i ∷ []) [] there told = absurd told
text-items own (i ∷ []) (r ∷ rs) there told = told-test (is_positional i) r.text (broken own) (λ h. (by-position i r told.0 h).text) (told-broken ⊤ own there)
text-items own (i ∷ j ∷ is) rs there told = told-broken ⊤ own there

pub text-told : (own : List Place) (rs : List Reading) (l : ExprLayer) → own ≢ [] → PartsTold l rs → IsTold (text_in own rs l)
text-told own rs (Expr-F.Logical place operator operands) there told = told-broken ⊤ own there
text-told own rs (Expr-F.Relation r) there told = told-broken ⊤ own there
text-told own rs (Expr-F.Sum s) there told = told-test (is_joint s) (joined rs) (broken own) (λ h. told-mapped (λ ts. tt) (texts_of rs) (texts-told rs told)) (told-broken ⊤ own there)
text-told own rs (Expr-F.Product p) there told = told-broken ⊤ own there
text-told own rs (Expr-F.Not place operand) there told = told-broken ⊤ own there
text-told own rs (Expr-F.Number place number) there told = told-broken ⊤ own there
text-told own rs (Expr-F.Physical physical) there told = told-broken ⊤ own there
text-told own rs (Expr-F.Character place character) there told = told-broken ⊤ own there
text-told own rs (Expr-F.StringLiteral place text) there told = λ is. refl
text-told own rs (Expr-F.Reference name) there told = told.text
text-told own rs (Expr-F.Parenthesized place is) there told = text-items own is rs there told
