-- Times and delays of one layer.
use Rattle.std.proofs.Common.{◌≡◌, ℕ, true, List, [], ◌∷◌, length, Option}
use Rattle.std.specs.Prelude.{◌&&◌, cond, is_some}
use Rattle.std.specs.List.{AllByRecursion}
use Rattle.std.specs.Option.{IfSome, option_map}
use Rattle.vital_base.specs.declared.place.Place.{Place}
use Rattle.vital_nodes.specs.declared.expr.Actual.TheOpen.{Expr-F}
use Rattle.vital_nodes.specs.declared.expr.Item.{Item}
use Rattle.vital_nodes.specs.declared.expr.Physical.{Physical}
use Rattle.vital_nodes.specs.Layers.{ExprLayer}
use Rattle.vital_operands.specs.declared.tree.DelayExpr.TheVariants as delays
use Rattle.vital_operands.specs.declared.tree.TimeExpr.TheVariants as time
use Rattle.vital_operands.specs.Items.{are_positional, is_positional, others_value, physical_time}
use Rattle.vital_operands.specs.Named.{even_delay, same_type}
use Rattle.vital_timing.specs.declared.delay.Delay.{Delay}
use Rattle.vital_timing.specs.declared.delay.Delay.TheVariants as delay
use Rattle.vital_timing.specs.declared.delay.DelayType.{DelayType}
use Rattle.vital_timing.specs.declared.delay.DelayType.TheVariants.{One, Two, Six}
use Rattle.vital_timing.specs.Delays.{type_of}
use Rattle.vital_expr.specs.Delays.{delay_by_others, delay_in, delay_in_item, delay_in_items, delay_of_several, delay_of_time, delay_of_times, has_list, listed_delay, literal_in, time_in, time_in_item, time_in_items, time_written}
use Rattle.vital_expr.specs.Outcomes.{and_then, broken}
use Rattle.vital_expr.specs.Reading.{Reading, first_of, literals_of}
use Rattle.vital_typed_cells.specs.ExprScopes.{Scope}
use Rattle.vital_typed_cells.specs.Times.{are_short, is_short}
use Rattle.vital_typed_cells.proofs.Outcomes.{IfTyped, if-map, if-mapped, if-or, if-test, if-then}
use Rattle.vital_typed_cells.proofs.Readings.{SoundDelay, SoundReading, SoundReadings, SoundTime, first-sound, literals-sound}
use Rattle.vital_typed_cells.proofs.ExprTests.{both-true}
use Rattle.vital_typed_cells.proofs.Times.{Short, even-short, physical-short}

-- ---- times

written-short : (l : ExprLayer) → IfSome (time_written l) Short
written-short (Expr-F.Logical place operator operands) = tt
written-short (Expr-F.Relation r) = tt
written-short (Expr-F.Sum s) = tt
written-short (Expr-F.Product p) = tt
written-short (Expr-F.Not place operand) = tt
written-short (Expr-F.Number place number) = tt
written-short (Expr-F.Physical physical) = physical-short physical
written-short (Expr-F.Character place character) = tt
written-short (Expr-F.StringLiteral place text) = tt
written-short (Expr-F.Reference name) = tt
written-short (Expr-F.Parenthesized place is) = tt

pub literal-sound : (own : List Place) (l : ExprLayer) → IfTyped Short (literal_in own l)
literal-sound own l = if-or Short own (time_written l) (written-short l)

time-item : (s : Scope) (own : List Place) (i : Item) (r : Reading) → SoundReading s r → IfTyped (SoundTime s) (time_in_item own i r)
time-item s own i r sound = if-test (SoundTime s) (is_positional i) r.time (broken own) (λ h. sound.time) (λ h. tt)

time-items : (s : Scope) (own : List Place) (is : List Item) (rs : List Reading) → SoundReadings s rs → IfTyped (SoundTime s) (time_in_items own is rs)
time-items s own [] rs sound = tt
time-items s own (i ∷ []) [] sound = tt
time-items s own (i ∷ []) (r ∷ rs) sound = time-item s own i r sound.0
time-items s own (i ∷ j ∷ is) rs sound = tt

time-physical : (s : Scope) (own : List Place) (p : Physical) → IfTyped (SoundTime s) (time_in own [] (Expr-F.Physical p))
time-physical s own p =
    if-or (SoundTime s) own (option_map (λ t. time.Literal t) (physical_time p))
    (if-map Short (SoundTime s) (λ t. time.Literal t) (physical_time p) (physical-short p) (λ t short. short))

pub time-sound : (s : Scope) (own : List Place) (rs : List Reading) (l : ExprLayer) → SoundReadings s rs → IfTyped (SoundTime s) (time_in own rs l)
time-sound s own rs (Expr-F.Logical place operator operands) sound = tt
time-sound s own rs (Expr-F.Relation r) sound = tt
time-sound s own rs (Expr-F.Sum u) sound = tt
time-sound s own rs (Expr-F.Product p) sound = tt
time-sound s own rs (Expr-F.Not place operand) sound = tt
time-sound s own rs (Expr-F.Number place number) sound = tt
time-sound s own rs (Expr-F.Physical physical) sound = time-physical s own physical
time-sound s own rs (Expr-F.Character place character) sound = tt
time-sound s own rs (Expr-F.StringLiteral place text) sound = tt
time-sound s own rs (Expr-F.Reference name) sound = (first-sound s rs sound).time
time-sound s own rs (Expr-F.Parenthesized place is) sound = time-items s own is rs sound

-- ---- delays

-- A delay of a type whose times are short.
abbrev ShortDelay : DelayType → Delay → Type 0
ShortDelay d x = (same_type d (type_of x) && are_short x) ≡ true

listed-short : (d : DelayType) (ts : List ℕ) → AllByRecursion Short ts → IfSome (listed_delay d ts) (ShortDelay d)
listed-short One ts short = tt
listed-short Two [] short = tt
listed-short Two (a ∷ []) short = tt
listed-short Two (a ∷ b ∷ []) short = both-true (is_short a) (is_short b) short.0 short.1.0
listed-short Two (a ∷ b ∷ c ∷ ts) short = tt
listed-short Six [] short = tt
listed-short Six (a ∷ []) short = tt
listed-short Six (a ∷ b ∷ []) short = tt
listed-short Six (a ∷ b ∷ c ∷ []) short = tt
listed-short Six (a ∷ b ∷ c ∷ d ∷ []) short = tt
listed-short Six (a ∷ b ∷ c ∷ d ∷ e ∷ []) short = tt
listed-short Six (a ∷ b ∷ c ∷ d ∷ e ∷ f ∷ []) short =
    both-true _ (is_short f)
    (both-true _ (is_short e)
    (both-true _ (is_short d)
    (both-true _ (is_short c)
    (both-true (is_short a) (is_short b) short.0 short.1.0)
    short.1.1.0) short.1.1.1.0) short.1.1.1.1.0) short.1.1.1.1.1.0
listed-short Six (a ∷ b ∷ c ∷ d ∷ e ∷ f ∷ g ∷ ts) short = tt

times-sound : (s : Scope) (own : List Place) (d : DelayType) (ts : List ℕ) → AllByRecursion Short ts → IfTyped (SoundDelay s d) (delay_of_times own d ts)
times-sound s own d ts short =
    if-or (SoundDelay s d) own (option_map (λ x. delays.Literal x) (listed_delay d ts))
    (if-map (ShortDelay d) (SoundDelay s d) (λ x. delays.Literal x) (listed_delay d ts) (listed-short d ts short) (λ x holds. holds))

several-sound : (s : Scope) (own : List Place) (d : DelayType) (is : List Item) (rs : List Reading) → SoundReadings s rs → IfTyped (SoundDelay s d) (delay_of_several own d is rs)
several-sound s own d is rs sound =
    if-test (SoundDelay s d) (has_list d (length is)) (cond (are_positional is) (and_then (delay_of_times own d) (literals_of rs)) (broken own)) (broken own)
    (λ h. if-test (SoundDelay s d) (are_positional is) (and_then (delay_of_times own d) (literals_of rs)) (broken own)
    (λ k. if-then _ (SoundDelay s d) (delay_of_times own d) (literals_of rs) (literals-sound s rs sound) (λ ts hold. times-sound s own d ts hold.0))
    (λ k. tt))
    (λ h. tt)

others-sound : (s : Scope) (own : List Place) (d : DelayType) (r : Reading) → SoundReading s r → IfTyped (SoundDelay s d) (delay_by_others own d r)
others-sound s own One r sound = tt
others-sound s own Two r sound = if-mapped Short (SoundDelay s Two) (λ t. delays.Literal (even_delay Two t)) r.literal sound.literal (even-short Two)
others-sound s own Six r sound = if-mapped Short (SoundDelay s Six) (λ t. delays.Literal (even_delay Six t)) r.literal sound.literal (even-short Six)

item-sound : (s : Scope) (own : List Place) (d : DelayType) (i : Item) (r : Reading) → SoundReading s r → IfTyped (SoundDelay s d) (delay_in_item own d i r)
item-sound s own d i r sound =
    if-test (SoundDelay s d) (is_positional i) (r.delay d) (cond (is_some (others_value i)) (delay_by_others own d r) (broken own))
    (λ h. sound.delay d)
    (λ h. if-test (SoundDelay s d) (is_some (others_value i)) (delay_by_others own d r) (broken own) (λ k. others-sound s own d r sound) (λ k. tt))

items-sound : (s : Scope) (own : List Place) (d : DelayType) (is : List Item) (rs : List Reading) → SoundReadings s rs → IfTyped (SoundDelay s d) (delay_in_items own d is rs)
items-sound s own d [] rs sound = tt
items-sound s own d (i ∷ []) rs sound = item-sound s own d i (first_of rs) (first-sound s rs sound)
items-sound s own d (i ∷ j ∷ is) rs sound = several-sound s own d (i ∷ j ∷ is) rs sound

of-time : (s : Scope) (d : DelayType) (o : Option ℕ) → IfSome o Short → IfSome (delay_of_time d o) (SoundDelay s d)
of-time s One o short = if-map Short (SoundDelay s One) (λ x. delays.Literal (delay.One x)) o short (λ t holds. holds)
of-time s Two o short = tt
of-time s Six o short = tt

pub delay-sound : (s : Scope) (own : List Place) (rs : List Reading) (d : DelayType) (l : ExprLayer) → SoundReadings s rs → IfTyped (SoundDelay s d) (delay_in own rs d l)
delay-sound s own rs d (Expr-F.Logical place operator operands) sound = tt
delay-sound s own rs d (Expr-F.Relation r) sound = tt
delay-sound s own rs d (Expr-F.Sum u) sound = tt
delay-sound s own rs d (Expr-F.Product p) sound = tt
delay-sound s own rs d (Expr-F.Not place operand) sound = tt
delay-sound s own rs d (Expr-F.Number place number) sound = tt
delay-sound s own rs d (Expr-F.Physical physical) sound = if-or (SoundDelay s d) own (delay_of_time d (physical_time physical)) (of-time s d (physical_time physical) (physical-short physical))
delay-sound s own rs d (Expr-F.Character place character) sound = tt
delay-sound s own rs d (Expr-F.StringLiteral place text) sound = tt
delay-sound s own rs d (Expr-F.Reference name) sound = (first-sound s rs sound).delay d
delay-sound s own rs d (Expr-F.Parenthesized place is) sound = items-sound s own d is rs sound
