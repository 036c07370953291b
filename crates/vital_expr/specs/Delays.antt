-- Expressions that give times and delays.
use Rattle.std.specs.Prelude.{ℕ, Bool, false, ◌==◌, is_some, List, [], ◌∷◌, length, Option, Some, None, if◌then◌else◌}
use Rattle.std.specs.Option.{option_map}
use Rattle.vital_base.specs.declared.place.Place.{Place}
use Rattle.vital_nodes.specs.declared.expr.Actual.TheOpen.{Expr-F}
use Rattle.vital_nodes.specs.declared.expr.Item.{Item}
use Rattle.vital_nodes.specs.Layers.{ExprLayer}
use Rattle.vital_operands.specs.declared.tree.DelayExpr.{DelayExpr}
use Rattle.vital_operands.specs.declared.tree.DelayExpr.TheVariants as delays
use Rattle.vital_operands.specs.declared.tree.TimeExpr.{TimeExpr}
use Rattle.vital_operands.specs.declared.tree.TimeExpr.TheVariants as time
use Rattle.vital_operands.specs.Items.{are_positional, is_positional, others_value, physical_time}
use Rattle.vital_operands.specs.Named.{even_delay}
use Rattle.vital_timing.specs.declared.delay.Delay.{Delay}
use Rattle.vital_timing.specs.declared.delay.Delay.TheVariants as delay
use Rattle.vital_timing.specs.declared.delay.DelayType.{DelayType}
use Rattle.vital_timing.specs.declared.delay.DelayType.TheVariants.{One, Two, Six}
use Rattle.vital_expr.specs.Outcomes.{Outcome, and_then, broken, map_typed, or_broken}
use Rattle.vital_expr.specs.Reading.{Reading, first_of, literals_of}

-- ---- times

-- The time that an expression writes itself: a number with a unit.
abbrev pub time_written : ExprLayer → Option ℕ
time_written (Expr-F.Logical place operator operands) = None
time_written (Expr-F.Relation r) = None
time_written (Expr-F.Sum s) = None
time_written (Expr-F.Product p) = None
time_written (Expr-F.Not place operand) = None
time_written (Expr-F.Number place number) = None
time_written (Expr-F.Physical physical) = physical_time physical
time_written (Expr-F.Character place character) = None
time_written (Expr-F.StringLiteral place text) = None
time_written (Expr-F.Reference name) = None
time_written (Expr-F.Parenthesized place is) = None

abbrev pub literal_in : List Place → ExprLayer → Outcome ℕ
literal_in own l = or_broken own (time_written l)

-- One value by position in parentheses is what is in it.
abbrev pub time_in_item : List Place → Item → Reading → Outcome TimeExpr
time_in_item own i r = if is_positional i then r.time else broken own

abbrev pub time_in_items : List Place → List Item → List Reading → Outcome TimeExpr
time_in_items own (i ∷ []) (r ∷ rs) = time_in_item own i r
time_in_items own is rs = broken own

abbrev pub time_in : List Place → List Reading → ExprLayer → Outcome TimeExpr
time_in own rs (Expr-F.Logical place operator operands) = broken own
time_in own rs (Expr-F.Relation r) = broken own
time_in own rs (Expr-F.Sum s) = broken own
time_in own rs (Expr-F.Product p) = broken own
time_in own rs (Expr-F.Not place operand) = broken own
time_in own rs (Expr-F.Number place number) = broken own
time_in own rs (Expr-F.Physical physical) = or_broken own (option_map (λ t. time.Literal t) (physical_time physical))
time_in own rs (Expr-F.Character place character) = broken own
time_in own rs (Expr-F.StringLiteral place text) = broken own
time_in own rs (Expr-F.Reference name) = (first_of rs).time
time_in own rs (Expr-F.Parenthesized place is) = time_in_items own is rs

-- ---- delays

-- The delay of a type with these times, if there are as many as it has. VitalDelayType has no list.
abbrev pub listed_delay : DelayType → List ℕ → Option Delay
listed_delay Two (a ∷ b ∷ []) = Some (delay.Two a b)
listed_delay Six (a ∷ b ∷ c ∷ d ∷ e ∷ f ∷ []) = Some (delay.Six a b c d e f)
listed_delay d ts = None

abbrev pub has_list : DelayType → ℕ → Bool
has_list One n = false
has_list Two n = n == 2
has_list Six n = n == 6

abbrev pub delay_of_times : List Place → DelayType → List ℕ → Outcome DelayExpr
delay_of_times own d ts = or_broken own (option_map (λ x. delays.Literal x) (listed_delay d ts))

abbrev pub delay_of_several : List Place → DelayType → List Item → List Reading → Outcome DelayExpr
delay_of_several own d is rs =
    if has_list d (length is) then (if are_positional is then and_then (delay_of_times own d) (literals_of rs) else broken own) else broken own

-- One time for each transition, where the type has several.
abbrev pub delay_by_others : List Place → DelayType → Reading → Outcome DelayExpr
delay_by_others own One r = broken own
delay_by_others own Two r = map_typed (λ t. delays.Literal (even_delay Two t)) r.literal
delay_by_others own Six r = map_typed (λ t. delays.Literal (even_delay Six t)) r.literal

abbrev pub delay_in_item : List Place → DelayType → Item → Reading → Outcome DelayExpr
delay_in_item own d i r =
    if is_positional i then r.delay d
    else if is_some (others_value i) then delay_by_others own d r
    else broken own

abbrev pub delay_in_items : List Place → DelayType → List Item → List Reading → Outcome DelayExpr
delay_in_items own d [] rs = broken own
delay_in_items own d (i ∷ []) rs = delay_in_item own d i (first_of rs)
delay_in_items own d (i ∷ j ∷ is) rs = delay_of_several own d (i ∷ j ∷ is) rs

-- A literal is a delay of VitalDelayType.
abbrev pub delay_of_time : DelayType → Option ℕ → Option DelayExpr
delay_of_time One t = option_map (λ x. delays.Literal (delay.One x)) t
delay_of_time Two t = None
delay_of_time Six t = None

abbrev pub delay_in : List Place → List Reading → DelayType → ExprLayer → Outcome DelayExpr
delay_in own rs d (Expr-F.Logical place operator operands) = broken own
delay_in own rs d (Expr-F.Relation r) = broken own
delay_in own rs d (Expr-F.Sum s) = broken own
delay_in own rs d (Expr-F.Product p) = broken own
delay_in own rs d (Expr-F.Not place operand) = broken own
delay_in own rs d (Expr-F.Number place number) = broken own
delay_in own rs d (Expr-F.Physical physical) = or_broken own (delay_of_time d (physical_time physical))
delay_in own rs d (Expr-F.Character place character) = broken own
delay_in own rs d (Expr-F.StringLiteral place text) = broken own
delay_in own rs d (Expr-F.Reference name) = (first_of rs).delay d
delay_in own rs d (Expr-F.Parenthesized place is) = delay_in_items own d is rs
