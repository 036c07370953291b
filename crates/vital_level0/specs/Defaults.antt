-- The defaults of generics, as the texts that they are.
use Rattle.std.specs.Prelude.{ℕ, ◌==◌, Bool, true, false, ◌&&◌, ◌||◌, List, [], ◌∷◌, length, codes}
use Rattle.std.specs.List.{list_all}
use Rattle.vital_nodes.specs.Layers.{ChoiceLayer, ExprLayer, ItemLayer}
use Rattle.vital_nodes.specs.declared.expr.Actual.TheOpen.{Choice-F, Expr-F, Item-F}
use Rattle.vital_nodes.specs.declared.expr.Actual.TheViews.{out-Choice, out-Expr, out-Item}
use Rattle.vital_nodes.specs.declared.expr.Expr.{Expr}
use Rattle.vital_nodes.specs.declared.expr.Item.{Item as Item'}
use Rattle.vital_timing.specs.declared.delay.DelayType.{DelayType}
use Rattle.vital_timing.specs.declared.delay.DelayType.TheVariants.{One, Two, Six}
use Rattle.vital_level0.specs.TypeNames.{is_among}

abbrev pub is_string_in : ExprLayer → Bool
is_string_in (Expr-F.StringLiteral place text) = true
is_string_in other = false

abbrev pub is_string : Expr → Bool
is_string e = is_string_in (out-Expr e)

-- The units of physical type TIME (IEEE 1076-1993, 14.2).
abbrev pub time_units : List (List ℕ)
time_units = codes "fs" ∷ codes "ps" ∷ codes "ns" ∷ codes "us" ∷ codes "ms" ∷ codes "sec" ∷ codes "min" ∷ codes "hr" ∷ []

-- A number and a unit of time.
abbrev pub is_time_in : ExprLayer → Bool
is_time_in (Expr-F.Physical physical) = is_among time_units physical.unit.name
is_time_in other = false

abbrev pub is_time : Expr → Bool
is_time e = is_time_in (out-Expr e)

-- A time by position.
abbrev pub is_time_choice : ChoiceLayer → Bool
is_time_choice (Choice-F.Choice::Value e) = is_time e
is_time_choice (Choice-F.Range r) = false

abbrev pub is_time_item_in : ItemLayer → Bool
is_time_item_in (Item-F.Positional c) = is_time_choice (out-Choice c)
is_time_item_in other = false

abbrev pub is_time_item : Item' → Bool
is_time_item i = is_time_item_in (out-Item i)

-- `others => time`.
abbrev pub is_others_item_in : ItemLayer → Bool
is_others_item_in (Item-F.Others place e) = is_time e
is_others_item_in other = false

abbrev pub is_others : List Item' → Bool
is_others [] = false
is_others (i ∷ []) = is_others_item_in (out-Item i)
is_others (i ∷ j ∷ is) = false

-- A list of this many times, or one time for all.
abbrev pub is_times_in : ℕ → ExprLayer → Bool
is_times_in count (Expr-F.Parenthesized place is) = (length is == count && list_all is_time_item is) || is_others is
is_times_in count other = false

abbrev pub is_times : ℕ → Expr → Bool
is_times count e = is_times_in count (out-Expr e)

-- The form of a delay that goes with its type.
abbrev pub is_delay : DelayType → Expr → Bool
is_delay One e = is_time e
is_delay Two e = is_times 2 e
is_delay Six e = is_times 6 e
