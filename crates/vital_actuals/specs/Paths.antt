-- Paths of path delays (IEEE 1076.4, VitalPathArrayType).
use Rattle.std.specs.Prelude.{ℕ, Bool, false, ◌||◌, ◌&&◌, ◌==◌, is_some, List, [], ◌∷◌, map, Option, Some, None, codes, if◌then◌else◌}
use Rattle.std.specs.List.{enumerate_from, list_all}
use Rattle.std.specs.Option.{option_and_then, option_map_or}
use Rattle.std.specs.Str.{bytes_eq}
use Rattle.vital_actuals.specs.declared.actual.Path.{Path}
use Rattle.vital_actuals.specs.declared.path.PathParts.{PathParts as PathParts'}
use Rattle.vital_calls.specs.declared.actual_form.ActualForm.TheVariants as form
use Rattle.vital_calls.specs.Matching.{name_of}
use Rattle.vital_declarations.specs.Numbers.{number}
use Rattle.vital_expr.specs.Outcomes.{Outcome, all_typed, both, broken, or_broken, typed}
use Rattle.vital_expr.specs.Readings.{Context, boolean_of, breach, delay_of}
use Rattle.vital_nodes.specs.declared.expr.Actual.TheOpen.{Expr-F, Item-F, Suffix-F}
use Rattle.vital_nodes.specs.declared.expr.Actual.TheViews.{out-Actual, out-Choice, out-Expr, out-Item, out-Suffix}
use Rattle.vital_nodes.specs.declared.expr.Expr.{Expr}
use Rattle.vital_nodes.specs.declared.expr.Item.{Item}
use Rattle.vital_nodes.specs.declared.expr.Reference.{Reference}
use Rattle.vital_nodes.specs.declared.expr.Suffix.{Suffix}
use Rattle.vital_nodes.specs.Layers.{ExprLayer, ItemLayer, SuffixLayer}
use Rattle.vital_operands.specs.declared.tree.BooleanExpr.{BooleanExpr}
use Rattle.vital_operands.specs.declared.tree.DelayExpr.{DelayExpr}
use Rattle.vital_operands.specs.Items.{are_positional}
use Rattle.vital_operands.specs.Positions.{Position}
use Rattle.vital_timing.specs.declared.delay.DelayType.{DelayType}
use Rattle.vital_nodes.specs.Bounds.{literal_integer}
use Rattle.vital_nodes.specs.Items.{actual, formal, listed_items, positional_value, value_in_actual, value_in_choice}
use Rattle.vital_actuals.specs.Kinds.{name_for}

-- ---- the parts of a path

-- The value that an item gives by a name.
abbrev pub value_behind_in : ItemLayer → Option Expr
value_behind_in (Item-F.Others place e) = None
value_behind_in (Item-F.Item::Open place) = None
value_behind_in (Item-F.Positional c) = None
value_behind_in (Item-F.Named a) = value_in_actual (out-Actual a.actual)

abbrev pub value_behind : Item → Option Expr
value_behind i = value_behind_in (out-Item i)

abbrev pub is_named : List ℕ → Item → Bool
is_named name i = option_map_or (λ n. bytes_eq n name) (name_of i) false

abbrev pub value_named : List ℕ → Item → Option Expr
value_named name i = if is_named name i then value_behind i else None

-- What a path is given by: when its input changed, its delay, and the condition under which it counts.
pub record PathParts : Type 0 where
  pub change : Expr
  pub delay : Expr
  pub condition : Expr

-- What is borrowed of them.
abbrev pub lent_parts : PathParts' → PathParts
lent_parts q = record { change = q.change.now; delay = q.delay.now; condition = q.condition.now }

abbrev pub parts_from : Option Expr → Option Expr → Option Expr → Option PathParts
parts_from (Some s) (Some d) (Some b) = Some (record { change = s; delay = d; condition = b })
parts_from None d b = None
parts_from (Some s) None b = None
parts_from (Some s) (Some d) None = None

abbrev pub named_parts : Item → Item → Item → Option PathParts
named_parts i j k = parts_from (value_named (codes "inputchangetime") i) (value_named (codes "pathdelay") j) (value_named (codes "pathcondition") k)

abbrev pub positional_parts : Item → Item → Item → Option PathParts
positional_parts i j k = parts_from (positional_value i) (positional_value j) (positional_value k)

-- The three parts of a path, which are given by position, or all by name in their order.
abbrev pub parts_of_items : List Item → Option PathParts
parts_of_items (i ∷ j ∷ k ∷ []) = if are_positional (i ∷ j ∷ k ∷ []) then positional_parts i j k else named_parts i j k
parts_of_items other = None

abbrev pub path_parts : Expr → Option PathParts
path_parts e = option_and_then parts_of_items (listed_items e)

-- ---- when an input changed

abbrev pub is_last_event_in : SuffixLayer → Bool
is_last_event_in (Suffix-F.Selected identifier) = false
is_last_event_in (Suffix-F.All place) = false
is_last_event_in (Suffix-F.Attribute identifier) = bytes_eq identifier.name (codes "last_event")
is_last_event_in (Suffix-F.Qualified is) = false
is_last_event_in (Suffix-F.Items is) = false

abbrev pub is_last_event : List Suffix → Bool
is_last_event [] = false
is_last_event (s ∷ []) = is_last_event_in (out-Suffix s)
is_last_event (s ∷ t ∷ others) = false

abbrev pub change_named : Position → Reference → Option (List ℕ)
change_named p r = if is_last_event r.suffixes then name_for p form.Signal r.identifier else None

abbrev pub change_in : Position → ExprLayer → Option (List ℕ)
change_in p (Expr-F.Logical place operator operands) = None
change_in p (Expr-F.Relation r) = None
change_in p (Expr-F.Sum s) = None
change_in p (Expr-F.Product q) = None
change_in p (Expr-F.Not place operand) = None
change_in p (Expr-F.Number place number) = None
change_in p (Expr-F.Physical physical) = None
change_in p (Expr-F.Character place character) = None
change_in p (Expr-F.StringLiteral place text) = None
change_in p (Expr-F.Reference name) = change_named p name
change_in p (Expr-F.Parenthesized place is) = None

abbrev pub change_at : Position → Expr → Option (List ℕ)
change_at p e = change_in p (out-Expr e)

-- `S'LAST_EVENT` of an internal signal or an in or inout port: the name of S.
abbrev pub change_of : Context → Expr → Outcome (List ℕ)
change_of c e = or_broken (breach c e) (change_at c.position e)

-- ---- paths

abbrev pub path_typed : List ℕ → (DelayExpr × BooleanExpr) → Outcome Path
path_typed s q = typed (record { signal = s; delay = q.0; condition = q.1 })

abbrev pub pair_typed : DelayExpr → BooleanExpr → Outcome (DelayExpr × BooleanExpr)
pair_typed d b = typed (d, b)

abbrev pub path_of_parts : Context → DelayType → PathParts → Outcome Path
path_of_parts c d q = both path_typed (change_of c q.change) (both pair_typed (delay_of c d q.delay) (boolean_of c q.condition))

abbrev pub path_given : Context → DelayType → Expr → Option PathParts → Outcome Path
path_given c d e None = broken (breach c e)
path_given c d e (Some q) = path_of_parts c d q

-- A path: one that is not three parts breaks a clause itself.
abbrev pub path_of : Context → DelayType → Expr → Outcome Path
path_of c d e = path_given c d e (path_parts e)

-- ---- lists of paths

-- The literal index before `=>`.
abbrev pub index_of : Item → Option (List ℕ)
index_of i = option_and_then literal_integer (option_and_then (λ c. value_in_choice (out-Choice c)) (formal i))

-- An item has this index, and a value behind it.
abbrev pub is_at : ℕ → Item → Bool
is_at n i = option_map_or (λ index. number index == n) (index_of i) false && is_some (actual i)

-- Items have the indices 0, 1 and so on in order.
abbrev pub are_indexed : List Item → Bool
are_indexed is = list_all (λ p. is_at p.0 p.1) (enumerate_from 0 is)

-- Items are all by position, or all with their indices.
abbrev pub are_listed : List Item → Bool
are_listed is = are_positional is || are_indexed is

abbrev pub path_if_given : Context → DelayType → Option Expr → Outcome Path
path_if_given c d None = broken []
path_if_given c d (Some e) = path_of c d e

abbrev pub path_of_item : Context → DelayType → Item → Outcome Path
path_of_item c d i = path_if_given c d (actual i)

abbrev pub paths_in_items : Context → DelayType → Expr → List Item → Outcome (List Path)
paths_in_items c d e is = if are_listed is then all_typed (map (path_of_item c d) is) else broken (breach c e)

abbrev pub paths_in_list : Context → DelayType → Expr → Option (List Item) → Outcome (List Path)
paths_in_list c d e None = broken (breach c e)
paths_in_list c d e (Some is) = paths_in_items c d e is

-- A list of paths.
abbrev pub paths_of : Context → DelayType → Expr → Outcome (List Path)
paths_of c d e = paths_in_list c d e (listed_items e)
