-- Items in parentheses, and literals.
use Rattle.std.specs.Prelude.{ℕ, Bool, true, false, ◌&&◌, ◌==◌, ◌-◌, List, [], ◌∷◌, drop, length, map, take, Option, Some, None, is_some}
use Rattle.std.specs.Borrow.{Bor}
use Rattle.std.specs.List.{find, list_all}
use Rattle.std.specs.Option.{option_and_then, option_map}
use Rattle.vital_nodes.specs.Items.{positional_value}
use Rattle.vital_logic.specs.declared.level.Level.{Level}
use Rattle.vital_logic.specs.Levels.{byte_of, levels}
use Rattle.vital_nodes.specs.declared.expr.Actual.TheOpen.{Item-F}
use Rattle.vital_nodes.specs.declared.expr.Actual.TheViews.{out-Item}
use Rattle.vital_nodes.specs.declared.expr.Expr.{Expr}
use Rattle.vital_nodes.specs.declared.expr.Item.{Item}
use Rattle.vital_nodes.specs.declared.expr.Physical.{Physical}
use Rattle.vital_nodes.specs.Layers.{ItemLayer}
use Rattle.vital_timing.specs.TimeLiterals.{literal_time, unit_named}

-- All of a list, if there are all.
abbrev pub all_some : {A : Type 0} → List (Option A) → Option (List A)
all_some [] = Some []
all_some (o ∷ os) = option_and_then (λ x. option_map (λ xs. x ∷ xs) (all_some os)) o

-- An item is a value by position.
abbrev pub is_positional : Item → Bool
is_positional i = is_some (positional_value i)

abbrev pub are_positional : List Item → Bool
are_positional is = list_all is_positional is

-- Items are so many values by position.
abbrev pub are_values : ℕ → List Item → Bool
are_values n is = (length is == n) && are_positional is

-- The value of an item that is `others`.
abbrev pub others_in : ItemLayer → Option Expr
others_in (Item-F.Others place e) = Some e
others_in (Item-F.Item::Open place) = None
others_in (Item-F.Positional c) = None
others_in (Item-F.Named a) = None

abbrev pub others_value : Item → Option Expr
others_value i = others_in (out-Item i)

-- What items in parentheses are: one value by position, `others` alone, two values or more by position, or none of these.
pub data Form : Type 0 where
  Single : Form
  OthersAlone : Form
  Several : Form
  NoForm : Form

abbrev pub form_of_one : Bool → Bool → Form
form_of_one true is_others = Single
form_of_one false true = OthersAlone
form_of_one false false = NoForm

abbrev pub form_of_more : Bool → Form
form_of_more true = Several
form_of_more false = NoForm

abbrev pub form_of : List Item → Form
form_of [] = NoForm
form_of (i ∷ []) = form_of_one (is_positional i) (is_some (others_value i))
form_of (i ∷ j ∷ others) = form_of_more (are_positional (i ∷ j ∷ others))

-- The value by position that is the only item.
abbrev pub only_value : List Item → Option Expr
only_value [] = None
only_value (i ∷ []) = positional_value i
only_value (i ∷ j ∷ others) = None

-- The value of `others` that is the only item.
abbrev pub value_of_others : List Item → Option Expr
value_of_others [] = None
value_of_others (i ∷ []) = others_value i
value_of_others (i ∷ j ∷ others) = None

-- The values of items, if each is a value by position.
abbrev pub values : List Item → Option (List Expr)
values is = all_some (map positional_value is)

-- The level of a character as it is printed: letters are capital.
abbrev pub printed_level : ℕ → Option Level
printed_level byte = find (λ l. byte == byte_of l) levels

-- The levels between the quotation marks of a string literal.
abbrev pub between_marks : List ℕ → List ℕ
between_marks text = drop 1 (take (length text - 1) text)

abbrev pub levels_of_text : List ℕ → Option (List Level)
levels_of_text text = all_some (map printed_level (between_marks text))

-- The femtoseconds of a number with a unit of time, which is read as text, if they are at most 2^50.
abbrev pub physical_time : Physical → Option ℕ
physical_time p = option_and_then (λ u. literal_time p.number u) (unit_named p.unit.name)

-- What is borrowed of expressions.
abbrev pub all_lent : List (Bor Expr) → List Expr
all_lent es = map (λ e. e.now) es
