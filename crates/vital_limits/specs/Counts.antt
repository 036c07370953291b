-- How many rows, columns and paths there are as the text stands.
use Rattle.std.specs.Prelude.{ℕ, List, [], length, nat_lt, if◌then◌else◌}
use Rattle.std.specs.List.{fold}
use Rattle.std.specs.Option.{option_map_or}
use Rattle.vital_nodes.specs.declared.expr.Expr.{Expr}
use Rattle.vital_nodes.specs.declared.expr.Item.{Item}
use Rattle.vital_nodes.specs.Items.{actual, listed_items}

-- The items of a value in parentheses. Any other value has none.
abbrev pub listed : Expr → List Item
listed e = option_map_or (λ is. is) (listed_items e) []

-- The items of the value of an item, however that is given.
abbrev pub listed_in : Item → List Item
listed_in i = option_map_or listed (actual i) []

abbrev pub longer : ℕ → ℕ → ℕ
longer a b = if nat_lt a b then b else a

-- How many items the longest of rows has.
abbrev pub longest : List Item → ℕ
longest rows = fold (λ n row. longer n (length (listed_in row))) 0 rows
