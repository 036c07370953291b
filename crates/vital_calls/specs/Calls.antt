-- Names that are calls (IEEE 1076-1993, 7.3.3 and 8.6).
use Rattle.std.specs.Prelude.{List, [], ◌∷◌, Option, Some, None}
use Rattle.std.specs.Option.{option_map}
use Rattle.vital_nodes.specs.declared.expr.Item.{Item}
use Rattle.vital_nodes.specs.declared.expr.Reference.{Reference}
use Rattle.vital_nodes.specs.declared.expr.Suffix.{Suffix}
use Rattle.vital_nodes.specs.declared.identifier.Identifier.{Identifier}
use Rattle.vital_nodes.specs.Names.{items_of}
use Rattle.vital_calls.specs.declared.call.Call.{Call as Call'}

-- A call: the identifier of what is called, and its items.
pub record Call : Type 0 where
  pub identifier : Identifier
  pub items : List Item

-- What is borrowed of it.
abbrev pub lent : Call' → Call
lent c = record { identifier = c.identifier.now; items = c.items.now }

-- The items behind an identifier: none, or those of the one parenthesis that stands there alone.
abbrev pub items_behind : List Suffix → Option (List Item)
items_behind [] = Some []
items_behind (s ∷ []) = items_of s
items_behind (s ∷ t ∷ others) = None

-- The call that a name is, if it is written as one.
abbrev pub call_of : Reference → Option Call
call_of r = option_map (λ is. record { identifier = r.identifier; items = is }) (items_behind r.suffixes)
