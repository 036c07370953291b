-- The names in the declaration of a constant of a package.
use Rattle.std.specs.Prelude.{ℕ, Bool, false, is_none, List, ◌++◌, Option}
use Rattle.std.specs.Option.{option_and_then, option_map, option_map_or}
use Rattle.vital_call_clauses.specs.WrongCalls.{is_wrong_for}
use Rattle.vital_names.specs.declared.predeclared.Function.{Function}
use Rattle.vital_names.specs.Kinds.{function_meant}
use Rattle.vital_names.specs.Meanings.{Meaning, meaning_in_value}
use Rattle.vital_nodes.specs.declared.decl.Object.{Object}
use Rattle.vital_nodes.specs.declared.expr.Reference.{Reference}
use Rattle.vital_nodes.specs.declared.unit.Units.{Units}
use Rattle.vital_nodes.specs.Nodes.{Node, Declaration, Interface, Concurrent, Sequential, Expression, Item, Name, expression_if_there}
use Rattle.vital_nodes.specs.Walk.{nodes_of_all}
use Rattle.vital_uses.specs.Asked.{identifier_of_node}
use Rattle.vital_uses.specs.Parts.{asked_of_subtype}

-- The nodes of what a constant is declared with, in which it is asked what names mean.
abbrev pub nodes_of_constant : Object → List Node
nodes_of_constant o = nodes_of_all (asked_of_subtype o.parts.subtype ++ expression_if_there o.parts.value)

-- What the name at a node means in the value of the constant of a number, if there is a name.
abbrev pub meaning_at : List Units → ℕ → Node → Option (Option Meaning)
meaning_at files number v = option_map (λ i. meaning_in_value i.name number files) (identifier_of_node v)

-- It is neither declared before nor predeclared.
abbrev pub is_undeclared : List Units → ℕ → Node → Bool
is_undeclared files number v = option_map_or is_none (meaning_at files number v) false

-- ---- calls

abbrev pub function_at : List Units → ℕ → Reference → Option Function
function_at files number r = option_and_then function_meant (meaning_in_value r.identifier.name number files)

abbrev pub is_wrong_name : List Units → ℕ → Reference → Bool
is_wrong_name files number r = option_map_or (is_wrong_for r) (function_at files number r) false

-- The name at a node is a call of a function with items that are wrong for it.
abbrev pub is_wrong_call : List Units → ℕ → Node → Bool
is_wrong_call files number (Declaration d) = false
is_wrong_call files number (Interface i) = false
is_wrong_call files number (Concurrent c) = false
is_wrong_call files number (Sequential s) = false
is_wrong_call files number (Expression e) = false
is_wrong_call files number (Item i) = false
is_wrong_call files number (Name r) = is_wrong_name files number r
