-- Tables as rows of symbols.
use Rattle.std.specs.Prelude.{ℕ, List, map, Option, None, if◌then◌else◌}
use Rattle.std.specs.Option.{option_and_then, option_or}
use Rattle.vital_declaration_clauses.specs.GoodConstants.{is_symbol}
use Rattle.vital_declaration_clauses.specs.Scopes.{Scope, meaning_from}
use Rattle.vital_declarations.specs.Constants.{character, row_items}
use Rattle.vital_names.specs.Declarations.{Declared}
use Rattle.vital_names.specs.Declarations as declared
use Rattle.vital_names.specs.Meanings.{Meaning}
use Rattle.vital_names.specs.Meanings as meanings
use Rattle.vital_nodes.specs.declared.decl.Object.{Object}
use Rattle.vital_nodes.specs.declared.expr.Expr.{Expr}
use Rattle.vital_nodes.specs.declared.expr.Item.{Item}
use Rattle.vital_operands.specs.Items.{all_some}
use Rattle.vital_nodes.specs.Items.{listed_items, positional_value}
use Rattle.vital_nodes.specs.Names.{identifier_of}

-- The symbol that a constant of VitalTableSymbolType is.
abbrev pub symbol_of_constant : Object → Option ℕ
symbol_of_constant o = if is_symbol o then option_and_then character o.parts.value else None

abbrev pub symbol_of_declared : Declared → Option ℕ
symbol_of_declared (declared.Generic i) = None
symbol_of_declared (declared.Port i) = None
symbol_of_declared (declared.Object o) = symbol_of_constant o
symbol_of_declared (declared.Alias a) = None

abbrev pub symbol_meant : Meaning → Option ℕ
symbol_meant (meanings.Declared d) = symbol_of_declared d
symbol_meant (meanings.Constant n o) = symbol_of_constant o
symbol_meant (meanings.Predeclared p) = None

abbrev pub symbol_named : Scope → Expr → Option ℕ
symbol_named scope e = option_and_then (λ i. option_and_then symbol_meant (meaning_from scope i.name)) (identifier_of e)

-- The symbol of an item of a row: a character literal, or the name of a symbol.
abbrev pub symbol_in : Scope → Expr → Option ℕ
symbol_in scope e = option_or (character e) (symbol_named scope e)

abbrev pub symbol_at : Scope → Item → Option ℕ
symbol_at scope i = option_and_then (symbol_in scope) (positional_value i)

abbrev pub symbols_of_items : Scope → List Item → Option (List ℕ)
symbols_of_items scope is = all_some (map (symbol_at scope) is)

abbrev pub row_of : Scope → Item → Option (List ℕ)
row_of scope i = option_and_then (symbols_of_items scope) (row_items i)

abbrev pub rows_of_items : Scope → List Item → Option (List (List ℕ))
rows_of_items scope is = all_some (map (row_of scope) is)

-- The rows of a table, if its value is a list of lists of symbols.
abbrev pub rows_of : Scope → Expr → Option (List (List ℕ))
rows_of scope e = option_and_then (rows_of_items scope) (listed_items e)
