-- The constants of Level 1 (IEEE 1076.4).
use Rattle.std.specs.Prelude.{ℕ, Bool, true, false, ◌&&◌, ◌||◌, ◌==◌, is_some, List, length}
use Rattle.std.specs.List.{list_all}
use Rattle.std.specs.Option.{option_and_then, option_map_or}
use Rattle.vital_names.specs.declared.predeclared.TypeName.{TypeName}
use Rattle.vital_names.specs.declared.predeclared.TypeName.TheVariants as type
use Rattle.vital_names.specs.Declarations.{Declared}
use Rattle.vital_names.specs.Declarations as declared
use Rattle.vital_names.specs.Meanings.{Meaning}
use Rattle.vital_names.specs.Meanings as meanings
use Rattle.vital_nodes.specs.declared.decl.Object.{Object}
use Rattle.vital_nodes.specs.declared.expr.Expr.{Expr}
use Rattle.vital_nodes.specs.declared.expr.Item.{Item}
use Rattle.vital_nodes.specs.Items.{listed_items, positional_value}
use Rattle.vital_nodes.specs.Names.{identifier_of}
use Rattle.vital_nodes.specs.Objects.{is_constant}
use Rattle.vital_declarations.specs.Constants.{character, columns_of, row_items}
use Rattle.vital_declarations.specs.Numbers.{Range, length_of}
use Rattle.vital_declarations.specs.Types.{DeclaredType, Plain, Vector, Table, Other, type_of}
use Rattle.vital_declaration_clauses.specs.Scopes.{Scope, meaning_from}

-- ---- symbols of tables

abbrev pub is_symbol_type : DeclaredType → Bool
is_symbol_type (Plain type.TableSymbol) = true
is_symbol_type _ = false

-- An object is a constant of VitalTableSymbolType.
abbrev pub is_symbol : Object → Bool
is_symbol o = is_constant o && is_symbol_type (type_of o.parts.subtype)

abbrev pub is_symbol_declared : Declared → Bool
is_symbol_declared (declared.Generic i) = false
is_symbol_declared (declared.Port i) = false
is_symbol_declared (declared.Object o) = is_symbol o
is_symbol_declared (declared.Alias a) = false

-- A name means such a constant, of the cell or of a package.
abbrev pub is_symbol_meant : Meaning → Bool
is_symbol_meant (meanings.Declared d) = is_symbol_declared d
is_symbol_meant (meanings.Constant n o) = is_symbol o
is_symbol_meant (meanings.Predeclared p) = false

abbrev pub names_symbol : Scope → Expr → Bool
names_symbol scope e = option_map_or is_symbol_meant (option_and_then (λ i. meaning_from scope i.name) (identifier_of e)) false

-- An item of a row of a table: a character literal, or the name of a symbol.
abbrev pub is_symbol_item : Scope → Item → Bool
is_symbol_item scope i = option_map_or (λ e. is_some (character e) || names_symbol scope e) (positional_value i) false

-- ---- tables

-- A list of so many symbols.
abbrev pub is_row : Scope → ℕ → Item → Bool
is_row scope columns i = option_map_or (λ symbols. (length symbols == columns) && list_all (is_symbol_item scope) symbols) (row_items i) false

-- Rows are all as long as the first.
abbrev pub are_rows : Scope → List Item → Bool
are_rows scope is = list_all (is_row scope (columns_of is)) is

-- A value that is a list of rows of one length.
abbrev pub is_table : Scope → Expr → Bool
is_table scope e = option_map_or (are_rows scope) (listed_items e) false

-- The same with so many rows and so many columns as these ranges are long.
abbrev pub fits : Range → Range → List Item → Bool
fits rows columns is = (length is == length_of rows) && (columns_of is == length_of columns)

abbrev pub is_sized_table : Scope → Range → Range → Expr → Bool
is_sized_table scope rows columns e = option_map_or (λ is. are_rows scope is && fits rows columns is) (listed_items e) false

-- ---- constants

-- A constant of a plain type has a value that goes with it. Which values of the types of expressions do so is said elsewhere.
abbrev pub is_good_plain : Scope → TypeName → Expr → Bool
is_good_plain scope type.StdUlogic e = true
is_good_plain scope type.StdLogic e = true
is_good_plain scope type.Boolean e = true
is_good_plain scope type.Time e = true
is_good_plain scope (type.Delay d) e = true
is_good_plain scope type.TableSymbol e = is_some (character e)
is_good_plain scope type.TruthTable e = is_table scope e
is_good_plain scope type.StateTable e = is_table scope e
is_good_plain scope _ e = false

abbrev pub is_good_value : Scope → DeclaredType → Expr → Bool
is_good_value scope (Plain t) e = is_good_plain scope t e
is_good_value scope (Vector r) e = false
is_good_value scope (Table t rows columns) e = is_sized_table scope rows columns e
is_good_value scope Other e = false

-- A constant as Level 1 allows it: its type is one that constants may have, and it has a value, which goes with the type where that
-- is one of symbols or of tables.
abbrev pub is_good_constant : Scope → Object → Bool
is_good_constant scope o = option_map_or (is_good_value scope (type_of o.parts.subtype)) o.parts.value false
