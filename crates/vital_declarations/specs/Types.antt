-- The types that declarations name.
use Rattle.std.specs.Prelude.{◌&&◌, is_none, List, [], ◌∷◌, Option, Some, None, unwrap_or, if◌then◌else◌}
use Rattle.std.specs.Option.{option_and_then, option_map, option_or}
use Rattle.vital_names.specs.declared.predeclared.TypeName.{TypeName}
use Rattle.vital_names.specs.declared.predeclared.TypeName.TheVariants as type
use Rattle.vital_names.specs.TypeNames.{type_named}
use Rattle.vital_nodes.specs.declared.decl.Subtype.{Subtype}
use Rattle.vital_nodes.specs.declared.expr.Item.{Item}
use Rattle.vital_nodes.specs.declared.expr.Range.{Range as Range'}
use Rattle.vital_nodes.specs.declared.expr.Reference.{Reference}
use Rattle.vital_nodes.specs.Bounds.{Bounds, bounds_of_range, items_at_end, literal_bounds, range_of_item, shown}
use Rattle.vital_declarations.specs.declared.declared_type.DeclaredType.{DeclaredType as DeclaredType'}
use Rattle.vital_declarations.specs.declared.declared_type.DeclaredType.TheVariants as borrowed
use Rattle.vital_declarations.specs.declared.declared_type.TableType.{TableType}
use Rattle.vital_declarations.specs.declared.declared_type.TableType.TheVariants.{Truth, State}
use Rattle.vital_declarations.specs.Numbers.{Range, range_of}

-- What a subtype is: a predeclared type without an index and without a range; STD_LOGIC_VECTOR with one pair of literal bounds; a
-- type of tables with two, of which the first is for the rows and the second for the columns; or none of these.
pub data DeclaredType : Type 0 where
  Plain : TypeName → DeclaredType
  Vector : Range → DeclaredType
  Table : TableType → Range → Range → DeclaredType
  Other : DeclaredType

-- What is borrowed of it.
abbrev pub lent : DeclaredType' → DeclaredType
lent (borrowed.Plain t) = Plain t
lent (borrowed.Vector b) = Vector (range_of (shown b))
lent (borrowed.Table t rows columns) = Table t (range_of (shown rows)) (range_of (shown columns))
lent borrowed.Other = Other

-- ---- subtypes

-- The type of a subtype without an index and without a range.
abbrev pub plain_type : Subtype → Option TypeName
plain_type s = if is_none s.range && is_none (items_at_end s.name) then type_named s.name else None

abbrev pub as_vector : TypeName → Range → Option DeclaredType
as_vector type.StdLogicVector r = Some (Vector r)
as_vector _ r = None

-- A vector with one pair of literal bounds.
abbrev pub vector_of : Subtype → Option DeclaredType
vector_of s = option_and_then (λ b. option_and_then (λ t. as_vector t (range_of b)) (type_named s.name)) (literal_bounds s)

-- The literal bounds of an item that is a range by position.
abbrev pub bounds_of_item : Item → Option Bounds
bounds_of_item i = option_and_then bounds_of_range (range_of_item i)

-- Two pairs of literal bounds in parentheses.
abbrev pub two_bounds : List Item → Option (Bounds × Bounds)
two_bounds [] = None
two_bounds (i ∷ []) = None
two_bounds (i ∷ j ∷ []) = option_and_then (λ rows. option_map (λ columns. (rows, columns)) (bounds_of_item j)) (bounds_of_item i)
two_bounds (i ∷ j ∷ k ∷ others) = None

abbrev pub table_bounds_without_range : Option Range' → Reference → Option (Bounds × Bounds)
table_bounds_without_range None name = option_and_then two_bounds (items_at_end name)
table_bounds_without_range (Some range) name = None

abbrev pub table_bounds : Subtype → Option (Bounds × Bounds)
table_bounds s = table_bounds_without_range s.range s.name

-- The types of tables.
abbrev pub table_type : TypeName → Option TableType
table_type type.TruthTable = Some Truth
table_type type.StateTable = Some State
table_type _ = None

-- A type of tables with two pairs of literal bounds.
abbrev pub table_of : Subtype → Option DeclaredType
table_of s =
    option_and_then (λ b. option_map (λ t. Table t (range_of b.0) (range_of b.1)) (option_and_then table_type (type_named s.name))) (table_bounds s)

-- A type with bounds.
abbrev pub bounded_type : Subtype → Option DeclaredType
bounded_type s = option_or (vector_of s) (table_of s)

-- What a subtype is.
abbrev pub type_of : Subtype → DeclaredType
type_of s = unwrap_or (option_or (option_map (λ t. Plain t) (plain_type s)) (bounded_type s)) Other
