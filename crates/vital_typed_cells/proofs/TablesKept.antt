-- The tables of an architecture or a process are among the constants of its typed tree, with the rows that calls are judged by.
use Rattle.std.proofs.Common.{◌≡◌, ℕ, Bool, true, false, List, [], ◌∷◌, Option, Some, refl, sym, ap, ◌∙◌, subst}
use Rattle.std.specs.Prelude.{◌&&◌, cond, IfSome}
use Rattle.std.specs.List.{AllByRecursion, list_any}
use Rattle.std.specs.Option.{option_and_then, option_map, option_map_or}
use Rattle.std.specs.Str.{bytes_eq}
use Rattle.vital_base.specs.declared.place.Place.{Place}
use Rattle.vital_declaration_clauses.specs.Clauses.{breaks_3}
use Rattle.vital_declaration_clauses.specs.Scopes.{InCell}
use Rattle.vital_declarations.specs.declared.declared_type.TableType.{TableType}
use Rattle.vital_declarations.specs.Types.{type_of}
use Rattle.vital_library.specs.Constants.{as_constant}
use Rattle.vital_limits.specs.declared.passed.CellLimit.{CellLimit}
use Rattle.vital_limits.specs.declared.passed.CellLimit.TheVariants.{Rows, Columns}
use Rattle.vital_limits.specs.NodeLimits.{are_too_long, are_too_many, if_passed, is_table_type as is_table_type_name, limits_of_declaration, table_rows}
use Rattle.vital_names.specs.Declarations.{declared_by}
use Rattle.vital_names.specs.Sites.{Cell, Site}
use Rattle.vital_names.specs.Viewpoints.{is_last}
use Rattle.vital_nodes.specs.declared.decl.Decl.{Decl}
use Rattle.vital_nodes.specs.declared.decl.Decl.TheVariants as decl
use Rattle.vital_nodes.specs.declared.decl.Object.{Object}
use Rattle.vital_nodes.specs.declared.decl.ObjectClass.{ObjectClass}
use Rattle.vital_nodes.specs.declared.decl.ObjectClass.TheVariants as class
use Rattle.vital_objects.specs.declared.constant.Constant.{Constant}
use Rattle.vital_objects.specs.declared.constant.ConstantValue.TheVariants as worth
use Rattle.vital_objects.specs.Constants.{constant, constant_of, constant_value, constant_with, value_behind, value_in}
use Rattle.vital_objects.specs.PackageValues.{rows_in}
use Rattle.vital_operands.specs.Named.{is_table, is_table_type}
use Rattle.vital_typed_declarations.specs.Asked.{of_object}
use Rattle.vital_typed_declarations.specs.Declarations.{in_value, object_value}
use Rattle.vital_uses.specs.Sited.{Sited}
use Rattle.vital_nodes.specs.Objects.{is_constant, is_constant_class}
use Rattle.vital_typed_cells.proofs.AsRead.{IsTogether}
use Rattle.vital_typed_cells.proofs.CellTables.{CellTable, TableValue, named_rows}
use Rattle.vital_typed_cells.proofs.Constants.{IsMet, IsMetPair, LastMet, by-class, declared_of, given_by, good-by}
use Rattle.vital_typed_cells.proofs.Found.{all-kept, here-any, more-any, weaker}
use Rattle.vital_typed_cells.proofs.Lists.{all-both}
use Rattle.vital_typed_cells.proofs.Packages.{any-table}
use Rattle.vital_typed_cells.proofs.Regions.{none-before, none-behind}
use Rattle.vital_typed_cells.proofs.Rows.{RowsAre, good-rows}
use Rattle.vital_typed_cells.proofs.Short.{IsShort, items_at, named-table, short-value}
use Rattle.vital_typed_cells.proofs.Tests.{both-true, first-true, same-name, second-true}
use Rattle.vital_typed_cells.proofs.Together.{IsBehind, Pair, behind}

-- ---- the rows of a table

pub constant-class : (k : ObjectClass) → is_constant_class k ≡ true → k ≡ class.Constant
constant-class class.Constant is = refl
constant-class class.Signal is = cc
constant-class class.Variable is = cc

-- The value that is read at the last of those that are declared together.
abbrev LastRows : Cell → Site → Object → Option (Sited Decl) → Type 0
LastRows cell site o last = (rows : List (List ℕ)) × ((option_and_then (value_behind cell []) last ≡ Some (worth.Table rows)) × RowsAre (InCell cell site) o.parts.value rows)

behind-rows : (cell : Cell) (site : Site) (o : Object) (t : TableType) (e : Sited Decl) (b : Object) → is_table t o ≡ true → IsBehind o e.declaration b → IsMet cell e → is_last e.declaration ≡ true → e.site ≡ site → LastRows cell site o (Some e)
behind-rows cell site o t e b is same met last at =
    let typed : is_table_type t (type_of b.parts.subtype) ≡ true =
    ap (λ ps. is_table_type t (type_of ps.subtype)) same.parts_are ∙ second-true (is_constant o) (is_table_type t (type_of o.parts.subtype)) is in
    let there : b.«class» ≡ class.Constant = same.class_is ∙ constant-class o.«class» (first-true (is_constant o) (is_table_type t (type_of o.parts.subtype)) is) in
    let made =
    good-rows (InCell cell e.site) t (type_of b.parts.subtype) b.parts.value (met.2.symbols b same.is (sym (ap is_last same.is) ∙ last)) typed
    (good-by cell e.site b.«class» b there (subst (λ d. breaks_3 cell e.site d ≡ false) same.is met.1)) in (
      made.0,
      (
        ap (λ d. option_and_then (constant_value cell [] e.site) (as_constant d)) same.is
            ∙ ap (option_and_then (constant_value cell [] e.site)) (by-class b.«class» b there)
            ∙ ap (λ c. cond c (option_map (λ rows. worth.Table rows) (rows_in (InCell cell e.site) b)) (option_and_then (value_in (of_object b)) (object_value (in_value cell [] e.site) b).tree)) (any-table t b there typed)
            ∙ ap (option_map (λ rows. worth.Table rows)) made.1.read,
        subst (λ s. RowsAre (InCell cell s) o.parts.value made.0) at (subst (λ ps. RowsAre (InCell cell e.site) ps.value made.0) same.parts_are made.1),
      ),
    )

pair-rows : (cell : Cell) (x : Pair) (o : Object) (t : TableType) → x.0.declaration ≡ decl.Object o → is_table t o ≡ true → IsMetPair cell x → LastRows cell x.0.site o x.1
pair-rows cell x o t declared is met =
    behind o (λ l. LastMet cell l → IfSome l (λ e. e.site ≡ x.0.site) → LastRows cell x.0.site o l) (λ e b same there at. behind-rows cell x.0.site o t e b is same there.0 there.1 at) x.1
    (subst (λ d. IsTogether d (option_map (λ s. s.declaration) x.1)) declared met.0) met.1 met.3

-- ---- limits

not-passed : (b : Bool) (limit : CellLimit) (place : Place) → if_passed b limit place ≡ [] → b ≡ false
not-passed true limit place is = absurd (cc)
not-passed false limit place is = refl

object-short : (o : Object) (t : TableType) → is_table t o ≡ true → limits_of_declaration (decl.Object o) ≡ [] → IsShort o.parts.value
object-short o t is none =
    let rows = if_passed (are_too_many (table_rows o)) Rows o.identifier.place in
    let columns = if_passed (are_too_long (table_rows o)) Columns o.identifier.place in
    let typed : is_table_type_name o.parts.subtype.name ≡ true = named-table t o.parts.subtype (second-true (is_constant o) (is_table_type t (type_of o.parts.subtype)) is) in
    let named : (is_constant o && is_table_type_name o.parts.subtype.name) ≡ true =
    both-true (is_constant o) (is_table_type_name o.parts.subtype.name) (first-true (is_constant o) (is_table_type t (type_of o.parts.subtype)) is) typed in
    short-value o.parts.value
    (sym (ap (λ b. are_too_many (cond b (items_at o.parts.value) [])) named) ∙ not-passed (are_too_many (table_rows o)) Rows o.identifier.place (none-before rows columns none))
    (sym (ap (λ b. are_too_long (cond b (items_at o.parts.value) [])) named) ∙ not-passed (are_too_long (table_rows o)) Columns o.identifier.place (none-behind rows columns none))

-- ---- one table

-- What a pair gives is among the constants that pairs give.
abbrev Among : Cell → List Pair → Pair → Type 0
Among cell xs x = (test : Constant → Bool) → option_map_or test (constant cell [] x) false ≡ true → list_any test (given_by cell xs) ≡ true

object-table : (cell : Cell) (xs : List Pair) (x : Pair) (o : Object) (t : TableType) → x.0.declaration ≡ decl.Object o → is_table t o ≡ true → IsMetPair cell x → Among cell xs x → CellTable cell (given_by cell xs) o
object-table cell xs x o t declared is met among =
    let constant_there : is_constant o ≡ true = first-true (is_constant o) (is_table_type t (type_of o.parts.subtype)) is in
    let made = pair-rows cell x o t declared is met in
    record {
      rows = made.0;
      site = x.0.site;
      here = met.2.2.found o declared constant_there;
      is = record { are = made.1.1; short = object-short o t is (subst (λ d. limits_of_declaration d ≡ []) declared met.2.2.short) };
      kept = λ test holds.
          among (named_rows o.identifier.name test)
          (ap (λ d. option_map_or (named_rows o.identifier.name test) (constant_of d (option_and_then (value_behind cell []) x.1)) false) declared
          ∙ ap (λ w. option_map_or (named_rows o.identifier.name test) (constant_of (decl.Object o) w) false) made.1.0
          ∙ ap (λ q. option_map_or (named_rows o.identifier.name test) (option_and_then (λ b. option_map (λ w. constant_with w b) (Some (worth.Table made.0))) q) false) (by-class o.«class» o (constant-class o.«class» constant_there))
          ∙ both-true (bytes_eq o.identifier.name o.identifier.name) (test made.0) (same-name o.identifier.name) holds);
    }

pair-table : (cell : Cell) (xs : List Pair) (x : Pair) (d : Decl) → x.0.declaration ≡ d → IsMetPair cell x → Among cell xs x → IfSome (declared_by d) (TableValue cell (given_by cell xs))
pair-table cell xs x (decl.Attribute identifier type_mark) declared met among = tt
pair-table cell xs x (decl.Specification s) declared met among = tt
pair-table cell xs x (decl.Object o) declared met among = λ t is. object-table cell xs x o t declared is met among
pair-table cell xs x (decl.Alias a) declared met among = tt
pair-table cell xs x (decl.Component c) declared met among = tt

-- ---- all tables

all-among : (cell : Cell) (xs : List Pair) → AllByRecursion (Among cell xs) xs
all-among cell [] = tt
all-among cell (x ∷ xs) = (
  (λ test is. here-any test (constant cell [] x) (given_by cell xs) is),
  weaker (Among cell xs) (Among cell (x ∷ xs)) (λ y has. λ test is. more-any test (constant cell [] x) (given_by cell xs) (has test is)) xs (all-among cell xs),
)

pub tables-kept : (cell : Cell) (xs : List Pair) → AllByRecursion (IsMetPair cell) xs → AllByRecursion (TableValue cell (given_by cell xs)) (declared_of xs)
tables-kept cell xs met =
    all-kept (TableValue cell (given_by cell xs)) (λ x. declared_by x.0.declaration) xs
    (weaker (λ x. IsMetPair cell x × Among cell xs x) (λ x. IfSome (declared_by x.0.declaration) (TableValue cell (given_by cell xs))) (λ x both. pair-table cell xs x x.0.declaration refl both.0 both.1) xs
    (all-both (IsMetPair cell) (Among cell xs) xs met (all-among cell xs)))
