-- The constants of an architecture or a process, whose values have trees, are among those of its typed tree.
use Rattle.std.proofs.Common.{◌≡◌, Bool, true, false, List, [], Option, Some, None, refl, sym, ap, ◌∙◌, subst}
use Rattle.std.specs.Prelude.{◌&&◌, ◌||◌, cond, IfSome}
use Rattle.std.specs.List.{AllByRecursion, filter_map, list_any}
use Rattle.std.specs.Option.{option_and_then, option_map, option_map_or}
use Rattle.std.specs.Str.{bytes_eq}
use Rattle.vital_declaration_clauses.specs.Clauses.{breaks_3, breaks_3_as}
use Rattle.vital_declaration_clauses.specs.GoodConstants.{is_good_constant, is_good_value}
use Rattle.vital_declaration_clauses.specs.Scopes.{InCell}
use Rattle.vital_declaration_clauses.specs.Scopes as scopes
use Rattle.vital_declarations.specs.declared.declared_type.TableType.TheVariants as table
use Rattle.vital_declarations.specs.Types.{DeclaredType, type_of}
use Rattle.vital_expr.specs.Readings.{Context}
use Rattle.vital_library.specs.Constants.{as_constant, where_constant}
use Rattle.vital_names.specs.Declarations.{Declared, declared_by, declared_in, identifier_of}
use Rattle.vital_names.specs.Declarations as declared
use Rattle.vital_names.specs.Sites.{Cell, Site}
use Rattle.vital_names.specs.Viewpoints.{is_last}
use Rattle.vital_nodes.specs.declared.decl.Decl.{Decl}
use Rattle.vital_nodes.specs.declared.decl.Decl.TheVariants as decl
use Rattle.vital_nodes.specs.declared.decl.Object.{Object}
use Rattle.vital_nodes.specs.declared.decl.ObjectClass.{ObjectClass}
use Rattle.vital_nodes.specs.declared.decl.ObjectClass.TheVariants as class
use Rattle.vital_nodes.specs.declared.expr.Expr.{Expr}
use Rattle.vital_nodes.specs.declared.stmt.Process.{Process}
use Rattle.vital_objects.specs.declared.constant.Constant.{Constant}
use Rattle.vital_objects.specs.declared.constant.ConstantValue.{ConstantValue}
use Rattle.vital_objects.specs.declared.constant.ConstantValue.TheVariants as worth
use Rattle.vital_objects.specs.Constants.{constant, constant_of, constant_value, constant_with, value_behind, value_in}
use Rattle.vital_objects.specs.PackageValues.{rows_in}
use Rattle.vital_objects.specs.Together.{is_last_declaration}
use Rattle.vital_operands.specs.Named.{is_table_type}
use Rattle.vital_typed_declarations.specs.declared.asked_type.AskedType.{AskedType}
use Rattle.vital_typed_declarations.specs.Asked.{of_constant, of_object, of_object_class}
use Rattle.vital_typed_declarations.specs.Declarations.{broken_at, broken_in_declaration, in_value, object_value}
use Rattle.vital_typed_declarations.specs.Values.{value_as, value_if_given}
use Rattle.vital_nodes.specs.Objects.{is_constant}
use Rattle.vital_uses.specs.Nodes.{sited_declarations}
use Rattle.vital_uses.specs.Sited.{Sited}
use Rattle.vital_as_read.specs.AsRead.{AreTogether, common_of}
use Rattle.vital_typed_cells.proofs.CellTables.{IsTabled}
use Rattle.vital_typed_cells.proofs.Found.{GivesOne, kept, weaker}
use Rattle.vital_typed_cells.proofs.Lists.{all-both, firsts-have, lasts-have}
use Rattle.vital_typed_cells.proofs.Signals.{IsObject}
use Rattle.vital_typed_cells.proofs.Tests.{both-true, not-false, same-name}
use Rattle.vital_typed_cells.proofs.Together.{HasSite, IsBehind, IsPaired, Pair, behind, paired, paired-sites, pairs}

-- ---- what is asked

-- Where an expression of a type breaks no clause, a test holds of the value that it gives.
abbrev pub GivesValue : AskedType → (ConstantValue → Bool) → Type 0
GivesValue a test = (c : Context) (e : Expr) → c.faults ≡ [] → (value_as c a e).places ≡ [] → option_map_or test (option_and_then (value_in a) (value_as c a e).tree) false ≡ true

-- A constant of a type that is no table.
pub record IsConstantOf (a : AskedType) (o : Object) : Type 0 where
  pub class_is : o.«class» ≡ class.Constant
  pub asked_is : of_constant (type_of o.parts.subtype) ≡ a
  pub no_truth : is_table_type table.Truth (type_of o.parts.subtype) ≡ false
  pub no_state : is_table_type table.State (type_of o.parts.subtype) ≡ false

-- A declaration breaks no clause that speaks of the values of constants, and may be a table.
abbrev pub IsMet : Cell → Sited Decl → Type 0
IsMet cell e = (broken_at cell [] e ≡ []) × (breaks_3 cell e.site e.declaration ≡ false) × IsTabled cell e

-- ---- one value

neither : (b s t : Bool) → s ≡ false → t ≡ false → ((b && s) || (b && t)) ≡ false
neither true s t first second = ap (λ x. x || t) first ∙ second
neither false s t first second = refl

given-value : (a : AskedType) (test : ConstantValue → Bool) (c : Context) (scope : scopes.Scope) (t : DeclaredType) (v : Option Expr) → GivesValue a test → c.faults ≡ [] → option_map_or (is_good_value scope t) v false ≡ true
    → (value_if_given c a v).places ≡ [] → option_map_or test (option_and_then (value_in a) (value_if_given c a v).tree) false ≡ true
given-value a test c scope t None gives none good judged = cc
given-value a test c scope t (Some e) gives none good judged = gives c e none judged

-- The value of an object that is a table or not, of which a type is asked.
abbrev tested : (ConstantValue → Bool) → Cell → Site → Object → Bool → AskedType → Bool
tested test cell site o is_table' a =
    option_map_or test
    (cond is_table' (option_map (λ rows. worth.Table rows) (rows_in (InCell cell site) o)) (option_and_then (value_in a) (value_if_given (in_value cell [] site) a o.parts.value).tree)) false

asked-constant : (a : AskedType) (o : Object) → IsConstantOf a o → of_object o ≡ a
asked-constant a o is = ap (λ k. of_object_class k o) is.class_is ∙ is.asked_is

value-there : (a : AskedType) (test : ConstantValue → Bool) (cell : Cell) (site : Site) (o : Object) → GivesValue a test → IsConstantOf a o → is_good_constant (InCell cell site) o ≡ true
    → (object_value (in_value cell [] site) o).places ≡ [] → option_map_or test (constant_value cell [] site o) false ≡ true
value-there a test cell site o gives is good judged =
    ap (λ b. tested test cell site o b (of_object o)) (neither (is_constant o) (is_table_type table.Truth (type_of o.parts.subtype)) (is_table_type table.State (type_of o.parts.subtype)) is.no_truth is.no_state)
    ∙ ap (tested test cell site o false) (asked-constant a o is)
    ∙ given-value a test (in_value cell [] site) (InCell cell site) (type_of o.parts.subtype) o.parts.value gives refl good
    (subst (λ b. (value_if_given (in_value cell [] site) b o.parts.value).places ≡ []) (asked-constant a o is) judged)

-- ---- one constant

pub by-class : (k : ObjectClass) (o : Object) → k ≡ class.Constant → where_constant k o ≡ Some o
by-class class.Constant o is = refl
by-class class.Signal o is = cc
by-class class.Variable o is = cc

pub good-by : (cell : Cell) (site : Site) (k : ObjectClass) (o : Object) → k ≡ class.Constant → breaks_3_as cell site k o ≡ false → is_good_constant (InCell cell site) o ≡ true
good-by cell site class.Constant o is met = not-false (is_good_constant (InCell cell site) o) met
good-by cell site class.Signal o is met = cc
good-by cell site class.Variable o is met = cc

judged-by : (c : Context) (b : Bool) (o : Object) → b ≡ true → cond b (object_value c o).places [] ≡ [] → (object_value c o).places ≡ []
judged-by c true o is none = none
judged-by c false o is none = cc

behind-there : (a : AskedType) (test : ConstantValue → Bool) (cell : Cell) (o : Object) (e : Sited Decl) (b : Object) → GivesValue a test → IsConstantOf a o → IsBehind o e.declaration b → IsMet cell e → is_last_declaration e ≡ true
    → option_map_or test (option_and_then (value_behind cell []) (Some e)) false ≡ true
behind-there a test cell o e b gives is same met last =
    let constant_there : b.«class» ≡ class.Constant = same.class_is ∙ is.class_is in
    let kind : IsConstantOf a b = record {
      class_is = constant_there;
      asked_is = ap (λ ps. of_constant (type_of ps.subtype)) same.parts_are ∙ is.asked_is;
      no_truth = ap (λ ps. is_table_type table.Truth (type_of ps.subtype)) same.parts_are ∙ is.no_truth;
      no_state = ap (λ ps. is_table_type table.State (type_of ps.subtype)) same.parts_are ∙ is.no_state;
    } in
    ap (λ d. option_map_or test (option_and_then (constant_value cell [] e.site) (as_constant d)) false) same.is
    ∙ ap (λ q. option_map_or test (option_and_then (constant_value cell [] e.site) q) false) (by-class b.«class» b constant_there)
    ∙ value-there a test cell e.site b gives kind
    (good-by cell e.site b.«class» b constant_there (subst (λ d. breaks_3 cell e.site d ≡ false) same.is met.1))
    (judged-by (in_value cell [] e.site) b.is_last b (sym (ap is_last same.is) ∙ last) (subst (λ d. broken_in_declaration (in_value cell [] e.site) d ≡ []) same.is met.0))

abbrev same-constant : (ConstantValue → Bool) → Declared → Constant → Bool
same-constant test d k = bytes_eq k.name (identifier_of d).name && test k.value

constant-there : (test : ConstantValue → Bool) (o : Object) (v : Option ConstantValue) → option_map_or test v false ≡ true
    → option_map_or (λ k. bytes_eq k.name o.identifier.name && test k.value) (option_map (λ w. constant_with w o) v) false ≡ true
constant-there test o None is = cc
constant-there test o (Some w) is = both-true (bytes_eq o.identifier.name o.identifier.name) (test w) (same-name o.identifier.name) is

object-constant : (a : AskedType) (test : ConstantValue → Bool) (o : Object) (v : Option ConstantValue) → IsConstantOf a o → option_map_or test v false ≡ true
    → option_map_or (same-constant test (declared.Object o)) (constant_of (decl.Object o) v) false ≡ true
object-constant a test o v is there =
    ap (λ q. option_map_or (same-constant test (declared.Object o)) (option_and_then (λ b. option_map (λ w. constant_with w b) v) q) false) (by-class o.«class» o is.class_is)
    ∙ constant-there test o v there

-- The last is there and breaks no clause.
abbrev pub LastMet : Cell → Option (Sited Decl) → Type 0
LastMet cell last = IfSome last (λ e. IsMet cell e × (is_last_declaration e ≡ true))

one-constant : (a : AskedType) (test : ConstantValue → Bool) (cell : Cell) (d : Sited Decl) (last : Option (Sited Decl)) (declaration : Decl) → GivesValue a test → d.declaration ≡ declaration → IsPaired (d, last) → LastMet cell last
    → IfSome (declared_by declaration) (GivesOne (same-constant test) (IsObject (IsConstantOf a)) (constant cell [] (d, last)))
one-constant a test cell d last (decl.Attribute identifier type_mark) gives is together met = tt
one-constant a test cell d last (decl.Specification s) gives is together met = tt
one-constant a test cell d last (decl.Object o) gives is together met = λ kind.
    ap (λ x. option_map_or (same-constant test (declared.Object o)) (constant_of x (option_and_then (value_behind cell []) last)) false) is
    ∙ object-constant a test o (option_and_then (value_behind cell []) last) kind
    (behind o (λ l. LastMet cell l → option_map_or test (option_and_then (value_behind cell []) l) false ≡ true) (λ e b same there. behind-there a test cell o e b gives kind same there.0 there.1) last
    (subst (λ x. option_map common_of (option_map (λ s. s.declaration) last) ≡ Some (common_of x)) is together) met)
one-constant a test cell d last (decl.Alias k) gives is together met = λ kind. absurd kind
one-constant a test cell d last (decl.Component c) gives is together met = tt

-- ---- all of an architecture, or of a process of it

abbrev pub IsKeptConstant : AskedType → (ConstantValue → Bool) → List Constant → Declared → Type 0
IsKeptConstant a test cs d = IsObject (IsConstantOf a) d → list_any (λ k. bytes_eq k.name (identifier_of d).name && test k.value) cs ≡ true

-- The last of those that are declared together with a declaration is there, shares its parts and its site, and breaks no clause; and so does
-- the declaration itself.
abbrev pub IsMetPair : Cell → Pair → Type 0
IsMetPair cell x = IsPaired x × LastMet cell x.1 × IsMet cell x.0 × HasSite x

pub pairs-met : (cell : Cell) (process : Option Process) (ds : List Decl) → AreTogether ds → AllByRecursion (IsMet cell) (sited_declarations process ds) → AllByRecursion (IsMetPair cell) (pairs process ds)
pairs-met cell process ds together met =
    weaker (λ x. (IsPaired x × LastMet cell x.1) × (IsMet cell x.0 × HasSite x)) (IsMetPair cell) (λ x both. (both.0.0, both.0.1, both.1.0, both.1.1)) (pairs process ds)
    (all-both (λ x. IsPaired x × LastMet cell x.1) (λ x. IsMet cell x.0 × HasSite x) (pairs process ds)
    (all-both IsPaired (λ x. LastMet cell x.1) (pairs process ds) (paired process ds together) (lasts-have (IsMet cell) is_last_declaration (sited_declarations process ds) met))
    (all-both (λ x. IsMet cell x.0) HasSite (pairs process ds) (firsts-have (IsMet cell) is_last_declaration (sited_declarations process ds) met) (paired-sites process ds)))

-- What pairs declare, and the constants that they give.
abbrev pub declared_of : List Pair → List Declared
declared_of xs = filter_map (λ x. declared_by x.0.declaration) xs

abbrev pub given_by : Cell → List Pair → List Constant
given_by cell xs = filter_map (constant cell []) xs

pub constants-kept : (a : AskedType) (test : ConstantValue → Bool) (cell : Cell) (xs : List Pair) → GivesValue a test → AllByRecursion (IsMetPair cell) xs → AllByRecursion (IsKeptConstant a test (given_by cell xs)) (declared_of xs)
constants-kept a test cell xs gives met =
    kept (λ x. declared_by x.0.declaration) (constant cell []) (same-constant test) (IsObject (IsConstantOf a)) xs
    (weaker (IsMetPair cell) (λ x. IfSome (declared_by x.0.declaration) (GivesOne (same-constant test) (IsObject (IsConstantOf a)) (constant cell [] x)))
    (λ x same. one-constant a test cell x.0 x.1 x.0.declaration gives refl same.0 same.1) xs met)
