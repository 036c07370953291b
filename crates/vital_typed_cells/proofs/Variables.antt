-- The variables of a process are among those of its typed tree.
use Rattle.std.proofs.Common.{◌≡◌, Bool, true, false, List, Option, Some, None, refl, sym, ap, ◌∙◌, subst}
use Rattle.std.specs.Prelude.{◌&&◌, IfSome}
use Rattle.std.specs.List.{AllByRecursion}
use Rattle.std.specs.Option.{option_and_then, option_map, option_map_or}
use Rattle.std.specs.Str.{bytes_eq}
use Rattle.vital_base.specs.declared.place.Place.{Place}
use Rattle.vital_declarations.specs.Operands.{VariableType, variable_type}
use Rattle.vital_names.specs.Declarations.{Declared, declared_by, declared_in, identifier_of}
use Rattle.vital_names.specs.Declarations as declared
use Rattle.vital_names.specs.Sites.{Cell, Site}
use Rattle.vital_nodes.specs.declared.decl.Decl.{Decl}
use Rattle.vital_nodes.specs.declared.decl.Decl.TheVariants as decl
use Rattle.vital_nodes.specs.declared.decl.Object.{Object}
use Rattle.vital_nodes.specs.declared.decl.ObjectClass.{ObjectClass}
use Rattle.vital_nodes.specs.declared.decl.ObjectClass.TheVariants as class
use Rattle.vital_nodes.specs.declared.stmt.Process.{Process}
use Rattle.vital_objects.specs.declared.variable.Variable.{Variable}
use Rattle.vital_objects.specs.declared.variable.VariableKind.{VariableKind}
use Rattle.vital_objects.specs.Variables.{as_variable, kind_behind, kind_of, variable, variable_kind, variable_of, variable_with, variables, where_variable}
use Rattle.vital_typed_declarations.specs.declared.asked_type.AskedType.{AskedType}
use Rattle.vital_typed_declarations.specs.declared.value.TypedValue.{TypedValue}
use Rattle.vital_typed_declarations.specs.Asked.{of_object, of_object_class, of_variable}
use Rattle.vital_typed_declarations.specs.Declarations.{in_value, object_value}
use Rattle.vital_uses.specs.Sited.{Sited}
use Rattle.vital_as_read.specs.AsRead.{AreTogether, common_of}
use Rattle.vital_typed_cells.specs.Named.{variable_is}
use Rattle.vital_typed_cells.proofs.Found.{GivesOne, kept, weaker}
use Rattle.vital_typed_cells.proofs.Signals.{IsObject}
use Rattle.vital_typed_cells.proofs.Tests.{both-true, same-name}
use Rattle.vital_typed_cells.proofs.Together.{IsBehind, IsPaired, behind, declared-pairs, paired, pairs}

-- ---- what is asked

-- A test holds of what a variable of a type keeps, whatever its default is.
abbrev pub Gives : (VariableKind → Bool) → VariableType → Type 0
Gives test t = (default : Option TypedValue) → test (kind_of t (of_variable (Some t)) default) ≡ true

abbrev pub GivesType : (VariableKind → Bool) → Option VariableType → Type 0
GivesType test None = ⊥
GivesType test (Some t) = Gives test t

-- A variable whose type is one of these.
pub record IsVariableOf (test : VariableKind → Bool) (o : Object) : Type 0 where
  pub class_is : o.«class» ≡ class.Variable
  pub gives : GivesType test (variable_type o.parts.subtype)

-- ---- one variable

by-class : (k : ObjectClass) (o : Object) → k ≡ class.Variable → where_variable k o ≡ Some o
by-class class.Constant o is = cc
by-class class.Signal o is = cc
by-class class.Variable o is = refl

kind-by-type : (test : VariableKind → Bool) (a : AskedType) (default : Option TypedValue) (t : Option VariableType) → of_variable t ≡ a → GivesType test t
    → option_map_or test (option_map (λ u. kind_of u a default) t) false ≡ true
kind-by-type test a default None is gives = absurd gives
kind-by-type test a default (Some t) is gives = subst (λ b. test (kind_of t b default) ≡ true) is (gives default)

kind-there : (test : VariableKind → Bool) (cell : Cell) (faults : List Place) (site : Site) (o : Object) → o.«class» ≡ class.Variable → GivesType test (variable_type o.parts.subtype)
    → option_map_or test (option_and_then (variable_kind cell faults site) (where_variable o.«class» o)) false ≡ true
kind-there test cell faults site o is gives =
    ap (λ q. option_map_or test (option_and_then (variable_kind cell faults site) q) false) (by-class o.«class» o is)
    ∙ kind-by-type test (of_object o) (object_value (in_value cell faults site) o).tree (variable_type o.parts.subtype) (sym (ap (λ k. of_object_class k o) is)) gives

variable-there : (test : VariableKind → Bool) (o : Object) (k : Option VariableKind) → option_map_or test k false ≡ true
    → option_map_or (λ v. bytes_eq v.name o.identifier.name && test v.kind) (option_map (λ w. variable_with w o) k) false ≡ true
variable-there test o None is = cc
variable-there test o (Some w) is = both-true (bytes_eq o.identifier.name o.identifier.name) (test w) (same-name o.identifier.name) is

abbrev same-variable : (VariableKind → Bool) → Declared → Variable → Bool
same-variable test d v = bytes_eq v.name (identifier_of d).name && test v.kind

object-variable : (test : VariableKind → Bool) (cell : Cell) (faults : List Place) (o : Object) (last : Option (Sited Decl)) → IsVariableOf test o
    → option_map_or test (option_and_then (kind_behind cell faults) last) false ≡ true
    → option_map_or (same-variable test (declared.Object o)) (variable_of (decl.Object o) (option_and_then (kind_behind cell faults) last)) false ≡ true
object-variable test cell faults o last is there =
    ap (λ q. option_map_or (same-variable test (declared.Object o)) (option_and_then (λ b. option_map (λ w. variable_with w b) (option_and_then (kind_behind cell faults) last)) q) false) (by-class o.«class» o is.class_is)
    ∙ variable-there test o (option_and_then (kind_behind cell faults) last) there

behind-there : (test : VariableKind → Bool) (cell : Cell) (faults : List Place) (o : Object) (e : Sited Decl) (b : Object) → IsVariableOf test o → IsBehind o e.declaration b
    → option_map_or test (option_and_then (kind_behind cell faults) (Some e)) false ≡ true
behind-there test cell faults o e b is same =
    ap (λ d. option_map_or test (option_and_then (variable_kind cell faults e.site) (as_variable d)) false) same.is
    ∙ kind-there test cell faults e.site b (same.class_is ∙ is.class_is) (subst (λ ps. GivesType test (variable_type ps.subtype)) (sym same.parts_are) is.gives)

one-variable : (test : VariableKind → Bool) (cell : Cell) (faults : List Place) (d : Sited Decl) (last : Option (Sited Decl)) (declaration : Decl) → d.declaration ≡ declaration → IsPaired (d, last)
    → IfSome (declared_by declaration) (GivesOne (same-variable test) (IsObject (IsVariableOf test)) (variable cell faults (d, last)))
one-variable test cell faults d last (decl.Attribute identifier type_mark) is together = tt
one-variable test cell faults d last (decl.Specification s) is together = tt
one-variable test cell faults d last (decl.Object o) is together = λ kind.
    ap (λ x. option_map_or (same-variable test (declared.Object o)) (variable_of x (option_and_then (kind_behind cell faults) last)) false) is
    ∙ object-variable test cell faults o last kind
    (behind o (λ l. option_map_or test (option_and_then (kind_behind cell faults) l) false ≡ true) (λ e b same. behind-there test cell faults o e b kind same) last
    (subst (λ x. option_map common_of (option_map (λ s. s.declaration) last) ≡ Some (common_of x)) is together))
one-variable test cell faults d last (decl.Alias a) is together = λ kind. absurd kind
one-variable test cell faults d last (decl.Component c) is together = tt

-- ---- all of a process

abbrev pub IsKeptVariable : (VariableKind → Bool) → List Variable → Declared → Type 0
IsKeptVariable test vs d = IsObject (IsVariableOf test) d → variable_is test vs (identifier_of d).name ≡ true

-- Each variable of a type is among those that are kept, where those that are declared together have their parts in common.
pub variables-kept : (test : VariableKind → Bool) (cell : Cell) (faults : List Place) (p : Process) → AreTogether p.declarations → AllByRecursion (IsKeptVariable test (variables cell faults p)) (declared_in p.declarations)
variables-kept test cell faults p together =
    subst (AllByRecursion (IsKeptVariable test (variables cell faults p))) (declared-pairs (Some p) p.declarations)
    (kept (λ x. declared_by x.0.declaration) (variable cell faults) (same-variable test) (IsObject (IsVariableOf test)) (pairs (Some p) p.declarations)
    (weaker IsPaired (λ x. IfSome (declared_by x.0.declaration) (GivesOne (same-variable test) (IsObject (IsVariableOf test)) (variable cell faults x)))
    (λ x same. one-variable test cell faults x.0 x.1 x.0.declaration refl same) (pairs (Some p) p.declarations) (paired (Some p) p.declarations together)))
