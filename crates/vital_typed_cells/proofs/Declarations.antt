-- The names of signals, constants and variables of a typed tree are among those that are declared.
use Rattle.std.proofs.Common.{◌≡◌, ℕ, ◌+◌, ◌≤◌, List, Option, Some, None, map, refl, sym, ap, ◌∙◌, arith}
use Rattle.std.specs.List.{filter_map}
use Rattle.std.specs.Option.{option_and_then, option_map}
use Rattle.vital_base.specs.declared.place.Place.{Place}
use Rattle.vital_library.specs.Constants.{where_constant}
use Rattle.vital_names.specs.Declarations.{body_of, declared_by, declared_in}
use Rattle.vital_names.specs.Sites.{Cell}
use Rattle.vital_nodes.specs.declared.decl.Decl.{Decl}
use Rattle.vital_nodes.specs.declared.decl.Decl.TheVariants as decl
use Rattle.vital_nodes.specs.declared.decl.Object.{Object}
use Rattle.vital_nodes.specs.declared.decl.ObjectClass.{ObjectClass}
use Rattle.vital_nodes.specs.declared.decl.ObjectClass.TheVariants as class
use Rattle.vital_nodes.specs.declared.stmt.Process.{Process}
use Rattle.vital_nodes.specs.declared.unit.Arch.{Arch}
use Rattle.vital_objects.specs.declared.constant.ConstantValue.{ConstantValue}
use Rattle.vital_objects.specs.declared.variable.VariableKind.{VariableKind}
use Rattle.vital_objects.specs.Constants.{constant, constant_of, constant_with, constants, value_behind}
use Rattle.vital_objects.specs.Signals.{declarations, signal, signals, where_signal}
use Rattle.vital_objects.specs.Together.{beside_lasts, is_last_declaration}
use Rattle.vital_objects.specs.Variables.{kind_behind, variable, variable_of, variable_with, variables, where_variable}
use Rattle.vital_typed_cells.specs.Names.{name_of, names_of}
use Rattle.vital_uses.specs.Nodes.{sited_declarations}
use Rattle.vital_uses.specs.Sited.{Sited}
use Rattle.vital_typed_cells.proofs.Parts.{both-found, if_there, map-found, once, times}
use Rattle.vital_typed_cells.proofs.Interface.{at-sites, beside-others}

abbrev pub declarations_at : Option Process → List Decl → List (Sited Decl × Option (Sited Decl))
declarations_at process ds = beside_lasts is_last_declaration (sited_declarations process ds)

pub at-declarations : {B : Type 0} (h : Decl → Option B) (process : Option Process) (ds : List Decl) → filter_map (λ d. h d.0.declaration) (declarations_at process ds) ≡ filter_map h ds
at-declarations h process ds =
    beside-others (λ d. h d.declaration) is_last_declaration (sited_declarations process ds) ∙ at-sites h _ _ _ process None ds

-- ---- declarations

abbrev declared_name : Decl → Option (List ℕ)
declared_name d = option_map name_of (declared_by d)

body-named : (arch : Option Arch) → names_of (body_of arch) ≡ filter_map declared_name (declarations arch)
body-named None = refl
body-named (Some a) = map-found name_of declared_by a.declarations

abbrev constant_named : Option Object → Option ConstantValue → Option (List ℕ)
constant_named o v = option_map (λ k. k.name) (option_and_then (λ x. option_map (λ w. constant_with w x) v) o)

abbrev variable_named : Option Object → Option VariableKind → Option (List ℕ)
variable_named o k = option_map (λ v. v.name) (option_and_then (λ x. option_map (λ w. variable_with w x) k) o)

-- An object is a signal or a constant, and a constant or a variable.
signal-or-constant : (n : List ℕ) (k : ObjectClass) (o : Object) (v : Option ConstantValue)
    → if_there n (option_map (λ s. s.name) (where_signal k o)) + if_there n (constant_named (where_constant k o) v) ≤ once n o.identifier.name
signal-or-constant n class.Constant o None = omega arith
signal-or-constant n class.Constant o (Some w) = omega arith
signal-or-constant n class.Signal o v = omega arith
signal-or-constant n class.Variable o v = omega arith

constant-or-variable : (n : List ℕ) (k : ObjectClass) (o : Object) (v : Option ConstantValue) (w : Option VariableKind)
    → if_there n (constant_named (where_constant k o) v) + if_there n (variable_named (where_variable k o) w) ≤ once n o.identifier.name
constant-or-variable n class.Constant o None w = omega arith
constant-or-variable n class.Constant o (Some x) w = omega arith
constant-or-variable n class.Signal o v w = omega arith
constant-or-variable n class.Variable o v None = omega arith
constant-or-variable n class.Variable o v (Some x) = omega arith

in-body : (n : List ℕ) (d : Decl) (v : Option ConstantValue)
    → if_there n (option_map (λ s. s.name) (signal d)) + if_there n (option_map (λ k. k.name) (constant_of d v)) ≤ if_there n (declared_name d)
in-body n (decl.Attribute identifier type_mark) v = omega arith
in-body n (decl.Specification s) v = omega arith
in-body n (decl.Object o) v = signal-or-constant n o.«class» o v
in-body n (decl.Alias a) v = omega arith
in-body n (decl.Component c) v = omega arith

in-process : (n : List ℕ) (d : Decl) (v : Option ConstantValue) (w : Option VariableKind)
    → if_there n (option_map (λ k. k.name) (constant_of d v)) + if_there n (option_map (λ x. x.name) (variable_of d w)) ≤ if_there n (declared_name d)
in-process n (decl.Attribute identifier type_mark) v w = omega arith
in-process n (decl.Specification s) v w = omega arith
in-process n (decl.Object o) v w = constant-or-variable n o.«class» o v w
in-process n (decl.Alias a) v w = omega arith
in-process n (decl.Component c) v w = omega arith

pub body-part : (cell : Cell) (faults : List Place) (n : List ℕ)
    → times n (map (λ s. s.name) (signals cell)) + times n (map (λ k. k.name) (constants cell faults None (declarations cell.arch))) ≤ times n (names_of (body_of cell.arch))
body-part cell faults n =
    let ds = declarations cell.arch in
    let xs = declarations_at None ds in
    let both = both-found (λ x. option_map (λ s. s.name) (signal x.0.declaration)) (λ x. option_map (λ k. k.name) (constant cell faults x)) (λ x. declared_name x.0.declaration)
    (λ m x. in-body m x.0.declaration (option_and_then (value_behind cell faults) x.1)) n xs in
    omega (
      arith,
      both,
      ap (times n) (map-found (λ s. s.name) signal ds ∙ sym (at-declarations (λ d. option_map (λ s. s.name) (signal d)) None ds)),
      ap (times n) (map-found (λ k. k.name) (constant cell faults) xs),
      ap (times n) (body-named cell.arch ∙ sym (at-declarations declared_name None ds)),
    )

pub process-part : (cell : Cell) (faults : List Place) (p : Process) (n : List ℕ)
    → times n (map (λ k. k.name) (constants cell faults (Some p) p.declarations)) + times n (map (λ v. v.name) (variables cell faults p))
    ≤ times n (names_of (declared_in p.declarations))
process-part cell faults p n =
    let ds = p.declarations in
    let xs = declarations_at (Some p) ds in
    let both = both-found (λ x. option_map (λ k. k.name) (constant cell faults x)) (λ x. option_map (λ v. v.name) (variable cell faults x)) (λ x. declared_name x.0.declaration)
    (λ m x. in-process m x.0.declaration (option_and_then (value_behind cell faults) x.1) (option_and_then (kind_behind cell faults) x.1)) n xs in
    omega (
      arith,
      both,
      ap (times n) (map-found (λ k. k.name) (constant cell faults) xs),
      ap (times n) (map-found (λ v. v.name) (variable cell faults) xs),
      ap (times n) (map-found name_of declared_by ds ∙ sym (at-declarations declared_name (Some p) ds)),
    )
