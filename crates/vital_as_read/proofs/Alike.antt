-- Lists of which each has as much in common with the last of those that are declared together with it.
use Rattle.std.proofs.Common.{◌≡◌, Bool, true, false, List, [], ◌∷◌, ◌++◌, Option, Some, None, refl, sym, ap, ◌∙◌}
use Rattle.std.proofs.lemmas.Option.{same_Some, some_pair_parts}
use Rattle.std.specs.List.{cons_option, filter_map}
use Rattle.std.specs.Option.{option_map, option_or}
use Rattle.std.specs.Prelude.{find, if◌then◌else◌}
use Rattle.std.proofs.lemmas.List.Folds.{find-append}
use Rattle.vital_library.specs.Constants.{as_constant, where_constant}
use Rattle.vital_names.specs.Viewpoints.{is_last}
use Rattle.vital_nodes.specs.declared.decl.Decl.{Decl}
use Rattle.vital_nodes.specs.declared.decl.Decl.TheVariants as decl
use Rattle.vital_nodes.specs.declared.decl.IfaceParts.{IfaceParts}
use Rattle.vital_nodes.specs.declared.decl.Object.{Object}
use Rattle.vital_nodes.specs.declared.decl.ObjectClass.{ObjectClass}
use Rattle.vital_nodes.specs.declared.decl.ObjectClass.TheVariants as class
use Rattle.vital_nodes.specs.declared.decl.ObjectParts.{ObjectParts}
use Rattle.vital_nodes.specs.declared.identifier.Identifier.{Identifier}
use Rattle.vital_shapes.specs.Declarations.{each_iface, each_object}
use Rattle.vital_as_read.specs.AsRead.{AreAlike, AreConstantsAlike, AreInterfaceTogether, AreTogether, common_of}

still_found : {A C : Type 0} (common : A → C) (o p : Option A) (c : C) → option_map common o ≡ Some c → option_map common (option_or o p) ≡ Some c
still_found common None p c is = absurd cc
still_found common (Some x) p c is = is

-- one list of such, and then another one
pub alike_joined : {A C : Type 0} (last : A → Bool) (common : A → C) (xs ys : List A) → AreAlike last common xs → AreAlike last common ys → AreAlike last common (xs ++ ys)
alike_joined last common [] ys first second = second
alike_joined last common (x ∷ xs) ys first second = (
  ap (option_map common) (find-append last (x ∷ xs) ys) ∙ still_found common (find last (x ∷ xs)) (find last ys) (common x) first.0,
  alike_joined last common xs ys first.1 second,
)

-- what is declared for each of several identifiers
pub ifaces_alike : (ids : List Identifier) (parts : IfaceParts) → AreInterfaceTogether (each_iface ids parts)
unfolding each_iface
ifaces_alike [] parts = tt
ifaces_alike (x ∷ []) parts = (refl, tt)
ifaces_alike (x ∷ y ∷ ids) parts = let rest = ifaces_alike (y ∷ ids) parts in (rest.0, rest)

pub objects_alike : (class : ObjectClass) (ids : List Identifier) (parts : ObjectParts) → AreTogether (each_object class ids parts)
unfolding each_object
objects_alike class [] parts = tt
objects_alike class (x ∷ []) parts = (refl, tt)
objects_alike class (x ∷ y ∷ ids) parts = let rest = objects_alike class (y ∷ ids) parts in (rest.0, rest)

-- ---- the constants among declarations

abbrev parts_found : List Object → Option ObjectParts
parts_found os = option_map (λ o. o.parts) (find (λ o. o.is_last) os)

abbrev pub constants_among : List Decl → List Object
constants_among ds = filter_map as_constant ds

both_are : (o : Object) (parts : ObjectParts) → ◌≡◌ {A = Option (Option (ObjectClass × ObjectParts))} (Some (Some (o.«class», o.parts))) (Some (Some (class.Constant, parts))) → (o.«class» ≡ class.Constant) × (o.parts ≡ parts)
both_are o parts has = some_pair_parts o.«class» class.Constant o.parts parts (same_Some (Some (o.«class», o.parts)) (Some (class.Constant, parts)) has)

-- where the first last one among declarations has this in common with others, it is an object of the class and with the parts
last_among : (last : Bool) (o : Object) (found : Option Decl) (k : ObjectClass) (parts : ObjectParts) (os : List Object) → o.is_last ≡ last → o.«class» ≡ k
    → option_map common_of (if last then Some (decl.Object o) else found) ≡ Some (Some (class.Constant, parts))
    → (option_map common_of found ≡ Some (Some (class.Constant, parts)) → parts_found os ≡ Some parts)
    → parts_found (cons_option (where_constant k o) os) ≡ Some parts
last_among true o found class.Constant parts os last is has rest =
    ap (λ l. option_map (λ x. x.parts) (if l then Some o else find (λ x. x.is_last) os)) last ∙ ap (λ x. Some x) (both_are o parts has).1
last_among true o found class.Signal parts os last is has rest = let wrong : o.«class» ≡ class.Constant = (both_are o parts has).0 in absurd (cc)
last_among true o found class.Variable parts os last is has rest = let wrong : o.«class» ≡ class.Constant = (both_are o parts has).0 in absurd (cc)
last_among false o found class.Constant parts os last is has rest =
    ap (λ l. option_map (λ x. x.parts) (if l then Some o else find (λ x. x.is_last) os)) last ∙ rest has
last_among false o found class.Signal parts os last is has rest = rest has
last_among false o found class.Variable parts os last is has rest = rest has

found_among : (ds : List Decl) (parts : ObjectParts) → option_map common_of (find is_last ds) ≡ Some (Some (class.Constant, parts)) → parts_found (constants_among ds) ≡ Some parts
found_among [] parts has = absurd (cc)
found_among (decl.Attribute identifier type_mark ∷ ds) parts has = absurd (cc)
found_among (decl.Specification s ∷ ds) parts has = absurd (cc)
found_among (decl.Object o ∷ ds) parts has = last_among o.is_last o (find is_last ds) o.«class» parts (constants_among ds) refl refl has (found_among ds parts)
found_among (decl.Alias a ∷ ds) parts has = absurd (cc)
found_among (decl.Component c ∷ ds) parts has = absurd (cc)

one_constant : (k : ObjectClass) (o : Object) (ds : List Decl) → o.«class» ≡ k → AreTogether (decl.Object o ∷ ds) → AreConstantsAlike (constants_among ds)
    → AreConstantsAlike (cons_option (where_constant k o) (constants_among ds))
one_constant class.Constant o ds is together rest = (
  ap (λ k. parts_found (cons_option (where_constant k o) (constants_among ds))) (sym is)
      ∙ found_among (decl.Object o ∷ ds) o.parts (together.0 ∙ ap (λ k. Some (Some (k, o.parts))) is),
  rest,
)
one_constant class.Signal o ds is together rest = rest
one_constant class.Variable o ds is together rest = rest

pub constants_alike : (ds : List Decl) → AreTogether ds → AreConstantsAlike (constants_among ds)
constants_alike [] together = tt
constants_alike (decl.Attribute identifier type_mark ∷ ds) together = constants_alike ds together.1
constants_alike (decl.Specification s ∷ ds) together = constants_alike ds together.1
constants_alike (decl.Object o ∷ ds) together = one_constant o.«class» o ds refl together (constants_alike ds together.1)
constants_alike (decl.Alias a ∷ ds) together = constants_alike ds together.1
constants_alike (decl.Component c ∷ ds) together = constants_alike ds together.1
