-- Defaults in the interface of a cell: what their names stand for, where no constant of a package that the cell names breaks a clause.
use Rattle.std.proofs.Common.{◌≡◌, ℕ, Bool, true, false, List, [], ◌∷◌, ◌++◌, Option, Some, None, refl, sym, ap, subst}
use Rattle.std.specs.Prelude.{cond, find, is_some, unwrap_or, IfSome}
use Rattle.std.specs.List.{AllByRecursion, zip}
use Rattle.std.specs.Option.{option_and_then, option_map, option_map_or}
use Rattle.std.proofs.lemmas.List.Elements.{All-from_recursion}
use Rattle.std.proofs.lemmas.Option.{same_Some}
use Rattle.vital_base.specs.declared.place.Place.{Place}
use Rattle.vital_declarations.specs.Types.{type_of}
use Rattle.vital_level0.specs.DefaultWords.{default_word, word_for}
use Rattle.vital_names.specs.declared.site.CellUnit.TheVariants.{Entity}
use Rattle.vital_names.specs.Meanings.{Meaning, meaning}
use Rattle.vital_names.specs.Meanings as meanings
use Rattle.vital_names.specs.Sites.{Cell}
use Rattle.vital_names.specs.Viewpoints.{first_places_from, viewpoints}
use Rattle.vital_nodes.specs.declared.decl.Iface.{Iface}
use Rattle.vital_nodes.specs.declared.decl.IfaceParts.{IfaceParts}
use Rattle.vital_nodes.specs.declared.decl.Object.{Object}
use Rattle.vital_nodes.specs.declared.expr.Expr.{Expr}
use Rattle.vital_nodes.specs.declared.identifier.Identifier.{Identifier}
use Rattle.vital_nodes.specs.Nodes.{Node, Declaration, Interface, Concurrent, Sequential, Expression, Item, Name, expression_if_there}
use Rattle.vital_nodes.specs.Walk.{nodes_of, nodes_of_all}
use Rattle.vital_objects.specs.PackageValues.{value_at}
use Rattle.vital_objects.specs.Together.{beside_lasts, is_last_interface}
use Rattle.vital_operands.specs.declared.tree.ConstantName.TheVariants as constant
use Rattle.vital_operands.specs.Positions.{Position, InInterface, Standing, Constant, Nothing, standing_of}
use Rattle.vital_typed_cells.specs.Packages.{sound_values}
use Rattle.vital_typed_declarations.specs.Values.{is_boolean_type}
use Rattle.vital_uses.specs.Nodes.{sited_interface}
use Rattle.vital_uses.specs.Parts.{asked_of_generic, asked_of_subtype}
use Rattle.vital_uses.specs.Sited.{Sited, beside}
use Rattle.vital_nodes.specs.Names.{identifier_of}
use Rattle.vital_typed_cells.specs.Positions.{HasConstant, HasNameAt}
use Rattle.vital_typed_cells.specs.SoundValues.{HasBooleanAt, HasNamesIn, ValueScope, read_default}
use Rattle.vital_as_read.specs.AsRead.{AreConstantsTogether, AreInterfaceTogether}
use Rattle.vital_typed_cells.proofs.AsRead.{IsInterfaceTogether, alike-beside}
use Rattle.vital_typed_cells.specs.Named.{is_package_truth}
use Rattle.vital_typed_cells.proofs.Found.{all-mapped, each, weaker}
use Rattle.vital_typed_cells.proofs.Lists.{all-both, beside-sited, lasts-have}
use Rattle.vital_typed_cells.proofs.NamedConstants.{FreeAt, IfaceFree, NamesFree, Worth, generics-free, meaning-worth}
use Rattle.vital_typed_cells.proofs.Operands.{IsPackaged, interface-scope}
use Rattle.vital_typed_cells.proofs.Packages.{value-nodes}
use Rattle.vital_typed_cells.proofs.Seen.{IfPackaged, site_of_interface}

-- ---- scopes of constants of packages

-- A scope has what the constants of packages are worth.
pub record IsOfPackages (cell : Cell) (s : ValueScope) : Type 0 where
  pub constants : (n : ℕ) (o : Object) → Worth cell n o → HasConstant s.names (constant.Package n) (type_of o.parts.subtype)
  pub booleans : (n : ℕ) → option_map_or is_package_truth (value_at (sound_values cell.files) n) false ≡ true → s.has_boolean n ≡ true

pub packaged-in : (cell : Cell) (s : ValueScope) (m : Option Meaning) → IsOfPackages cell s → IfPackaged (Worth cell) m → IfPackaged (IsPackaged s.names) m
packaged-in cell s None of worth = tt
packaged-in cell s (Some (meanings.Declared d)) of worth = tt
packaged-in cell s (Some (meanings.Constant n o)) of worth = of.constants n o worth
packaged-in cell s (Some (meanings.Predeclared w)) of worth = tt

abbrev number-in : Standing → Option ℕ
number-in (Constant n o) = Some n
number-in other = None

abbrev object-in : Standing → Option Object
object-in (Constant n o) = Some o
object-in other = None

pub boolean-in : (cell : Cell) (s : ValueScope) (p : Position) (i : Identifier) (m : Option Meaning) → IsOfPackages cell s → IfPackaged (Worth cell) m → (n : ℕ) (o : Object) → option_map_or (standing_of p i) m Nothing ≡ Constant n o
    → is_boolean_type (type_of o.parts.subtype) ≡ true → s.has_boolean n ≡ true
boolean-in cell s p i None of worth n o is typed = let wrong : ◌≡◌ {A = Option ℕ} None (Some n) = ap number-in is in cc
boolean-in cell s p i (Some (meanings.Declared d)) of worth n o is typed = let wrong : ◌≡◌ {A = Option ℕ} None (Some n) = ap number-in is in cc
boolean-in cell s p i (Some (meanings.Constant m q)) of worth n o is typed =
    let same : m ≡ n = same_Some m n (ap number-in is) in
    let object : q ≡ o = same_Some q o (ap object-in is) in
    of.booleans n (subst (λ k. option_map_or is_package_truth (value_at (sound_values cell.files) k) false ≡ true) same (worth.booleans (subst (λ x. is_boolean_type (type_of x.parts.subtype) ≡ true) (sym object) typed)))
boolean-in cell s p i (Some (meanings.Predeclared w)) of worth n o is typed = let wrong : ◌≡◌ {A = Option ℕ} None (Some n) = ap number-in is in cc

-- ---- names in defaults

identifier-name : (cell : Cell) (s : ValueScope) (v : Place) → AreConstantsTogether cell.files → IsOfPackages cell s → (u : Node) → FreeAt cell (site_of_interface v) u → HasNameAt s.names (InInterface cell (site_of_interface v)) u
identifier-name cell s v together of (Declaration d) free = tt
identifier-name cell s v together of (Interface i) free = tt
identifier-name cell s v together of (Concurrent k) free = tt
identifier-name cell s v together of (Sequential k) free = tt
identifier-name cell s v together of (Expression e) free = tt
identifier-name cell s v together of (Item i) free = tt
identifier-name cell s v together of (Name r) free =
    interface-scope s.names cell v r.identifier
    (packaged-in cell s (meaning r.identifier.name cell (site_of_interface v)) of (meaning-worth cell (site_of_interface v) r.identifier.name together free))

identifier-boolean : (cell : Cell) (s : ValueScope) (v : Place) → AreConstantsTogether cell.files → IsOfPackages cell s → (u : Node) → FreeAt cell (site_of_interface v) u → HasBooleanAt s (InInterface cell (site_of_interface v)) u
identifier-boolean cell s v together of (Declaration d) free = tt
identifier-boolean cell s v together of (Interface i) free = tt
identifier-boolean cell s v together of (Concurrent k) free = tt
identifier-boolean cell s v together of (Sequential k) free = tt
identifier-boolean cell s v together of (Expression e) free = tt
identifier-boolean cell s v together of (Item i) free = tt
identifier-boolean cell s v together of (Name r) free =
    boolean-in cell s (InInterface cell (site_of_interface v)) r.identifier (meaning r.identifier.name cell (site_of_interface v)) of (meaning-worth cell (site_of_interface v) r.identifier.name together free)

-- What names in a default stand for, seen from a site of the interface, is in a scope of constants of packages.
pub default-names : (cell : Cell) (s : ValueScope) (v : Place) (o : Option Expr) → AreConstantsTogether cell.files → IsOfPackages cell s → IfSome o (λ e. AllByRecursion (FreeAt cell (site_of_interface v)) (nodes_of (Expression e)))
    → HasNamesIn s (InInterface cell (site_of_interface v)) o
default-names cell s v None together of free = tt
default-names cell s v (Some e) together of free = record {
  names =
      All-from_recursion (HasNameAt s.names (InInterface cell (site_of_interface v))) (nodes_of (Expression e))
      (weaker (FreeAt cell (site_of_interface v)) (HasNameAt s.names (InInterface cell (site_of_interface v))) (identifier-name cell s v together of) (nodes_of (Expression e)) free);
  booleans =
      All-from_recursion (HasBooleanAt s (InInterface cell (site_of_interface v))) (nodes_of (Expression e))
      (weaker (FreeAt cell (site_of_interface v)) (HasBooleanAt s (InInterface cell (site_of_interface v))) (identifier-boolean cell s v together of) (nodes_of (Expression e)) free);
}

-- ---- sites

-- A site of the interface.
abbrev pub IsInterfaceSite : Sited Iface → Type 0
IsInterfaceSite e = (v : Place) × (e.site ≡ site_of_interface v)

pub interface-sites : (is : List Iface) → AllByRecursion IsInterfaceSite (sited_interface is)
interface-sites is =
    all-mapped IsInterfaceSite (λ d. record { site = record { unit = Entity; process = None; viewpoint = d.0 }; declaration = d.1 }) (zip (viewpoints (λ i. i.identifier.place) (λ i. i.is_last) is) is)
    (each (λ d. IsInterfaceSite (record { site = record { unit = Entity; process = None; viewpoint = d.0 }; declaration = d.1 })) (λ d. (d.0, refl)) (zip (viewpoints (λ i. i.identifier.place) (λ i. i.is_last) is) is))

abbrev placed : Option Place → List Iface → List (Sited Iface)
placed begun is = beside Entity None (first_places_from (λ i. i.identifier.place) (λ i. i.is_last) begun is) is

abbrev SeenFrom : Place → Option (Sited Iface) → Type 0
SeenFrom w o = IfSome o (λ e. e.site ≡ site_of_interface w)

seen-or : (w : Place) (b : Bool) (i : Iface) (is : List Iface) → SeenFrom w (find is_last_interface (placed (Some w) is))
    → SeenFrom w (cond b (Some (record { site = site_of_interface w; declaration = i })) (find is_last_interface (placed (cond b None (Some w)) is)))
seen-or w true i is others = refl
seen-or w false i is others = others

-- The last of those that have begun is seen from where they have begun.
last-begun : (w : Place) (is : List Iface) → SeenFrom w (find is_last_interface (placed (Some w) is))
last-begun w [] = tt
last-begun w (i ∷ is) = seen-or w i.is_last i is (last-begun w is)

-- Each is seen from where the last of those that are declared together with it is.
abbrev SameSite : (Sited Iface × Option (Sited Iface)) → Type 0
SameSite x = IfSome x.1 (λ e. e.site ≡ x.0.site)

same-sites : (begun : Option Place) (is : List Iface) → AllByRecursion SameSite (beside_lasts is_last_interface (placed begun is))
same-sites begun [] = tt
same-sites begun (i ∷ is) = (seen-or (unwrap_or begun i.identifier.place) i.is_last i is (last-begun (unwrap_or begun i.identifier.place) is), same-sites (cond i.is_last None (Some (unwrap_or begun i.identifier.place))) is)

pub interface-same : (is : List Iface) → AllByRecursion SameSite (beside_lasts is_last_interface (sited_interface is))
interface-same is = same-sites None is

-- ---- generics

-- What a generic reads of its default names what breaks no clause, seen from its site.
abbrev pub ReadFree : Cell → Sited Iface → Type 0
ReadFree cell e = IfSome (read_default e.declaration) (λ d. AllByRecursion (FreeAt cell e.site) (nodes_of (Expression d)))

abbrev read_by : IfaceParts → Option Expr
read_by ps = cond (is_some (option_and_then (λ i. word_for ps.subtype i.name) (option_and_then identifier_of ps.default))) None ps.default

default-free : (P : Node → Type 0) (b : Bool) (vs : List Node) (o : Option Expr) → AllByRecursion P (nodes_of_all (vs ++ cond b [] (expression_if_there o))) → IfSome (cond b None o) (λ d. AllByRecursion P (nodes_of (Expression d)))
default-free P true vs o free = tt
default-free P false vs o free = value-nodes P vs o free

last-free : (P : Node → Type 0) (last : Bool) (vs : List Node) (b : Bool) (o : Option Expr) → last ≡ true → AllByRecursion P (nodes_of_all (cond last (vs ++ cond b [] (expression_if_there o)) []))
    → IfSome (cond b None o) (λ d. AllByRecursion P (nodes_of (Expression d)))
last-free P true vs b o is free = default-free P b vs o free
last-free P false vs b o is free = cc

same-read : (cell : Cell) (x : Sited Iface) (e : Sited Iface) → e.site ≡ x.site → e.declaration.parts ≡ x.declaration.parts → IfaceFree cell asked_of_generic e → e.declaration.is_last ≡ true → ReadFree cell x
same-read cell x e site parts free last =
    subst (λ s. IfSome (read_by x.declaration.parts) (λ d. AllByRecursion (FreeAt cell s) (nodes_of (Expression d)))) site
    (subst (λ ps. IfSome (read_by ps) (λ d. AllByRecursion (FreeAt cell e.site) (nodes_of (Expression d)))) parts
    (last-free (FreeAt cell e.site) e.declaration.is_last (asked_of_subtype e.declaration.parts.subtype) (is_some (default_word e.declaration)) e.declaration.parts.default last free))

-- The last of those that are declared together is there, has their parts, and names what breaks no clause.
abbrev LastRead : Cell → (Sited Iface × Option (Sited Iface)) → Type 0
LastRead cell x = IfSome x.1 (λ e. IfaceFree cell asked_of_generic e × (is_last_interface e ≡ true))

one-read : (cell : Cell) (x : Sited Iface) (last : Option (Sited Iface)) → IsInterfaceTogether x.declaration (option_map (λ e. e.declaration) last) → IfSome last (λ e. e.site ≡ x.site)
    → IfSome last (λ e. IfaceFree cell asked_of_generic e × (is_last_interface e ≡ true)) → ReadFree cell x
one-read cell x None together site free = cc
one-read cell x (Some e) together site free = same-read cell x e site (same_Some e.declaration.parts x.declaration.parts together) free.0 free.1

firsts : {A : Type 0} (P : A → Type 0) (last : A → Bool) (xs : List A) → AllByRecursion (λ x. P x.0) (beside_lasts last xs) → AllByRecursion P xs
firsts P last [] all = tt
firsts P last (x ∷ xs) all = (all.0, firsts P last xs all.1)

pub generics-read : (cell : Cell) → AreInterfaceTogether cell.entity.generics → NamesFree cell → AllByRecursion (ReadFree cell) (sited_interface cell.entity.generics)
generics-read cell together free =
    firsts (ReadFree cell) is_last_interface (sited_interface cell.entity.generics)
    (weaker (λ x. IsInterfaceTogether x.0.declaration (option_map (λ e. e.declaration) x.1) × (SameSite x × LastRead cell x)) (λ x. ReadFree cell x.0)
    (λ x has. one-read cell x.0 x.1 has.0 has.1.0 has.1.1) (beside_lasts is_last_interface (sited_interface cell.entity.generics))
    (all-both (λ x. IsInterfaceTogether x.0.declaration (option_map (λ e. e.declaration) x.1)) (λ x. SameSite x × LastRead cell x) (beside_lasts is_last_interface (sited_interface cell.entity.generics))
    (beside-sited IsInterfaceTogether (λ i. i.identifier.place) (λ i. i.is_last) Entity None cell.entity.generics
    (alike-beside (λ i. i.is_last) (λ i. i.parts) cell.entity.generics together))
    (all-both SameSite (LastRead cell) (beside_lasts is_last_interface (sited_interface cell.entity.generics)) (interface-same cell.entity.generics)
    (lasts-have (IfaceFree cell asked_of_generic) is_last_interface (sited_interface cell.entity.generics) (generics-free cell free)))))
