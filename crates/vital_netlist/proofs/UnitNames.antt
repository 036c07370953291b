-- The names of the ports, signals and instances of units that were read.
use Rattle.std.proofs.Common.{◌≡◌, ℕ, List, [], ◌∷◌, ◌++◌, map, false, refl, sym, ap, subst, ◌∙◌, append_assoc}
use Rattle.std.specs.Prelude.{All, IsSome, Option, Some, None, Ok}
use Rattle.std.specs.List.{AllByRecursion, AllZip, IsDistinct, cons_option, slice_get}
use Rattle.std.specs.Str.{bytes_eq}
use Rattle.std.proofs.lemmas.List.{map-append}
use Rattle.std.proofs.lemmas.List.Elements.{filter_map-append, recursion_from_All}
use Rattle.std.proofs.lemmas.Map.Keys.{IsDistinct-head, IsDistinct-tail}
use Rattle.vital_as_read.specs.AsRead.{IsAsRead, IsNamed}
use Rattle.vital_as_read.specs.Libraries.{IsCellOfLibrary, IsFromText}
use Rattle.vital_connections.specs.Objects.{Object, object_of_signal}
use Rattle.vital_netlist.specs.Cells.{tree_of}
use Rattle.vital_netlist.specs.CellObjects.{object_of_internal, object_of_port, objects_of_cell}
use Rattle.vital_netlist.proofs.CellUnitLemmas.{of-library}
use Rattle.vital_instances.specs.declared.instance.Instance.{Instance}
use Rattle.vital_instances.specs.Units.{Unit, cell_of, net_unit_of, unit_at}
use Rattle.vital_level1.specs.declared.level.CellLevel.TheVariants.{Level1}
use Rattle.vital_level1.specs.Verdicts.{IsVerdict}
use Rattle.vital_names.specs.Declarations.{Port as DeclaredPort, Generic, declared_in, interface_of}
use Rattle.vital_names.specs.Sites.{Cell}
use Rattle.vital_netlist.specs.DesignObjects.{objects_at}
use Rattle.vital_nodes.specs.IdentifierNames.{IsIdentifierName}
use Rattle.vital_nodes.specs.Layers.{ConcLayer}
use Rattle.vital_nodes.specs.declared.decl.Decl.{Decl}
use Rattle.vital_nodes.specs.declared.decl.Decl.TheVariants as decl
use Rattle.vital_nodes.specs.declared.decl.Iface.{Iface}
use Rattle.vital_nodes.specs.declared.decl.Object.{Object as Object'}
use Rattle.vital_nodes.specs.declared.decl.ObjectClass.{ObjectClass}
use Rattle.vital_nodes.specs.declared.decl.ObjectClass.TheVariants as class
use Rattle.vital_nodes.specs.declared.identifier.Identifier.{Identifier}
use Rattle.vital_nodes.specs.declared.stmt.Conc.{Conc}
use Rattle.vital_nodes.specs.declared.stmt.Conc.TheOpen.{Conc-F}
use Rattle.vital_nodes.specs.declared.stmt.Conc.TheViews.{out-Conc}
use Rattle.vital_nodes.specs.declared.unit.Role.{Role}
use Rattle.vital_nodes.specs.declared.unit.Role.TheVariants.{Lib, Net}
use Rattle.vital_nodes.specs.declared.unit.Units.{Units}
use Rattle.vital_objects.specs.declared.package_value.PackageValue.{PackageValue}
use Rattle.vital_objects.specs.declared.port.Port.{Port}
use Rattle.vital_typed_cells.specs.Sound.{IsSound}
use Rattle.vital_typed_cells.proofs.Apart.{AreApart}
use Rattle.vital_typed_cells.specs.TreeNames.{names_of_cell}
use Rattle.vital_structure.specs.Contents.{content_of_decl, content_of_object, content_of_port, contents, signal_content, signal_in, signals_in}
use Rattle.vital_structure.specs.Signals.{UnitSignal, object_signal}
use Rattle.vital_structure.specs.Statements.{statement_in, statement_of}
use Rattle.vital_structure.specs.Structures.{fault_in, signals_of, statements_of}
use Rattle.vital_typed_cells.specs.declared.typed_cell.TypedCell.{TypedCell}
use Rattle.vital_typed_cells.specs.Typed.{typed}
use Rattle.vital_netlist.proofs.Children.{HasLabel}
use Rattle.vital_netlist.proofs.LabelsRead.{label_in, labels}
use Rattle.vital_netlist.proofs.Lists.{each-append, each-left, each-map, each-right, each-unmap, each-weaker}
use Rattle.vital_netlist.proofs.NamesRead.{IsFormed, arch-formed, entity-formed}
use Rattle.vital_netlist.proofs.NetObjects.{IsGood, IsSignalOf, names, names-apart, no-faults, port-signals, signal-kept}
use Rattle.vital_netlist.proofs.UnitFacts.{Known, cell-good, cell-objects, net-good, net-objects, unit-there}

-- what the laws below say of the units of files that were read
pub record Read (files : List Units) : Type 0 where
  pub texts : All IsFromText files
  pub as_read : (cell : Cell) → All IsFromText cell.files → IsCellOfLibrary cell → IsAsRead cell
  pub sound : (cell : Cell) → IsAsRead cell → IsVerdict cell (Ok Level1) → IsSound (typed cell)

-- ports and then signals, and the names of the ports differ
pub record HasPorts (os : List Object) : Type 0 where
  pub ports : List Object
  pub signals : List Object
  pub are : os ≡ ports ++ signals
  pub are_ports : AllByRecursion (λ (o : Object). IsSome o.mode) ports
  pub are_signals : AllByRecursion (λ (o : Object). o.mode ≡ None) signals
  pub apart : AreApart bytes_eq (map (λ (o : Object). o.name) ports)

abbrev pub IsObjectFormed : Object → Type 0
IsObjectFormed o = IsIdentifierName o.name

each-any : {A : Type 0} (P : A → Type 0) → ((x : A) → P x) → (xs : List A) → AllByRecursion P xs
each-any P all [] = tt
each-any P all (x ∷ xs) = (all x, each-any P all xs)

apart-left : (xs ys : List (List ℕ)) → AreApart bytes_eq (xs ++ ys) → AreApart bytes_eq xs
apart-left [] ys apart = tt
apart-left (x ∷ xs) ys apart = (each-left (λ y. bytes_eq x y ≡ false) xs ys apart.0, apart-left xs ys apart.1)

apart-from : (xs : List (List ℕ)) → IsDistinct bytes_eq xs → AreApart bytes_eq xs
apart-from [] distinct = tt
apart-from (x ∷ xs) distinct = (IsDistinct-head bytes_eq x xs distinct, apart-from xs (IsDistinct-tail bytes_eq x xs distinct))

-- ---- cells

port-names : (vs : List (Option PackageValue)) (ps : List Port) → map (λ (o : Object). o.name) (map (object_of_port vs) ps) ≡ map (λ p. p.name) ps
port-names vs [] = refl
port-names vs (p ∷ ps) = ap (λ ns. p.name ∷ ns) (port-names vs ps)

cell-ports : (c : TypedCell) → IsSound c → HasPorts (objects_of_cell c)
cell-ports c sound =
    let ps = map (λ p. p.name) c.ports in
    let ts = map (λ g. g.name) c.generics in
    let gs = map (λ g. g.name) c.plain_generics in
    let ss = map (λ s. s.name) c.signals in
    let ks = map (λ k. k.name) c.constants in
    let first = apart-left (((ps ++ ts) ++ gs) ++ ss) ks (apart-from (names_of_cell c) sound.names_differ) in
    record {
      ports = map (object_of_port c.packages) c.ports;
      signals = map object_of_internal c.signals;
      are = refl;
      are_ports = each-map (λ (o : Object). IsSome o.mode) (object_of_port c.packages) c.ports (each-any (λ p. IsSome (Some p.mode)) (λ p. refl) c.ports);
      are_signals = each-map (λ (o : Object). o.mode ≡ None) object_of_internal c.signals (each-any (λ s. (object_of_internal s).mode ≡ None) (λ s. refl) c.signals);
      apart = subst (λ (ns : List (List ℕ)). AreApart bytes_eq ns) (sym (port-names c.packages c.ports))
          (apart-left ps ts (apart-left (ps ++ ts) gs (apart-left ((ps ++ ts) ++ gs) ss first)));
    }

cell-formed : (c : TypedCell) → IsSound c → AllByRecursion IsObjectFormed (objects_of_cell c)
cell-formed c sound =
    let ps = map (λ p. p.name) c.ports in
    let ts = map (λ g. g.name) c.generics in
    let gs = map (λ g. g.name) c.plain_generics in
    let ss = map (λ s. s.name) c.signals in
    let ks = map (λ k. k.name) c.constants in
    let first = each-left IsIdentifierName (((ps ++ ts) ++ gs) ++ ss) ks (recursion_from_All IsIdentifierName (names_of_cell c) sound.names_formed) in
    let before = each-left IsIdentifierName ((ps ++ ts) ++ gs) ss first in
    each-append IsObjectFormed (map (object_of_port c.packages) c.ports) (map object_of_internal c.signals)
    (each-map IsObjectFormed (object_of_port c.packages) c.ports (each-unmap IsIdentifierName (λ p. p.name) c.ports (each-left IsIdentifierName ps ts (each-left IsIdentifierName (ps ++ ts) gs before))))
    (each-map IsObjectFormed object_of_internal c.signals (each-unmap IsIdentifierName (λ s. s.name) c.signals (each-right IsIdentifierName ((ps ++ ts) ++ gs) ss first)))

-- ---- netlist units

-- a port, and a signal that is none
abbrev IsPortSignal : UnitSignal → Type 0
IsPortSignal s = IsSome s.mode × IsFormed s.identifier

abbrev IsInternal : UnitSignal → Type 0
IsInternal s = (s.mode ≡ None) × IsFormed s.identifier

ports-kept : (ports : List Iface) (ss : List UnitSignal) → AllZip IsSignalOf ports ss → AllByRecursion (λ p. IsFormed p.identifier) ports → AllByRecursion IsPortSignal ss
ports-kept [] [] each formed = tt
ports-kept [] (s ∷ ss) each formed = absurd each
ports-kept (p ∷ ports) [] each formed = absurd each
ports-kept (p ∷ ports) (s ∷ ss) each formed = (
  (subst IsSome (sym each.0.has_mode) refl, subst IsFormed (sym each.0.named) formed.0),
  ports-kept ports ss each.1 formed.1,
)

with-signal : (o : Object') (x : Option UnitSignal) (rest : List UnitSignal) → object_signal o ≡ x → IsFormed o.identifier → AllByRecursion IsInternal rest → AllByRecursion IsInternal (cons_option (signal_in (signal_content o.identifier x)) rest)
with-signal o None rest is formed all = all
with-signal o (Some s) rest is formed all =
    let kept = signal-kept o.identifier None o.parts.subtype o.parts.value s is in
    ((kept.has_mode, subst IsFormed (sym kept.named) formed), all)

with-object : (o : Object') (k : ObjectClass) (rest : List UnitSignal) → IsFormed o.identifier → AllByRecursion IsInternal rest → AllByRecursion IsInternal (cons_option (signal_in (content_of_object k o)) rest)
with-object o class.Constant rest formed all = all
with-object o class.Signal rest formed all = with-signal o (object_signal o) rest refl formed all
with-object o class.Variable rest formed all = all

internals : (ds : List Decl) → AllByRecursion IsNamed (declared_in ds) → AllByRecursion IsInternal (signals_in (map content_of_decl ds))
internals [] named = tt
internals (decl.Attribute i t ∷ ds) named = internals ds named
internals (decl.Specification s ∷ ds) named = internals ds named
internals (decl.Object o ∷ ds) named = with-object o o.«class» (signals_in (map content_of_decl ds)) named.0 (internals ds named.1)
internals (decl.Alias a ∷ ds) named = internals ds named.1
internals (decl.Component k ∷ ds) named = internals ds named

signal-names : (ss : List UnitSignal) → map (λ (o : Object). o.name) (map object_of_signal ss) ≡ names ss
signal-names [] = refl
signal-names (s ∷ ss) = ap (λ ns. s.identifier.name ∷ ns) (signal-names ss)

record NetParts (u : Unit) : Type 0 where
  pub ports : List UnitSignal
  pub internal : List UnitSignal
  pub are : signals_of (net_unit_of u) ≡ ports ++ internal
  pub are_ports : AllByRecursion IsPortSignal ports
  pub are_internal : AllByRecursion IsInternal internal

net-parts : (files : List Units) (n : ℕ) (u : Unit) → Read files → unit_at files n ≡ Some u → fault_in (net_unit_of u) ≡ None → NetParts u
net-parts files n u read there good =
    let e = u.entity in
    let a = u.arch in
    let rest = map content_of_decl e.declarations ++ map content_of_decl a.declarations in
    let of = of-library files n u there in
    let cell = read.as_read (cell_of files u) read.texts of in
    let formed = entity-formed files e read.texts of.entity in
    let turned = append_assoc (map content_of_port e.ports) (map content_of_decl e.declarations) (map content_of_decl a.declarations) in
    let made = port-signals e.ports rest (subst (AllByRecursion IsGood) turned (no-faults [] (contents e a) good)) in
    let named = each-unmap IsNamed (λ i. DeclaredPort i) e.ports (each-right IsNamed (map (λ i. Generic i) e.generics) (map (λ i. DeclaredPort i) e.ports) (recursion_from_All IsNamed (interface_of e) cell.entity.named)) in
    record {
      ports = made.signals;
      internal = signals_in rest;
      are = ap signals_in turned ∙ made.are;
      are_ports = ports-kept e.ports made.signals made.each named;
      are_internal = subst (AllByRecursion IsInternal) (sym (filter_map-append signal_in (map content_of_decl e.declarations) (map content_of_decl a.declarations)))
          (each-append IsInternal (signals_in (map content_of_decl e.declarations)) (signals_in (map content_of_decl a.declarations))
          (internals e.declarations (recursion_from_All IsNamed (declared_in e.declarations) formed.declared))
          (internals a.declarations (recursion_from_All IsNamed (declared_in a.declarations) cell.arch.named)));
    }

net-ports : (u : Unit) → fault_in (net_unit_of u) ≡ None → NetParts u → HasPorts (map object_of_signal (signals_of (net_unit_of u)))
net-ports u good parts = record {
  ports = map object_of_signal parts.ports;
  signals = map object_of_signal parts.internal;
  are = ap (map object_of_signal) parts.are ∙ map-append object_of_signal parts.ports parts.internal;
  are_ports = each-map (λ (o : Object). IsSome o.mode) object_of_signal parts.ports (each-weaker IsPortSignal (λ s. IsSome s.mode) (λ s is. is.0) parts.ports parts.are_ports);
  are_signals = each-map (λ (o : Object). o.mode ≡ None) object_of_signal parts.internal (each-weaker IsInternal (λ s. s.mode ≡ None) (λ s is. is.0) parts.internal parts.are_internal);
  apart = subst (λ (ns : List (List ℕ)). AreApart bytes_eq ns) (sym (signal-names parts.ports))
      (apart-left (names parts.ports) (names parts.internal)
      (subst (λ (ns : List (List ℕ)). AreApart bytes_eq ns) (ap names parts.are ∙ map-append (λ (s : UnitSignal). s.identifier.name) parts.ports parts.internal)
      (names-apart (contents u.entity u.arch) good)));
}

net-formed : (u : Unit) → NetParts u → AllByRecursion IsObjectFormed (map object_of_signal (signals_of (net_unit_of u)))
net-formed u parts =
    each-map IsObjectFormed object_of_signal (signals_of (net_unit_of u))
    (subst (AllByRecursion (λ (s : UnitSignal). IsFormed s.identifier)) (sym parts.are)
    (each-append (λ (s : UnitSignal). IsFormed s.identifier) parts.ports parts.internal
    (each-weaker IsPortSignal (λ s. IsFormed s.identifier) (λ s is. is.1) parts.ports parts.are_ports)
    (each-weaker IsInternal (λ s. IsFormed s.identifier) (λ s is. is.1) parts.internal parts.are_internal)))

-- ---- instances

module _ (files : List Units) (found : List Instance) (known : Known files found) (read : Read files) where
  pub tree-sound : (n : ℕ) (i : Instance) (u : Unit) → slice_get found n ≡ Some i → unit_at files i.entity ≡ Some u → u.role ≡ Lib → IsSound (tree_of files u)
  tree-sound n i u at there cell =
      read.sound (cell_of files u) (read.as_read (cell_of files u) read.texts (of-library files i.entity u there)) (cell-good files found known n i u at there cell)

  named-by : (n : ℕ) (i : Instance) (u : Unit) (r : Role) → slice_get found n ≡ Some i → unit_at files i.entity ≡ Some u → u.role ≡ r → AllByRecursion IsObjectFormed (objects_at files i.entity) × HasPorts (objects_at files i.entity)
  named-by n i u Lib at there role =
      let sound = tree-sound n i u at there role in
      subst (λ (os : List Object). AllByRecursion IsObjectFormed os × HasPorts os) (sym (cell-objects files i.entity u there role))
      (cell-formed (tree_of files u) sound, cell-ports (tree_of files u) sound)
  named-by n i u Net at there role =
      let good = net-good files found known n i u at there role in
      let parts = net-parts files i.entity u read there good in
      subst (λ (os : List Object). AllByRecursion IsObjectFormed os × HasPorts os) (sym (net-objects files i.entity u there role)) (net-formed u parts, net-ports u good parts)

  -- the ports and signals of an instance
  pub objects-named : (n : ℕ) (i : Instance) → slice_get found n ≡ Some i → AllByRecursion IsObjectFormed (objects_at files i.entity) × HasPorts (objects_at files i.entity)
  objects-named n i at = let u = unit-there files found known n i at in named-by n i u.0 u.0.role at u.1 refl

-- ---- labels

layer-labels : (P : Identifier → Type 0) (l : ConcLayer) (rest : List Identifier) → AllByRecursion P (cons_option (label_in l) rest) → HasLabel P (statement_in l) × AllByRecursion P rest
layer-labels P (Conc-F.Process _ _ _) rest all = (tt, all)
layer-labels P (Conc-F.ComponentInstance _ i) rest all = all
layer-labels P (Conc-F.Instance _ i) rest all = all
layer-labels P (Conc-F.Block _ _ _) rest all = (tt, all)
layer-labels P (Conc-F.Call _ _) rest all = (tt, all)
layer-labels P (Conc-F.SignalAssignment _ _) rest all = (tt, all)

have-labels : (P : Identifier → Type 0) (cs : List Conc) → AllByRecursion P (labels cs) → AllByRecursion (HasLabel P) (map statement_of cs)
have-labels P [] all = tt
have-labels P (c ∷ cs) all = let both = layer-labels P (out-Conc c) (labels cs) all in (both.0, have-labels P cs both.1)

-- the labels of the instances in a unit that was read
pub labels-formed : (files : List Units) → Read files → (n : ℕ) (u : Unit) → unit_at files n ≡ Some u → AllByRecursion (HasLabel IsFormed) (statements_of (net_unit_of u))
labels-formed files read n u there =
    let of = of-library files n u there in
    let entity = entity-formed files u.entity read.texts of.entity in
    let arch = arch-formed files u.entity.identifier.name u.arch read.texts of.arch in
    each-append (HasLabel IsFormed) (map statement_of u.entity.statements) (map statement_of u.arch.statements)
    (have-labels IsFormed u.entity.statements (recursion_from_All IsFormed (labels u.entity.statements) entity.labelled))
    (have-labels IsFormed u.arch.statements (recursion_from_All IsFormed (labels u.arch.statements) arch))

-- and the name of its entity
pub unit-formed : (files : List Units) → Read files → (n : ℕ) (u : Unit) → unit_at files n ≡ Some u → IsFormed u.entity.identifier
unit-formed files read n u there = (entity-formed files u.entity read.texts (of-library files n u there).entity).name
