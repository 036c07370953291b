-- The ports of a unit are what its entity declares.
use Rattle.std.proofs.Common.{◌≡◌, ℕ, zero, suc, List, [], ◌∷◌, ◌++◌, length, take, map, refl, sym, ap, subst, ◌∙◌, append_assoc}
use Rattle.std.specs.Prelude.{true, false, All, is_some, IsSome, Option, Some, None, Ok}
use Rattle.std.specs.List.{filter_map, slice_get}
use Rattle.std.specs.Option.{option_and_then, option_map, option_map_or, option_or}
use Rattle.std.proofs.lemmas.List.Elements.{All-append, All-cons, All-head, All-nil, All-tail, All-take}
use Rattle.vital_associations.specs.Associations.{Association}
use Rattle.vital_associations.specs.Formals as formals
use Rattle.vital_associations.specs.PortMaps.{associated}
use Rattle.vital_connections.specs.Connections.{AreApart, Shapes}
use Rattle.vital_connections.specs.Objects.{Object, object_of_signal, shape_at}
use Rattle.vital_declarations.specs.Types.{DeclaredType, Plain, Vector as VectorOf, type_of}
use Rattle.vital_netlist.specs.Cells.{tree_of}
use Rattle.vital_netlist.specs.CellObjects.{object_of_internal, object_of_port, objects_of_cell}
use Rattle.vital_instances.specs.declared.instance.Instance.{Instance}
use Rattle.vital_instances.specs.Children.{Child, ports_of}
use Rattle.vital_instances.specs.Contents.{children_at, contents_as, contents_at, fault_in}
use Rattle.vital_instances.specs.Designs.{HasGoodCell, HasInstance}
use Rattle.vital_instances.specs.Units.{Unit, cell_of, unit_at}
use Rattle.vital_level1.specs.declared.level.CellLevel.TheVariants.{Level1}
use Rattle.vital_level1.specs.Verdicts.{IsVerdict}
use Rattle.vital_names.specs.Sites.{Cell}
use Rattle.vital_names.specs.declared.predeclared.TypeName.TheVariants as type
use Rattle.vital_nodes.specs.declared.decl.Iface.{Iface}
use Rattle.vital_nodes.specs.declared.expr.Item.{Item}
use Rattle.vital_nodes.specs.declared.unit.Role.{Role}
use Rattle.vital_nodes.specs.declared.unit.Role.TheVariants as role
use Rattle.vital_nodes.specs.declared.unit.Units.{Units}
use Rattle.vital_structure.specs.Contents.{Content, content_of_decl, content_of_port, signal_content, signal_in}
use Rattle.vital_structure.specs.Faults.{UnitFault, first_fault_behind, fault_of, is_declared}
use Rattle.vital_structure.specs.Shapes.{Shape, Scalar, shape_in, shape_of_port}
use Rattle.vital_structure.specs.Signals.{SignalType, UnitSignal, default_in, port_signal, signal_type, signal_with}
use Rattle.vital_logic.specs.declared.level.Level.{Level}
use Rattle.vital_typed_cells.specs.declared.typed_cell.TypedCell.{TypedCell}
use Rattle.vital_objects.specs.declared.package_value.PackageValue.{PackageValue}
use Rattle.vital_objects.specs.declared.port.Port.{Port}
use Rattle.vital_objects.specs.declared.signal.Signal.{Signal}
use Rattle.vital_netlist.specs.Netlists.{AreGood}
use Rattle.vital_netlist.specs.DesignObjects.{objects_as, objects_at, ports_at}
use Rattle.vital_netlist.proofs.ChildLemmas.{IsMade, children_made}
use Rattle.vital_netlist.proofs.DesignListLemmas.{all_at}
use Rattle.vital_netlist.proofs.DesignUnitLemmas.{net_good, objects_are, ports_are}

-- ---- one port of a netlist unit

shape-typed : (d : DeclaredType) (t : SignalType) → signal_type d ≡ Some t → t.shape ≡ shape_in d
shape-typed (Plain type.StdUlogic) t e = sym (ap (λ o. option_map_or (λ (x : SignalType). x.shape) o Scalar) e)
shape-typed (Plain type.StdLogic) t e = sym (ap (λ o. option_map_or (λ (x : SignalType). x.shape) o Scalar) e)
shape-typed (VectorOf r) t e = sym (ap (λ o. option_map_or (λ (x : SignalType). x.shape) o Scalar) e)
shape-typed _ t e = absurd (cc)

abbrev shape-in : Option UnitSignal → Shape
shape-in o = option_map_or (λ (s : UnitSignal). s.shape) o Scalar

by-default : (p : Iface) (t : SignalType) (s : UnitSignal) (o : Option (Option Level)) → option_map (λ level. record { identifier = p.identifier; mode = Some p.parts.mode; shape = t.shape; is_resolved = t.is_resolved; default = level }) o ≡ Some s → s.shape ≡ t.shape
by-default p t s None e = absurd (cc)
by-default p t s (Some level) e = sym (ap shape-in e)

by-type : (p : Iface) (s : UnitSignal) (o : Option SignalType) → signal_type (type_of p.parts.subtype) ≡ o → option_and_then (signal_with p.identifier (Some p.parts.mode) p.parts.default) o ≡ Some s → s.shape ≡ shape_of_port p
by-type p s None is e = absurd (cc)
by-type p s (Some t) is e = by-default p t s (default_in t.shape p.parts.default) e ∙ shape-typed (type_of p.parts.subtype) t is

port-shape : (p : Iface) (s : UnitSignal) → port_signal p ≡ Some s → s.shape ≡ shape_of_port p
port-shape p s e = by-type p s (signal_type (type_of p.parts.subtype)) refl e

-- ---- those of all of it

none-first : (a b : Option UnitFault) → option_or a b ≡ None → b ≡ None
none-first None b e = e
none-first (Some f) b e = absurd (cc)

abbrev objects : List Iface → List Content → List Object
objects ports others = map object_of_signal (filter_map signal_in (map content_of_port ports ++ others))

net-shapes : (ports : List Iface) (others earlier : List Content) (n : ℕ) → first_fault_behind earlier (map content_of_port ports ++ others) ≡ None → formals.shape_at ports n ≡ shape_at (take (length ports) (objects ports others)) n
net-shapes [] others earlier n good = refl
net-shapes (p ∷ ports) others earlier n good = step (port_signal p) refl n good (net-shapes ports others)
  where
    step : (o : Option UnitSignal) → port_signal p ≡ o → (n : ℕ) → first_fault_behind earlier (signal_content p.identifier o ∷ (map content_of_port ports ++ others)) ≡ None → ((before : List Content) (m : ℕ) → first_fault_behind before (map content_of_port ports ++ others) ≡ None → formals.shape_at ports m ≡ shape_at (take (length ports) (objects ports others)) m) → formals.shape_at (p ∷ ports) n ≡ shape_at (take (length (p ∷ ports)) (map object_of_signal (filter_map signal_in (signal_content p.identifier o ∷ (map content_of_port ports ++ others))))) n
    step None is n good rest = absurd (cc)
    step (Some s) is zero good rest = sym (port-shape p s is)
    step (Some s) is (suc n) good rest =
        rest (earlier ++ signal_content p.identifier (Some s) ∷ []) n
        (none-first (fault_of (is_declared earlier) (signal_content p.identifier (Some s))) (first_fault_behind (earlier ++ signal_content p.identifier (Some s) ∷ []) (map content_of_port ports ++ others)) good)

-- ---- those of a cell

scalar-at : (os : List Object) (n : ℕ) → All (λ o. o.shape ≡ Scalar) os → shape_at os n ≡ Scalar
scalar-at [] n all = refl
scalar-at (o ∷ os) zero all = All-head (λ (p : Object). p.shape ≡ Scalar) o os all
scalar-at (o ∷ os) (suc n) all = scalar-at os n (All-tail (λ (p : Object). p.shape ≡ Scalar) o os all)

scalar-ports : (vs : List (Option PackageValue)) (ps : List Port) → All (λ o. o.shape ≡ Scalar) (map (object_of_port vs) ps)
scalar-ports vs [] = All-nil (λ (p : Object). p.shape ≡ Scalar)
scalar-ports vs (p ∷ ps) = All-cons (λ (q : Object). q.shape ≡ Scalar) (object_of_port vs p) (map (object_of_port vs) ps) refl (scalar-ports vs ps)

scalar-signals : (ss : List Signal) → All (λ o. o.shape ≡ Scalar) (map object_of_internal ss)
scalar-signals [] = All-nil (λ (p : Object). p.shape ≡ Scalar)
scalar-signals (s ∷ ss) = All-cons (λ (q : Object). q.shape ≡ Scalar) (object_of_internal s) (map object_of_internal ss) refl (scalar-signals ss)

scalar-cell : (c : TypedCell) (k n : ℕ) → shape_at (take k (objects_of_cell c)) n ≡ Scalar
scalar-cell c k n =
    let P : Object → Type 0 = λ (p : Object). p.shape ≡ Scalar in
    scalar-at (take k (objects_of_cell c)) n
    (All-take P k (objects_of_cell c) (All-append P (map (object_of_port c.packages) c.ports) (map object_of_internal c.signals) (scalar-ports c.packages c.ports) (scalar-signals c.signals)))

scalar-formal : (ps : List Iface) (n : ℕ) → All (λ port. shape_of_port port ≡ Scalar) ps → formals.shape_at ps n ≡ Scalar
scalar-formal [] n all = refl
scalar-formal (p ∷ ps) zero all = All-head (λ (q : Iface). shape_of_port q ≡ Scalar) p ps all
scalar-formal (p ∷ ps) (suc n) all = scalar-formal ps n (All-tail (λ (q : Iface). shape_of_port q ≡ Scalar) p ps all)

-- ---- those of any unit

abbrev pub CellsLaw : Type 0
CellsLaw = (cell : Cell) → IsVerdict cell (Ok Level1) → All (λ port. shape_of_port port ≡ Scalar) cell.entity.ports

by-role : CellsLaw → (files : List Units) (u : Unit) (r : Role) (n : ℕ) → u.role ≡ r → (u.role ≡ role.Lib → IsVerdict (cell_of files u) (Ok Level1)) → fault_in (contents_as files u r) ≡ None → formals.shape_at u.entity.ports n ≡ shape_at (take (length u.entity.ports) (objects_as files u r)) n
by-role law files u role.Lib n is level good =
    scalar-formal u.entity.ports n (law (cell_of files u) (level is)) ∙ sym (scalar-cell (tree_of files u) (length u.entity.ports) n)
by-role law files u role.Net n is level good =
    let ports = map content_of_port u.entity.ports in
    let own = map content_of_decl u.entity.declarations in
    let behind = map content_of_decl u.arch.declarations in
    let same = append_assoc ports own behind in
    net-shapes u.entity.ports (own ++ behind) [] n (sym (ap (first_fault_behind []) same) ∙ net_good files u role.Net refl good)
    ∙ sym (ap (λ cs. shape_at (take (length u.entity.ports) (map object_of_signal (filter_map signal_in cs))) n) same)

by-unit : CellsLaw → (files : List Units) (e n : ℕ) (u : Unit) → unit_at files e ≡ Some u → (u.role ≡ role.Lib → IsVerdict (cell_of files u) (Ok Level1)) → fault_in (contents_at files e) ≡ None → formals.shape_at (ports_of files e) n ≡ shape_at (ports_at files e) n
by-unit law files e n u at level good =
    ap (λ ps. formals.shape_at ps n) (ports_are files e u at)
    ∙ by-role law files u u.role n refl level (sym (ap (λ o. fault_in (option_map_or (λ (v : Unit). contents_as files v v.role) o (Ok []))) at) ∙ good)
    ∙ sym (ap (λ ps. shape_at (take (length ps) (objects_at files e)) n) (ports_are files e u at) ∙ ap (λ os. shape_at (take (length u.entity.ports) os) n) (objects_are files e u at))

no-unit : (o : Option Unit) → o ≡ None → IsSome o → ⊥
no-unit o e h =
    let some : is_some o ≡ true = h in
    let none : is_some o ≡ false = ap is_some e in
    cc

module _ (law : CellsLaw) (files : List Units) (is : List Instance) (good : AreGood files is) where
  same-shapes : (e n : ℕ) → HasInstance is e → formals.shape_at (ports_of files e) n ≡ shape_at (ports_at files e) n
  same-shapes e n found = subst P found.3 (step (unit_at files found.1.entity) refl)
    where
      P : ℕ → Type 0
      P e = formals.shape_at (ports_of files e) n ≡ shape_at (ports_at files e) n

      step : (o : Option Unit) → unit_at files found.1.entity ≡ o → P found.1.entity
      step None at = absurd (no-unit (unit_at files found.1.entity) at (all_at (λ (i : Instance). IsSome (unit_at files i.entity)) is found.0 found.1 good.units found.2))
      step (Some u) at =
          by-unit law files found.1.entity n u at (good-cell u at)
          (all_at (λ (i : Instance). fault_in (contents_at files i.entity) ≡ None) is found.0 found.1 good.contents found.2)
        where
          good-cell : (u : Unit) → unit_at files found.1.entity ≡ Some u → u.role ≡ role.Lib → IsVerdict (cell_of files u) (Ok Level1)
          good-cell u at lib = all_at (HasGoodCell files) is found.0 found.1 good.cells found.2 u at lib

  -- what is in an instance is one
  pub child_found : (n k : ℕ) (c : Child) → HasInstance is n → slice_get (children_at files n) k ≡ Some c → HasInstance is c.entity
  child_found n k c found at = good.all found.0 k found.1 c found.2 (ap (λ e. slice_get (children_at files e) k) found.3 ∙ at)

  -- the associations of an instance in an instance have no bit in common
  pub child_apart : ((ports : List Iface) (signals : List UnitSignal) (items : List Item) (made : List Association) → associated ports signals items ≡ Ok made → AreApart (formals.shape_at ports) made) → (n k : ℕ) (c : Child) → HasInstance is n → slice_get (children_at files n) k ≡ Some c → AreApart (shape_at (ports_at files c.entity)) c.associations
  child_apart apart n k c found at =
      let made = all_at (IsMade files) (children_at files n) k c (children_made files n) at in
      let there = child_found n k c found at in
      let P : Shapes → Type 0 = λ s. AreApart s c.associations in
      subst P (λ i m. same-shapes c.entity m there i) (apart (ports_of files c.entity) made.signals made.items c.associations made.made)
