-- The units of the instances of a design: their ports and signals, and the shapes of their ports as formals.
use Rattle.std.proofs.Common.{◌≡◌, ℕ, zero, suc, ◌<◌, List, [], ◌∷◌, ◌++◌, length, map, take, refl, sym, ap, subst, ◌∙◌, append_assoc}
use Rattle.std.specs.Prelude.{All, Option, Some, None, IsSome, Result, Ok}
use Rattle.std.specs.List.{AllByRecursion, slice_get}
use Rattle.std.specs.Option.{option_map_or}
use Rattle.std.proofs.Math.Path.{fun_ext}
use Rattle.std.proofs.lemmas.List.{map-append}
use Rattle.std.proofs.lemmas.List.Elements.{recursion_from_All}
use Rattle.vital_associations.specs.Actuals as actuals
use Rattle.vital_associations.specs.Associations.{Association}
use Rattle.vital_associations.specs.Formals as formals
use Rattle.vital_associations.specs.PortMaps.{associated}
use Rattle.vital_connections.specs.Connections.{connection}
use Rattle.vital_connections.specs.Connections as connections
use Rattle.vital_connections.specs.Objects.{Object, object_of_signal, shape_at}
use Rattle.vital_netlist.specs.Cells.{tree_of}
use Rattle.vital_netlist.specs.CellObjects.{object_of_internal, object_of_port, objects_of_cell}
use Rattle.vital_instances.specs.declared.instance.Instance.{Instance}
use Rattle.vital_instances.specs.Children.{Child, children_behind, ports_of, unless_fault}
use Rattle.vital_instances.specs.Contents.{contents, contents_as, contents_at}
use Rattle.vital_instances.specs.Contents as held
use Rattle.vital_instances.specs.Designs.{AreBehindParents, AreChildren, HaveGoodCells, HaveGoodContents, HaveUnits}
use Rattle.vital_instances.specs.Faults.{Fault}
use Rattle.vital_instances.specs.Units.{Unit, cell_of, last_arch, net_unit_of, unit_at, unit_with}
use Rattle.vital_level1.specs.declared.level.CellLevel.TheVariants.{Level1}
use Rattle.vital_level1.specs.Verdicts.{IsVerdict}
use Rattle.vital_library.specs.Units.{archs_of_entity, entities, roles}
use Rattle.vital_names.specs.Sites.{Cell}
use Rattle.vital_netlist.specs.DesignObjects.{objects_as, objects_at, objects_in, ports_at}
use Rattle.vital_nodes.specs.declared.decl.Iface.{Iface}
use Rattle.vital_nodes.specs.declared.expr.Item.{Item}
use Rattle.vital_nodes.specs.declared.unit.Arch.{Arch}
use Rattle.vital_nodes.specs.declared.unit.Entity.{Entity}
use Rattle.vital_nodes.specs.declared.unit.Role.{Role}
use Rattle.vital_nodes.specs.declared.unit.Role.TheVariants.{Lib, Net}
use Rattle.vital_nodes.specs.declared.unit.Units.{Units}
use Rattle.vital_objects.specs.declared.package_value.PackageValue.{PackageValue}
use Rattle.vital_objects.specs.declared.port.Port.{Port}
use Rattle.vital_objects.specs.declared.signal.Signal.{Signal}
use Rattle.vital_structure.specs.Contents.{content_of_decl, content_of_port, signals_in}
use Rattle.vital_structure.specs.Contents as structure
use Rattle.vital_structure.specs.Faults.{UnitFault}
use Rattle.vital_structure.specs.Shapes.{Scalar, bits_of, shape_of_port}
use Rattle.vital_structure.specs.Signals.{UnitSignal}
use Rattle.vital_structure.specs.Structures.{fault_in, signals_of, statements_of}
use Rattle.vital_typed_cells.specs.declared.typed_cell.TypedCell.{TypedCell}
use Rattle.vital_netlist.proofs.Lists.{each-append, each-get}
use Rattle.vital_netlist.proofs.NetObjects.{IsGood, no-faults, port-signals, ports-shaped}

-- ---- what is known

abbrev IsScalar : Iface → Type 0
IsScalar port = shape_of_port port ≡ Scalar

-- the ports of cells are bits
abbrev pub AreBits : Type 0
AreBits = (cell : Cell) → IsVerdict cell (Ok Level1) → All (λ port. shape_of_port port ≡ Scalar) cell.entity.ports

-- each bit that a bit of a port is associated with is there
abbrev pub AreInside : Type 0
AreInside = (ports : List Iface) (signals : List UnitSignal) (items : List Item) (made : List Association) → associated ports signals items ≡ Ok made → (port bit object offset : ℕ) → connection (formals.shape_at ports) (actuals.shape_at signals) port bit made ≡ Some (connections.Bit object offset) → (object < length signals) × (offset < bits_of (actuals.shape_at signals object))

-- what the laws below say of the instances of a design
pub record Known (files : List Units) (found : List Instance) : Type 0 where
  pub parents : AreBehindParents found
  pub children : AreChildren files found
  pub units : HaveUnits files found
  pub cells : HaveGoodCells files found
  pub contents : HaveGoodContents files found
  pub scalar : AreBits
  pub inside : AreInside

all-get : {A : Type 0} (P : A → Type 0) (xs : List A) (n : ℕ) (x : A) → All P xs → slice_get xs n ≡ Some x → P x
all-get P xs n x all at = each-get P xs n x (recursion_from_All P xs all) at

given : {A : Type 0} (o : Option A) → IsSome o → (x : A) × (o ≡ Some x)
given None is = absurd (cc)
given (Some x) is = (x, refl)

-- ---- units

-- the entity of a number with its architecture is one of the library
parts : (e : Option Entity) (r : Option Role) (a : Option Arch) (u : Unit) → unit_with e r a ≡ Some u → (e ≡ Some u.entity) × (a ≡ Some u.arch)
parts None r a u is = absurd (cc)
parts (Some e) None a u is = absurd (cc)
parts (Some e) (Some r) None u is = absurd (cc)
parts (Some e) (Some r) (Some a) u is =
    let made : Unit = record { entity = e; role = r; arch = a } in
    let same : made ≡ u = cc in
    (ap (λ (v : Unit). Some v.entity) same, ap (λ (v : Unit). Some v.arch) same)

pub unit-parts : (files : List Units) (n : ℕ) (u : Unit) → unit_at files n ≡ Some u → (slice_get (entities files) n ≡ Some u.entity) × (last_arch (archs_of_entity n files) ≡ Some u.arch)
unit-parts files n u at = parts (slice_get (entities files) n) (slice_get (roles files) n) (last_arch (archs_of_entity n files)) u at

pub ports-are : (files : List Units) (n : ℕ) (u : Unit) → unit_at files n ≡ Some u → ports_of files n ≡ u.entity.ports
ports-are files n u at = ap (λ (o : Option Entity). option_map_or (λ (e : Entity). e.ports) o []) (unit-parts files n u at).0

-- the unit of an instance
pub unit-there : (files : List Units) (found : List Instance) → Known files found → (n : ℕ) (i : Instance) → slice_get found n ≡ Some i → (u : Unit) × (unit_at files i.entity ≡ Some u)
unit-there files found known n i at = given (unit_at files i.entity) (all-get (λ j. IsSome (unit_at files j.entity)) found n i known.units at)

pub cell-good : (files : List Units) (found : List Instance) → Known files found → (n : ℕ) (i : Instance) (u : Unit) → slice_get found n ≡ Some i → unit_at files i.entity ≡ Some u → u.role ≡ Lib → IsVerdict (cell_of files u) (Ok Level1)
cell-good files found known n i u at there cell =
    all-get (λ (j : Instance). (v : Unit) → unit_at files j.entity ≡ Some v → v.role ≡ Lib → IsVerdict (cell_of files v) (Ok Level1)) found n i known.cells at u there cell

by-fault : (o : Option UnitFault) (r : Result (List Child) Fault) → held.fault_in (unless_fault o r) ≡ None → o ≡ None
by-fault None r e = refl
by-fault (Some f) r e = absurd (cc)

pub net-good : (files : List Units) (found : List Instance) → Known files found → (n : ℕ) (i : Instance) (u : Unit) → slice_get found n ≡ Some i → unit_at files i.entity ≡ Some u → u.role ≡ Net → fault_in (net_unit_of u) ≡ None
net-good files found known n i u at there net =
    let nu = net_unit_of u in
    let none = all-get (λ (j : Instance). held.fault_in (contents_at files j.entity) ≡ None) found n i known.contents at in
    let is : contents_at files i.entity ≡ contents_as files u Net = ap (λ (o : Option Unit). option_map_or (contents files) o (Ok [])) there ∙ ap (contents_as files u) net in
    by-fault (fault_in nu) (children_behind files (signals_of nu) [] (statements_of nu)) (sym (ap held.fault_in is) ∙ none)

-- ---- their ports and signals

pub net-objects : (files : List Units) (n : ℕ) (u : Unit) → unit_at files n ≡ Some u → u.role ≡ Net → objects_at files n ≡ map object_of_signal (signals_of (net_unit_of u))
net-objects files n u there net = ap (λ (o : Option Unit). option_map_or (objects_in files) o []) there ∙ ap (objects_as files u) net

pub cell-objects : (files : List Units) (n : ℕ) (u : Unit) → unit_at files n ≡ Some u → u.role ≡ Lib → objects_at files n ≡ objects_of_cell (tree_of files u)
cell-objects files n u there cell = ap (λ (o : Option Unit). option_map_or (objects_in files) o []) there ∙ ap (objects_as files u) cell

-- ---- the shapes of ports

ports-bits : (vs : List (Option PackageValue)) (ps : List Port) → AllByRecursion (λ (o : Object). o.shape ≡ Scalar) (map (object_of_port vs) ps)
ports-bits vs [] = tt
ports-bits vs (p ∷ ps) = (refl, ports-bits vs ps)

internals-bits : (ss : List Signal) → AllByRecursion (λ (o : Object). o.shape ≡ Scalar) (map object_of_internal ss)
internals-bits [] = tt
internals-bits (s ∷ ss) = (refl, internals-bits ss)

-- each port and signal of a cell is one bit
pub cell-bits : (c : TypedCell) → AllByRecursion (λ (o : Object). o.shape ≡ Scalar) (objects_of_cell c)
cell-bits c =
    each-append (λ (o : Object). o.shape ≡ Scalar) (map (object_of_port c.packages) c.ports) (map object_of_internal c.signals) (ports-bits c.packages c.ports)
    (internals-bits c.signals)

first-bits : (os : List Object) (k n : ℕ) → AllByRecursion (λ (o : Object). o.shape ≡ Scalar) os → shape_at (take k os) n ≡ Scalar
first-bits os zero n all = refl
first-bits [] (suc k) n all = refl
first-bits (o ∷ os) (suc k) zero all = all.0
first-bits (o ∷ os) (suc k) (suc n) all = first-bits os k n all.1

port-bits : (ports : List Iface) (n : ℕ) → AllByRecursion IsScalar ports → formals.shape_at ports n ≡ Scalar
port-bits [] n all = refl
port-bits (p ∷ ports) zero all = all.0
port-bits (p ∷ ports) (suc n) all = port-bits ports n all.1

by-role : (files : List Units) (found : List Instance) → Known files found → (n : ℕ) (i : Instance) (u : Unit) (r : Role) (k : ℕ) → slice_get found n ≡ Some i → unit_at files i.entity ≡ Some u → u.role ≡ r → shape_at (ports_at files i.entity) k ≡ formals.shape_at (ports_of files i.entity) k
by-role files found known n i u Lib k at there role =
    let ports = u.entity.ports in
    ap (λ (os : List Object). shape_at (take (length (ports_of files i.entity)) os) k) (cell-objects files i.entity u there role)
    ∙ first-bits (objects_of_cell (tree_of files u)) (length (ports_of files i.entity)) k (cell-bits (tree_of files u))
    ∙ sym (port-bits ports k (recursion_from_All IsScalar ports (known.scalar (cell_of files u) (cell-good files found known n i u at there role))))
    ∙ ap (λ (ps : List Iface). formals.shape_at ps k) (sym (ports-are files i.entity u there))
by-role files found known n i u Net k at there role =
    let ports = u.entity.ports in
    let rest = map content_of_decl u.entity.declarations ++ map content_of_decl u.arch.declarations in
    let turned = append_assoc (map content_of_port ports) (map content_of_decl u.entity.declarations) (map content_of_decl u.arch.declarations) in
    let made = port-signals ports rest (subst (AllByRecursion IsGood) turned (no-faults [] (structure.contents u.entity u.arch) (net-good files found known n i u at there role))) in
    ap (λ (os : List Object). shape_at (take (length (ports_of files i.entity)) os) k)
    (net-objects files i.entity u there role ∙ ap (map object_of_signal) (ap signals_in turned ∙ made.are) ∙ map-append object_of_signal made.signals (signals_in rest))
    ∙ ap (λ (ps : List Iface). shape_at (take (length ps) (map object_of_signal made.signals ++ map object_of_signal (signals_in rest))) k) (ports-are files i.entity u there)
    ∙ ports-shaped ports made.signals (map object_of_signal (signals_in rest)) k made.each
    ∙ ap (λ (ps : List Iface). formals.shape_at ps k) (sym (ports-are files i.entity u there))

-- the ports of an instance have the shapes that they have as formals
pub same-shapes : (files : List Units) (found : List Instance) → Known files found → (n : ℕ) (i : Instance) → slice_get found n ≡ Some i → shape_at (ports_at files i.entity) ≡ formals.shape_at (ports_of files i.entity)
same-shapes files found known n i at =
    let u = unit-there files found known n i at in
    fun_ext (λ k. by-role files found known n i u.0 u.0.role k at u.1 refl)
