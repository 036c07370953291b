-- The instances in a unit are made of good associations.
use Rattle.std.proofs.Common.{◌≡◌, ℕ, List, [], ◌∷◌, ◌++◌, refl, subst}
use Rattle.std.specs.Prelude.{◌<◌, All, length, Option, Some, None, Result, Ok, Err}
use Rattle.std.specs.Option.{option_map_or}
use Rattle.std.proofs.lemmas.List.Elements.{All-nil, All-push, All-weaker}
use Rattle.vital_associations.specs.Associations.{Association}
use Rattle.vital_associations.specs.PortMaps.{AssociationFault, associated}
use Rattle.vital_instances.specs.Children.{Child, child_by, child_in, child_of_entity, children_behind, ports_of, unit_identifier, unless_fault, without_generics}
use Rattle.vital_instances.specs.Contents.{children_at, contents, contents_as, or_none}
use Rattle.vital_instances.specs.Faults.{Fault, followed}
use Rattle.vital_instances.specs.Units.{Unit, net_unit_of, unit_at}
use Rattle.vital_library.specs.Numbers.{number_named}
use Rattle.vital_nodes.specs.declared.decl.Iface.{Iface}
use Rattle.vital_nodes.specs.declared.expr.Item.{Item}
use Rattle.vital_nodes.specs.declared.identifier.Identifier.{Identifier}
use Rattle.vital_nodes.specs.declared.stmt.Instance.{Instance}
use Rattle.vital_nodes.specs.declared.unit.Role.{Role}
use Rattle.vital_nodes.specs.declared.unit.Role.TheVariants as role
use Rattle.vital_nodes.specs.declared.unit.Units.{Units}
use Rattle.vital_structure.specs.Faults.{UnitFault}
use Rattle.vital_structure.specs.Signals.{UnitSignal}
use Rattle.vital_structure.specs.Statements.{Statement}
use Rattle.vital_structure.specs.Statements as statement
use Rattle.vital_structure.specs.Structures.{fault_in, signals_of, statements_of}

-- its associations are those of some items to its ports
pub record IsMade (files : List Units) (c : Child) : Type 0 where
  pub signals : List UnitSignal
  pub items : List Item
  pub made : associated (ports_of files c.entity) signals items ≡ Ok c.associations

module _ (files : List Units) (signals : List UnitSignal) where
  by-associations : (i : Instance) (n : ℕ) (r : Result (List Association) AssociationFault) (c : Child) → associated (ports_of files n) signals i.ports ≡ r → child_by i n r ≡ Ok c → IsMade files c
  by-associations i n (Err f) c is e = absurd (cc)
  by-associations i n (Ok found) c is e =
      let whole : Child = record { label = i.label; name = unit_identifier i.unit; entity = n; associations = found } in
      let same : whole ≡ c = cc in
      subst (IsMade files) same (record { signals = signals; items = i.ports; made = is })

  by-generics : (i : Instance) (n : ℕ) (gs : List Item) (name : Identifier) (c : Child) → without_generics gs name (child_by i n (associated (ports_of files n) signals i.ports)) ≡ Ok c → IsMade files c
  by-generics i n [] name c e = by-associations i n (associated (ports_of files n) signals i.ports) c refl e
  by-generics i n (g ∷ others) name c e = absurd (cc)

  by-number : (i : Instance) (o : Option ℕ) (c : Child) → child_of_entity files signals i o ≡ Ok c → IsMade files c
  by-number i None c e = absurd (cc)
  by-number i (Some n) c e = by-generics i n i.generics (unit_identifier i.unit) c e

  by-statement : (s : Statement) (c : Child) → child_in files signals s ≡ Ok c → IsMade files c
  by-statement (statement.Instance i) c e = by-number i (number_named (unit_identifier i.unit).name files) c e
  by-statement (statement.NotStructural place) c e = absurd (cc)

  by-statements : (earlier : List Child) (ss : List Statement) → All (IsMade files) earlier → All (IsMade files) (or_none (children_behind files signals earlier ss))
  by-statements earlier [] all = all
  by-statements earlier (s ∷ others) all = step (child_in files signals s) refl (λ c made. by-statements (earlier ++ c ∷ []) others (All-push (IsMade files) earlier c all made))
    where
      step : (r : Result Child Fault) → child_in files signals s ≡ r → ((c : Child) → IsMade files c → All (IsMade files) (or_none (children_behind files signals (earlier ++ c ∷ []) others))) → All (IsMade files) (or_none (followed r (λ c. children_behind files signals (earlier ++ c ∷ []) others)))
      step (Err f) is next = All-nil (IsMade files)
      step (Ok c) is next = next c (by-statement s c is)

by-fault : (files : List Units) (o : Option UnitFault) (r : Result (List Child) Fault) → All (IsMade files) (or_none r) → All (IsMade files) (or_none (unless_fault o r))
by-fault files None r all = all
by-fault files (Some f) r all = All-nil (IsMade files)

by-role : (files : List Units) (u : Unit) (r : Role) → All (IsMade files) (or_none (contents_as files u r))
by-role files u role.Lib = All-nil (IsMade files)
by-role files u role.Net =
    let v = net_unit_of u in
    by-fault files (fault_in v) (children_behind files (signals_of v) [] (statements_of v)) (by-statements files (signals_of v) [] (statements_of v) (All-nil (IsMade files)))

by-unit : (files : List Units) (o : Option Unit) → All (IsMade files) (or_none (option_map_or (contents files) o (Ok [])))
by-unit files None = All-nil (IsMade files)
by-unit files (Some u) = by-role files u u.role

pub children_made : (files : List Units) (n : ℕ) → All (IsMade files) (children_at files n)
children_made files n = by-unit files (unit_at files n)

abbrev pub PortsLaw : Type 0
PortsLaw = (formals : List Iface) (signals : List UnitSignal) (items : List Item) (made : List Association) → associated formals signals items ≡ Ok made → All (λ a. a.port < length formals) made

-- their associations are of their own ports
pub of_ports : PortsLaw → (files : List Units) (n : ℕ) → All (λ c. All (λ a. a.port < length (ports_of files c.entity)) c.associations) (children_at files n)
of_ports law files n =
    All-weaker (IsMade files) (λ (c : Child). All (λ (a : Association). a.port < length (ports_of files c.entity)) c.associations)
    (λ c is. law (ports_of files c.entity) is.signals is.items c.associations is.made) (children_at files n) (children_made files n)
