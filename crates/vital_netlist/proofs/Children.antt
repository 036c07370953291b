-- The instances in a netlist unit are made of its statements.
use Rattle.std.proofs.Common.{◌≡◌, ℕ, List, [], ◌∷◌, ◌++◌, refl, subst}
use Rattle.std.specs.Prelude.{⊤, Option, Some, None, Result, Ok, Err}
use Rattle.std.specs.List.{AllByRecursion, slice_get}
use Rattle.std.specs.Option.{option_map_or}
use Rattle.vital_associations.specs.Associations.{Association}
use Rattle.vital_associations.specs.PortMaps.{AssociationFault, associated}
use Rattle.vital_instances.specs.Children.{Child, child_by, child_in, child_of_entity, child_with, children, children_behind, ports_of, unit_identifier, unless_fault, without_generics}
use Rattle.vital_instances.specs.Contents.{children_at, contents, contents_as, or_none}
use Rattle.vital_instances.specs.Faults.{Fault, followed}
use Rattle.vital_instances.specs.Units.{Unit, net_unit_of, unit_at}
use Rattle.vital_library.specs.Numbers.{number_named}
use Rattle.vital_nodes.specs.declared.expr.Item.{Item}
use Rattle.vital_nodes.specs.declared.identifier.Identifier.{Identifier}
use Rattle.vital_nodes.specs.declared.stmt.Instance.{Instance}
use Rattle.vital_nodes.specs.declared.unit.Role.{Role}
use Rattle.vital_nodes.specs.declared.unit.Role.TheVariants.{Lib, Net}
use Rattle.vital_nodes.specs.declared.unit.Units.{Units}
use Rattle.vital_structure.specs.Faults.{UnitFault}
use Rattle.vital_structure.specs.Signals.{UnitSignal}
use Rattle.vital_structure.specs.Statements.{Statement}
use Rattle.vital_structure.specs.Statements as statement
use Rattle.vital_structure.specs.Structures.{fault_in, signals_of, statements_of}
use Rattle.vital_netlist.proofs.Lists.{each-append, each-get}

-- the label of a statement is such a one, if it is an instance
abbrev pub HasLabel : (Identifier → Type 0) → Statement → Type 0
HasLabel P (statement.Instance i) = P i.label
HasLabel P (statement.NotStructural place) = ⊤

pub record IsMade (files : List Units) (signals : List UnitSignal) (P : Identifier → Type 0) (c : Child) : Type 0 where
  pub items : List Item
  pub made : associated (ports_of files c.entity) signals items ≡ Ok c.associations
  pub label : P c.label

followed-good : {A B : Type 0} (r : Result A Fault) (next : A → Result B Fault) (y : B) → followed r next ≡ Ok y → (x : A) × (r ≡ Ok x) × (next x ≡ Ok y)
followed-good (Ok x) next y is = (x, refl, is)
followed-good (Err f) next y is = absurd (cc)

module _ (files : List Units) (signals : List UnitSignal) (P : Identifier → Type 0) where
  made-by : (i : Instance) (n : ℕ) (c : Child) (r : Result (List Association) AssociationFault) → associated (ports_of files n) signals i.ports ≡ r → P i.label → child_by i n r ≡ Ok c → IsMade files signals P c
  made-by i n c (Ok found) is label e =
      let child : Child = record { label = i.label; name = unit_identifier i.unit; entity = n; associations = found } in
      let same : child ≡ c = cc in
      let made : IsMade files signals P child = record { items = i.ports; made = is; label = label } in
      subst (IsMade files signals P) same made
  made-by i n c (Err f) is label e = absurd (cc)

  made-with : (i : Instance) (n : ℕ) (c : Child) (gs : List Item) → P i.label → without_generics gs (unit_identifier i.unit) (child_with i n (ports_of files n) signals) ≡ Ok c → IsMade files signals P c
  made-with i n c [] label e = made-by i n c (associated (ports_of files n) signals i.ports) refl label e
  made-with i n c (g ∷ others) label e = absurd (cc)

  made-entity : (i : Instance) (c : Child) (o : Option ℕ) → P i.label → child_of_entity files signals i o ≡ Ok c → IsMade files signals P c
  made-entity i c None label e = absurd (cc)
  made-entity i c (Some n) label e = made-with i n c i.generics label e

  made-in : (s : Statement) (c : Child) → HasLabel P s → child_in files signals s ≡ Ok c → IsMade files signals P c
  made-in (statement.Instance i) c label e = made-entity i c (number_named (unit_identifier i.unit).name files) label e
  made-in (statement.NotStructural place) c label e = absurd (cc)

  each-behind : (earlier : List Child) (ss : List Statement) (cs : List Child) → AllByRecursion (IsMade files signals P) earlier → AllByRecursion (HasLabel P) ss → children_behind files signals earlier ss ≡ Ok cs → AllByRecursion (IsMade files signals P) cs
  each-behind earlier [] cs made labels e = let same : earlier ≡ cs = cc in subst (AllByRecursion (IsMade files signals P)) same made
  each-behind earlier (s ∷ others) cs made labels e =
      let parts = followed-good (child_in files signals s) (λ c. children_behind files signals (earlier ++ c ∷ []) others) cs e in
      each-behind (earlier ++ parts.0 ∷ []) others cs
      (each-append (IsMade files signals P) earlier (parts.0 ∷ []) made (made-in s parts.0 labels.0 parts.1, tt)) labels.1 parts.2

-- ---- an instance in the entity of a number, which is a netlist unit without a fault

pub record HasChild (files : List Units) (P : Identifier → Type 0) (n : ℕ) (c : Child) : Type 0 where
  pub unit : Unit
  pub there : unit_at files n ≡ Some unit
  pub net : unit.role ≡ Net
  pub good : fault_in (net_unit_of unit) ≡ None
  pub child : IsMade files (signals_of (net_unit_of unit)) P c

unless-none : (o : Option UnitFault) (r : Result (List Child) Fault) (cs : List Child) → unless_fault o r ≡ Ok cs → (o ≡ None) × (r ≡ Ok cs)
unless-none None r cs e = (refl, e)
unless-none (Some f) r cs e = absurd (cc)

abbrev HaveLabels : List Units → (Identifier → Type 0) → ℕ → Type 0
HaveLabels files P n = (u : Unit) → unit_at files n ≡ Some u → u.role ≡ Net → AllByRecursion (HasLabel P) (statements_of (net_unit_of u))

by-result : (files : List Units) (P : Identifier → Type 0) (n k : ℕ) (c : Child) (u : Unit) (r : Result (List Child) Fault) → HaveLabels files P n → unit_at files n ≡ Some u → u.role ≡ Net → children files (net_unit_of u) ≡ r → slice_get (or_none r) k ≡ Some c → HasChild files P n c
by-result files P n k c u (Ok cs) labels there net is at =
    let ss = signals_of (net_unit_of u) in
    let parts = unless-none (fault_in (net_unit_of u)) (children_behind files ss [] (statements_of (net_unit_of u))) cs is in
    record {
      unit = u;
      there = there;
      net = net;
      good = parts.0;
      child = each-get (IsMade files ss P) cs k c (each-behind files ss P [] (statements_of (net_unit_of u)) cs tt (labels u there net) parts.1) at;
    }
by-result files P n k c u (Err f) labels there net is at = absurd (cc)

by-role : (files : List Units) (P : Identifier → Type 0) (n k : ℕ) (c : Child) (u : Unit) (r : Role) → HaveLabels files P n → unit_at files n ≡ Some u → u.role ≡ r → slice_get (or_none (contents_as files u r)) k ≡ Some c → HasChild files P n c
by-role files P n k c u Lib labels there role at = absurd (cc)
by-role files P n k c u Net labels there role at = by-result files P n k c u (children files (net_unit_of u)) labels there role refl at

by-unit : (files : List Units) (P : Identifier → Type 0) (n k : ℕ) (c : Child) (o : Option Unit) → HaveLabels files P n → unit_at files n ≡ o → slice_get (or_none (option_map_or (contents files) o (Ok []))) k ≡ Some c → HasChild files P n c
by-unit files P n k c None labels there at = absurd (cc)
by-unit files P n k c (Some u) labels there at = by-role files P n k c u u.role labels there refl at

pub child-made : (files : List Units) (P : Identifier → Type 0) (n k : ℕ) (c : Child) → HaveLabels files P n → slice_get (children_at files n) k ≡ Some c → HasChild files P n c
child-made files P n k c labels at = by-unit files P n k c (unit_at files n) labels refl at

-- any labels will do
pub any-label : (ss : List Statement) → AllByRecursion (HasLabel (λ i. ⊤)) ss
any-label ss = all-labels ss
  where
    one-label : (s : Statement) → HasLabel (λ i. ⊤) s
    one-label (statement.Instance i) = tt
    one-label (statement.NotStructural place) = tt

    all-labels : (ss : List Statement) → AllByRecursion (HasLabel (λ i. ⊤)) ss
    all-labels [] = tt
    all-labels (s ∷ ss) = (one-label s, all-labels ss)
