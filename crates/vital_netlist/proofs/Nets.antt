-- The net of each bit is a bit that is its own net, so that each bit has the number of a signal.
use Rattle.std.proofs.Common.{◌≡◌, ℕ, zero, suc, ◌<◌, ◌≤◌, true, List, [], ◌∷◌, map, length, refl, sym, ap, subst, ◌∙◌, arith}
use Rattle.std.specs.Prelude.{⊤, not, is_some, Option, Some, None}
use Rattle.std.specs.List.{slice_get}
use Rattle.std.specs.Option.{option_and_then, option_map, option_map_or}
use Rattle.std.proofs.Math.Path.{fun_ext}
use Rattle.std.proofs.lemmas.Option.{slice_get-map}
use Rattle.vital_associations.specs.Actuals as actuals
use Rattle.vital_associations.specs.Formals as formals
use Rattle.vital_connections.specs.Connections.{Connection, connection}
use Rattle.vital_connections.specs.Connections as connections
use Rattle.vital_connections.specs.Objects.{Object, object_of_signal, shape_at}
use Rattle.vital_instances.specs.declared.instance.Instance.{Instance}
use Rattle.vital_instances.specs.declared.instance.Position.{Position}
use Rattle.vital_instances.specs.Children.{ports_of}
use Rattle.vital_instances.specs.Designs.{IsChild}
use Rattle.vital_instances.specs.Units.{net_unit_of}
use Rattle.vital_netlist.specs.declared.bit.Bit.{Bit}
use Rattle.vital_netlist.specs.Bits.{bit, bits, is_same}
use Rattle.vital_netlist.specs.Nets.{bit_above, bit_in, connection_at, connection_in, connection_under, is_own, net, net_within, signal_number, signals}
use Rattle.vital_netlist.specs.DesignObjects.{objects_at, ports_at}
use Rattle.vital_nodes.specs.declared.unit.Units.{Units}
use Rattle.vital_structure.specs.Shapes.{Scalar, bits_of}
use Rattle.vital_structure.specs.Signals.{UnitSignal}
use Rattle.vital_structure.specs.Structures.{signals_of}
use Rattle.vital_netlist.proofs.Bits.{IsThere, is-among, same-bit}
use Rattle.vital_netlist.proofs.Children.{any-label, child-made}
use Rattle.vital_netlist.proofs.Lists.{any-filter, found-at}
use Rattle.vital_netlist.proofs.UnitFacts.{Known, net-objects, same-shapes}

-- ---- ports and signals of netlist units

one-shaped : (o : Option UnitSignal) → option_map_or (λ (x : Object). x.shape) (option_map object_of_signal o) Scalar ≡ option_map_or (λ (s : UnitSignal). s.shape) o Scalar
one-shaped None = refl
one-shaped (Some s) = refl

signal-shapes : (ss : List UnitSignal) (n : ℕ) → shape_at (map object_of_signal ss) n ≡ actuals.shape_at ss n
signal-shapes ss n = ap (λ (o : Option Object). option_map_or (λ (x : Object). x.shape) o Scalar) (slice_get-map object_of_signal ss n) ∙ one-shaped (slice_get ss n)

pub within-get : {A : Type 0} (xs : List A) (n : ℕ) → n < length xs → (x : A) × (slice_get xs n ≡ Some x)
within-get [] n below = absurd (omega (arith, below))
within-get (x ∷ xs) zero below = (x, refl)
within-get (x ∷ xs) (suc n) below = within-get xs n (omega (arith, below))

module _ (files : List Units) (found : List Instance) (known : Known files found) where
  -- a bit of a netlist unit
  pub signal-there : (n : ℕ) (i : Instance) (ss : List UnitSignal) (object offset : ℕ) → slice_get found n ≡ Some i → objects_at files i.entity ≡ map object_of_signal ss → object < length ss → offset < bits_of (actuals.shape_at ss object) → IsThere files found (bit n (object, offset))
  signal-there n i ss object offset at are below inside =
      let s = within-get ss object below in
      record {
        owner = i;
        placed = at;
        object = object_of_signal s.0;
        has = ap (λ (os : List Object). slice_get os object) are ∙ slice_get-map object_of_signal ss object ∙ ap (option_map object_of_signal) s.1;
        inside = subst (λ (o : Option UnitSignal). offset < bits_of (option_map_or (λ (x : UnitSignal). x.shape) o Scalar)) s.1 inside;
      }

  -- what a bit is associated with in its parent
  associated-there : (b : Bit) (i : Instance) (at : Position) (child : IsChild files found at i.entity) (object offset : ℕ) → slice_get found b.instance ≡ Some i → connection_at files found b at ≡ Some (connections.Bit object offset) → IsThere files found (bit at.parent (object, offset))
  associated-there b i at child object offset placed e =
      let p = child.parent in
      let c = child.child in
      let has = child-made files (λ x. ⊤) p.entity at.child c (λ u there net. any-label _) child.here in
      let ss = signals_of (net_unit_of has.unit) in
      let are = net-objects files p.entity has.unit has.there has.net in
      let in-parent : connection_in files p.entity c b.object b.offset ≡ Some (connections.Bit object offset) =
      sym (ap (λ (o : Option Instance). option_and_then (connection_under files b at.child) o) child.there ∙ ap (λ o. option_and_then (λ c. connection_in files p.entity c b.object b.offset) o) child.here) ∙ e in
      let ports : shape_at (ports_at files c.entity) ≡ formals.shape_at (ports_of files c.entity) =
      subst (λ (n : ℕ). shape_at (ports_at files n) ≡ formals.shape_at (ports_of files n)) (sym child.same) (same-shapes files found known b.instance i placed) in
      let objects : shape_at (objects_at files p.entity) ≡ actuals.shape_at ss = fun_ext (λ n. ap (λ (os : List Object). shape_at os n) are ∙ signal-shapes ss n) in
      let is : connection (formals.shape_at (ports_of files c.entity)) (actuals.shape_at ss) b.object b.offset c.associations ≡ Some (connections.Bit object offset) =
      sym (ap (λ shapes. connection shapes (shape_at (objects_at files p.entity)) b.object b.offset c.associations) ports ∙ ap (λ shapes. connection (formals.shape_at (ports_of files c.entity)) shapes b.object b.offset c.associations) objects) ∙ in-parent in
      let inside = known.inside (ports_of files c.entity) ss has.child.items c.associations has.child.made b.object b.offset object offset is in
      signal-there at.parent p ss object offset child.there are inside.0 inside.1

  by-connection : (b a : Bit) (i : Instance) (at : Position) (c : Option Connection) → i.position ≡ Some at → slice_get found b.instance ≡ Some i → connection_at files found b at ≡ c → option_and_then (bit_in (Some at)) c ≡ Some a → IsThere files found a × (a.instance < b.instance)
  by-connection b a i at None stands placed is e = absurd (cc)
  by-connection b a i at (Some connections.Open) stands placed is e = absurd (cc)
  by-connection b a i at (Some (connections.Level l)) stands placed is e = absurd (cc)
  by-connection b a i at (Some (connections.Bit object offset)) stands placed is e =
      let same : bit at.parent (object, offset) ≡ a = cc in
      let child = known.children b.instance i at placed stands in (
        subst (IsThere files found) same (associated-there b i at child object offset placed is),
        subst (λ (x : Bit). x.instance < b.instance) same (known.parents b.instance i at placed stands),
      )

  by-position : (b a : Bit) (i : Instance) (p : Option Position) → i.position ≡ p → slice_get found b.instance ≡ Some i → option_and_then (bit_in p) (option_and_then (connection_at files found b) p) ≡ Some a → IsThere files found a × (a.instance < b.instance)
  by-position b a i None stands placed e = absurd (cc)
  by-position b a i (Some at) stands placed e = by-connection b a i at (connection_at files found b at) stands placed refl e

  -- the bit above one that is there is there too, in an earlier instance
  pub above-there : (b a : Bit) → IsThere files found b → bit_above files found b ≡ Some a → IsThere files found a × (a.instance < b.instance)
  above-there b a there e =
      let i = there.owner in
      let is : bit_above files found b ≡ option_and_then (bit_in i.position) (option_and_then (connection_at files found b) i.position) =
      ap (λ (o : Option Instance). option_and_then (λ (j : Instance). option_and_then (bit_in j.position) (option_and_then (λ (k : Instance). option_and_then (connection_at files found b) k.position) o)) o) there.placed in
      by-position b a i i.position refl there.placed (sym is ∙ e)

  -- ---- the net of a bit

  net-there : (k : ℕ) (b : Bit) → b.instance ≤ k → IsThere files found b → IsThere files found (net_within k files found b) × (is_own files found (net_within k files found b) ≡ true)
  net-there zero b few there = (there, alone (bit_above files found b) refl)
    where
      alone : (o : Option Bit) → bit_above files found b ≡ o → is_own files found b ≡ true
      alone None is = ap (λ (o : Option Bit). not (is_some o)) is
      alone (Some a) is = absurd (omega (arith, few, (above-there b a there is).1))
  net-there (suc k) b few there = by-above (bit_above files found b) refl (net-there k)
    where
      by-above : (o : Option Bit) → bit_above files found b ≡ o → ((a : Bit) → a.instance ≤ k → IsThere files found a → IsThere files found (net_within k files found a) × (is_own files found (net_within k files found a) ≡ true)) → IsThere files found (option_map_or (net_within k files found) o b) × (is_own files found (option_map_or (net_within k files found) o b) ≡ true)
      by-above None is rest = (there, ap (λ (o : Option Bit). not (is_some o)) is)
      by-above (Some a) is rest = let above = above-there b a there is in rest a (omega (arith, few, above.1)) above.0

  -- each bit that is there has the number of a signal
  pub numbered : (b : Bit) → IsThere files found b → (n : ℕ) × (signal_number files found b ≡ Some n) × (n < length (signals files found))
  numbered b there =
      let own = net-there b.instance b (omega arith) there in
      let m = net files found b in
      found-at (is_same m) (signals files found)
      (any-filter (is_same m) (is_own files found) (bits files found) (λ x same. ap (is_own files found) (sym (same-bit m x same)) ∙ own.1) (is-among files found m own.0))
