-- Nets, from one bit to the next.
use Rattle.std.proofs.Common.{◌≡◌, ℕ, zero, suc, ◌<◌, ◌≤◌, List, refl, sym, ap, ◌∙◌, arith}
use Rattle.std.specs.Prelude.{Option, Some, None}
use Rattle.std.specs.List.{slice_get}
use Rattle.std.specs.Option.{option_and_then, option_map_or}
use Rattle.vital_nodes.specs.declared.unit.Units.{Units}
use Rattle.vital_instances.specs.declared.instance.Instance.{Instance}
use Rattle.vital_instances.specs.declared.instance.Position.{Position}
use Rattle.vital_netlist.specs.declared.bit.Bit.{Bit}
use Rattle.vital_connections.specs.Connections.{Connection}
use Rattle.vital_connections.specs.Connections as connections
use Rattle.vital_instances.specs.Designs.{AreBehindParents}
use Rattle.vital_netlist.specs.Nets.{bit_above, bit_in, connection_of, net, net_within}

abbrev instance-of : Option Bit → ℕ
instance-of None = 0
instance-of (Some b) = b.instance

module _ (files : List Units) (is : List Instance) (behind : AreBehindParents is) where
  in-parent : (p : Option Position) (c : Connection) (n : ℕ) (a : Bit) → ((q : Position) → p ≡ Some q → q.parent < n) → bit_in p c ≡ Some a → a.instance < n
  in-parent None c n a before e = absurd (cc)
  in-parent (Some q) connections.Open n a before e = absurd (cc)
  in-parent (Some q) (connections.Level l) n a before e = absurd (cc)
  in-parent (Some q) (connections.Bit object offset) n a before e = let at : q.parent ≡ a.instance = ap instance-of e in omega (arith, before q refl, at)

  by-connection : (i : Instance) (c : Option Connection) (n : ℕ) (a : Bit) → ((q : Position) → i.position ≡ Some q → q.parent < n) → option_and_then (bit_in i.position) c ≡ Some a → a.instance < n
  by-connection i None n a before e = absurd (cc)
  by-connection i (Some c) n a before e = in-parent i.position c n a before e

  by-instance : (b a : Bit) (i : Option Instance) → slice_get is b.instance ≡ i → option_and_then (λ i. option_and_then (bit_in i.position) (connection_of files is b)) i ≡ Some a → a.instance < b.instance
  by-instance b a None there e = absurd (cc)
  by-instance b a (Some i) there e = by-connection i (connection_of files is b) b.instance a (λ q. behind b.instance i q there) e

  -- the bit above stands in an earlier instance
  pub above_before : (b a : Bit) → bit_above files is b ≡ Some a → a.instance < b.instance
  above_before b a e = by-instance b a (slice_get is b.instance) refl e

  within-turn : (k : ℕ) (b : Bit) (above : Option Bit) → bit_above files is b ≡ above → net_within (suc k) files is b ≡ option_map_or (net_within k files is) above b
  within-turn k b above e = ap (λ o. option_map_or (net_within k files is) o b) e

  alone-by : (k : ℕ) (b : Bit) (above : Option Bit) → bit_above files is b ≡ above → b.instance ≤ 0 → net_within (suc k) files is b ≡ b
  alone-by k b None e h = within-turn k b None e
  alone-by k b (Some a) e h = absurd (omega (arith, above_before b a e))

  alone : (k : ℕ) (b : Bit) → b.instance ≤ 0 → net_within (suc k) files is b ≡ b
  alone k b h = alone-by k b (bit_above files is b) refl h

  both : (k m : ℕ) (b : Bit) (above : Option Bit) → bit_above files is b ≡ above → b.instance ≤ suc k → b.instance ≤ suc m → ((a : Bit) → a.instance ≤ k → a.instance ≤ m → net_within k files is a ≡ net_within m files is a) → net_within (suc k) files is b ≡ net_within (suc m) files is b
  both k m b None e h h' same = within-turn k b None e ∙ sym (within-turn m b None e)
  both k m b (Some a) e h h' same =
      let less = above_before b a e in
      within-turn k b (Some a) e ∙ same a (omega (arith, less)) (omega (arith, less)) ∙ sym (within-turn m b (Some a) e)

  -- no more instances stand above than there are before
  enough : (k m : ℕ) (b : Bit) → b.instance ≤ k → b.instance ≤ m → net_within k files is b ≡ net_within m files is b
  enough zero zero b h h' = refl
  enough zero (suc m) b h h' = sym (alone m b h)
  enough (suc k) zero b h h' = alone k b h'
  enough (suc k) (suc m) b h h' = both k m b (bit_above files is b) refl h h' (enough k m)

  net-within : (b : Bit) → net files is b ≡ net_within (suc b.instance) files is b
  net-within b = enough b.instance (suc b.instance) b (omega arith) (omega arith)

  -- a bit that is associated with a bit above has the net of that
  pub net_above : (b a : Bit) → bit_above files is b ≡ Some a → net files is b ≡ net files is a
  net_above b a e =
      let less = above_before b a e in
      net-within b ∙ within-turn b.instance b (Some a) e ∙ enough b.instance a.instance a (omega (arith, less)) (omega arith)

  -- and any other is its own
  pub net_own : (b : Bit) → bit_above files is b ≡ None → net files is b ≡ b
  net_own b e = net-within b ∙ within-turn b.instance b None e

  -- the net of a bit is that of the bit above it, if there is one
  pub net_step : (b : Bit) (above : Option Bit) → above ≡ bit_above files is b → net files is b ≡ option_map_or (net files is) above b
  net_step b None e = net_own b (sym e)
  net_step b (Some a) e = net_above b a (sym e)

-- ---- the bit above, by what a bit is associated with

pub above_none : (files : List Units) (is : List Instance) (b : Bit) → connection_of files is b ≡ None → None ≡ bit_above files is b
above_none files is b e = step (slice_get is b.instance)
  where
    step : (o : Option Instance) → None ≡ option_and_then (λ i. option_and_then (bit_in i.position) (connection_of files is b)) o
    step None = refl
    step (Some i) = sym (ap (option_and_then (bit_in i.position)) e)

none-in : (c : Option Connection) → None ≡ option_and_then (bit_in None) c
none-in None = refl
none-in (Some c) = refl

pub above_alone : (files : List Units) (is : List Instance) (b : Bit) → option_and_then (λ i. i.position) (slice_get is b.instance) ≡ None → None ≡ bit_above files is b
above_alone files is b e = step (slice_get is b.instance) e
  where
    step : (o : Option Instance) → option_and_then (λ i. i.position) o ≡ None → None ≡ option_and_then (λ i. option_and_then (bit_in i.position) (connection_of files is b)) o
    step None e = refl
    step (Some i) e = none-in (connection_of files is b) ∙ sym (ap (λ p. option_and_then (bit_in p) (connection_of files is b)) e)

pub above_some : (files : List Units) (is : List Instance) (b : Bit) (p : Position) (c : Connection) → option_and_then (λ i. i.position) (slice_get is b.instance) ≡ Some p → connection_of files is b ≡ Some c → bit_in (Some p) c ≡ bit_above files is b
above_some files is b p c at e = step (slice_get is b.instance) at
  where
    step : (o : Option Instance) → option_and_then (λ i. i.position) o ≡ Some p → bit_in (Some p) c ≡ option_and_then (λ i. option_and_then (bit_in i.position) (connection_of files is b)) o
    step None at = absurd (cc)
    step (Some i) at = sym (ap (λ q. option_and_then (bit_in q) (connection_of files is b)) at ∙ ap (option_and_then (bit_in (Some p))) e)
