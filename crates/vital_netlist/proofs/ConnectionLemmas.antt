-- What the bits of the ports of an instance are associated with, by what is kept.
use Rattle.std.proofs.Common.{◌≡◌, ℕ, ◌+◌, ◌<◌, ◌≤◌, true, false, List, [], ◌∷◌, ◌++◌, length, drop, map, refl, sym, ap, ◌∙◌, arith}
use Rattle.std.specs.Prelude.{All, Bool, cond, not, is_some, IsSome, ◌==◌, filter, Option, Some, None}
use Rattle.std.specs.List.{enumerate_from, slice_get}
use Rattle.std.specs.Option.{option_and_then, option_map_or, option_or}
use Rattle.std.proofs.lemmas.Bool.Decides.{nat_tests}
use Rattle.std.proofs.lemmas.List.Elements.{All-head, All-tail, filter-append}
use Rattle.std.proofs.lemmas.Option.{slice_get_within}
use Rattle.vital_associations.specs.Associations.{Association}
use Rattle.vital_connections.specs.Connections.{Connection, Shapes, connection, connection_by, is_bit}
use Rattle.vital_connections.specs.Connections as connections
use Rattle.vital_connections.specs.Objects.{Object, bits_of_all, shape_at, whole_bits}
use Rattle.vital_connections.specs.Runs.{bits_of_runs}
use Rattle.vital_connections.specs.Spans.{Kept, given}
use Rattle.vital_connections.specs.declared.run.Run.{Run}
use Rattle.vital_instances.specs.declared.instance.Instance.{Instance}
use Rattle.vital_instances.specs.declared.instance.Position.{Position}
use Rattle.vital_instances.specs.Children.{Child}
use Rattle.vital_instances.specs.Contents.{children_at}
use Rattle.vital_instances.specs.Designs.{HasInstance}
use Rattle.vital_instances.specs.Units.{Unit as Unit', unit_at}
use Rattle.vital_library.specs.Units.{entities}
use Rattle.vital_nodes.specs.declared.unit.Units.{Units}
use Rattle.vital_netlist.specs.declared.bit.Bit.{Bit}
use Rattle.vital_netlist.specs.declared.unit.Unit.{Unit}
use Rattle.vital_netlist.specs.Bits.{bit}
use Rattle.vital_netlist.specs.Nets.{bit_in, connection_at, connection_in, connection_of, connection_under, is_own, own_port_bits}
use Rattle.vital_netlist.specs.Netlists.{AreConnections, AreKept, IsKeptOf, IsNetlist, IsUnitOf, kept_at, kept_of, kept_under}
use Rattle.vital_netlist.specs.DesignObjects.{objects_at, port_bits, port_count, ports_at, signal_bits}
use Rattle.vital_netlist.proofs.DesignBitLemmas.{all-pass, same-filter}
use Rattle.vital_netlist.proofs.DesignListLemmas.{all_at, none_some, some_is}
use Rattle.vital_netlist.proofs.DesignUnitLemmas.{unit_within}

-- ---- bits that are own

own-in : (p : Position) (c : Option Connection) → not (is_some (option_and_then (bit_in (Some p)) c)) ≡ connections.is_own c
own-in p None = refl
own-in p (Some connections.Open) = refl
own-in p (Some (connections.Level l)) = refl
own-in p (Some (connections.Bit object offset)) = refl

-- ---- ports that have no association

other-port : (a k port : ℕ) → a < k → k ≤ port → (a == port) ≡ false
other-port a k port lt le = grind (arith, nat_tests)

pub connection_none : (ports signals : Shapes) (k port offset : ℕ) (made : List Association) → All (λ a. a.port < k) made → k ≤ port → connection ports signals port offset made ≡ None
connection_none ports signals k port offset [] all le = refl
connection_none ports signals k port offset (a ∷ others) all le =
    ap (λ b. option_or (cond b (connection-there a) None) (connection ports signals port offset others)) (other-port a.port k port (All-head (λ (b : Association). b.port < k) a others all) le)
    ∙ connection_none ports signals k port offset others (All-tail (λ (b : Association). b.port < k) a others all) le
  where
    connection-there : Association → Option Connection
    connection-there a = option_and_then (connections.bit_of signals a.actual) (connections.place_in (ports port) a.part offset)

row-pass : (p : ℕ × ℕ → Bool) (k : ℕ) (fs : List ℕ) → ((f : ℕ) → p (k, f) ≡ true) → filter p (map (λ f. (k, f)) fs) ≡ map (λ f. (k, f)) fs
row-pass p k [] h = refl
row-pass p k (f ∷ fs) h = ap (λ b. cond b ((k, f) ∷ filter p (map (λ g. (k, g)) fs)) (filter p (map (λ g. (k, g)) fs))) (h f) ∙ ap (λ bs. (k, f) ∷ bs) (row-pass p k fs h)

-- bits of numbers from one on all pass
rows-pass : (p : ℕ × ℕ → Bool) (k : ℕ) (os : List Object) → ((b : ℕ × ℕ) → k ≤ b.0 → p b ≡ true) → filter p (bits_of_all (enumerate_from k os)) ≡ bits_of_all (enumerate_from k os)
rows-pass p k [] h = refl
rows-pass p k (o ∷ os) h =
    filter-append p (whole_bits (k, o)) (bits_of_all (enumerate_from (k + 1) os))
    ∙ ap (λ bs. bs ++ filter p (bits_of_all (enumerate_from (k + 1) os))) (row-pass p k _ (λ f. h (k, f) (omega arith)))
    ∙ ap (λ bs. whole_bits (k, o) ++ bs) (rows-pass p (k + 1) os (λ b le. h b (omega (arith, le))))

none-is : (u : Option Unit') → u ≡ None → IsSome u → ⊥
none-is u e h =
    let some : is_some u ≡ true = h in
    let none : is_some u ≡ false = ap is_some e in
    cc

-- ---- a whole netlist

module _ (files : List Units) (is : List Instance) (units : List (Option Unit)) (kept : List (List Kept)) (good : IsNetlist files is units kept) where
  entity-within : (n : ℕ) (i : Instance) (u : Option Unit') → slice_get is n ≡ Some i → unit_at files i.entity ≡ u → i.entity < length (entities files)
  entity-within n i None at none = absurd (none-is (unit_at files i.entity) none (all_at (λ (j : Instance). IsSome (unit_at files j.entity)) is n i good.there at))
  entity-within n i (Some u) at there = unit_within files i.entity u there

  -- of each instance in an instance its connections are kept
  both : (n : ℕ) (child : ℕ) (ks : List Kept) (k : Option Kept) (c : Option Child) (b : Bit) → AreKept files is n ks → HasInstance is n → slice_get ks child ≡ k → slice_get (children_at files n) child ≡ c → option_and_then (λ k. given k.spans b.object b.offset) k ≡ option_and_then (λ c. connection_in files n c b.object b.offset) c
  both n child ks None None b are found k-is c-is = refl
  both n child ks None (Some c) b are found k-is c-is =
      let lt = slice_get_within (children_at files n) child c c-is in
      absurd (none_some ks child k-is (omega (arith, are.there found, lt)))
  both n child ks (Some k) None b are found k-is c-is =
      let lt = slice_get_within ks child k k-is in
      absurd (none_some (children_at files n) child c-is (omega (arith, are.there found, lt)))
  both n child ks (Some k) (Some c) b are found k-is c-is = (are.right child c k c-is k-is).spans b.object b.offset

  at-list : (n m : ℕ) (i : Instance) (child : ℕ) (ks : Option (List Kept)) (b : Bit) → slice_get is n ≡ Some i → i.entity ≡ m → slice_get kept m ≡ ks → option_and_then (λ k. given k.spans b.object b.offset) (option_and_then (λ ks. slice_get ks child) ks) ≡ option_and_then (λ c. connection_in files m c b.object b.offset) (slice_get (children_at files m) child)
  at-list n m i child None b at same none =
      let lt = entity-within n i (unit_at files i.entity) at refl in
      absurd (none_some kept m none (omega (arith, lt, same, good.has_connections.room)))
  at-list n m i child (Some ks) b at same is-list =
      both m child ks (slice_get ks child) (slice_get (children_at files m) child) b (good.has_connections.each m ks is-list) (n, i, at, same) refl refl

  at-parent : (p : Position) (b : Bit) (parent : Option Instance) → slice_get is p.parent ≡ parent → option_and_then (λ k. given k.spans b.object b.offset) (option_and_then (λ parent. kept_at kept parent.entity p.child) parent) ≡ option_and_then (connection_under files b p.child) parent
  at-parent p b None at = refl
  at-parent p b (Some parent) at = at-list p.parent parent.entity parent p.child (slice_get kept parent.entity) b at refl refl

  at-position : (b : Bit) (p : Option Position) → option_and_then (λ k. given k.spans b.object b.offset) (option_and_then (kept_under is kept) p) ≡ option_and_then (connection_at files is b) p
  at-position b None = refl
  at-position b (Some p) = at-parent p b (slice_get is p.parent) refl

  at-instance : (b : Bit) (o : Option Instance) → option_and_then (λ k. given k.spans b.object b.offset) (option_and_then (kept_under is kept) (option_and_then (λ i. i.position) o)) ≡ option_and_then (λ i. option_and_then (connection_at files is b) i.position) o
  at-instance b None = refl
  at-instance b (Some i) = at-position b i.position

  -- what is kept gives a bit what it is associated with
  pub given_is : (b : Bit) → option_and_then (λ k. given k.spans b.object b.offset) (kept_of is kept b.instance) ≡ connection_of files is b
  given_is b = at-instance b (slice_get is b.instance)

  -- ---- an instance that stands in another one

  record Standing (n : ℕ) (k : Kept) : Type 0 where
    instance : Instance
    at : slice_get is n ≡ Some instance
    position : Position
    here : instance.position ≡ Some position
    parent : Instance
    above : slice_get is position.parent ≡ Some parent
    child : Child
    among : slice_get (children_at files parent.entity) position.child ≡ Some child
    same : child.entity ≡ instance.entity
    right : AreConnections files parent.entity child k

  by-child : (n : ℕ) (k : Kept) (i : Instance) (p : Position) (parent : Instance) → slice_get is n ≡ Some i → i.position ≡ Some p → slice_get is p.parent ≡ Some parent → (ks : Option (List Kept)) → slice_get kept parent.entity ≡ ks → option_and_then (λ ks. slice_get ks p.child) ks ≡ Some k → Standing n k
  by-child n k i p parent at here above None is-list e = absurd (cc)
  by-child n k i p parent at here above (Some ks) is-list e =
      let one = good.children n i p at here in
      let parent-is = some_is (slice_get is p.parent) one.parent parent one.there above in
      let among : slice_get (children_at files parent.entity) p.child ≡ Some one.child = sym (ap (λ (q : Instance). slice_get (children_at files q.entity) p.child) parent-is) ∙ one.here in record {
        instance = i;
        at = at;
        position = p;
        here = here;
        parent = parent;
        above = above;
        child = one.child;
        among = among;
        same = one.same;
        right = (good.has_connections.each parent.entity ks is-list).right p.child one.child k among e;
      }

  by-parent : (n : ℕ) (k : Kept) (i : Instance) (p : Position) → slice_get is n ≡ Some i → i.position ≡ Some p → (o : Option Instance) → slice_get is p.parent ≡ o → option_and_then (λ parent. kept_at kept parent.entity p.child) o ≡ Some k → Standing n k
  by-parent n k i p at here None above e = absurd (cc)
  by-parent n k i p at here (Some parent) above e = by-child n k i p parent at here above (slice_get kept parent.entity) refl e

  by-position : (n : ℕ) (k : Kept) (i : Instance) → slice_get is n ≡ Some i → (p : Option Position) → i.position ≡ p → option_and_then (kept_under is kept) p ≡ Some k → Standing n k
  by-position n k i at None here e = absurd (cc)
  by-position n k i at (Some p) here e = by-parent n k i p at here (slice_get is p.parent) refl e

  by-instance : (n : ℕ) (k : Kept) (o : Option Instance) → slice_get is n ≡ o → option_and_then (kept_under is kept) (option_and_then (λ i. i.position) o) ≡ Some k → Standing n k
  by-instance n k None at e = absurd (cc)
  by-instance n k (Some i) at e = by-position n k i at i.position refl e

  abbrev all-ports : ℕ → List (ℕ × ℕ)
  all-ports n = option_map_or (λ i. port_bits files i.entity) (slice_get is n) []

  no-connection : (b : Bit) (o : Option Instance) → connection_of files is b ≡ None → option_and_then (λ i. option_and_then (bit_in i.position) (connection_of files is b)) o ≡ None
  no-connection b None e = refl
  no-connection b (Some i) e = ap (option_and_then (bit_in i.position)) e

  own-none : (n : ℕ) (b : ℕ × ℕ) → kept_of is kept n ≡ None → is_own files is (bit n b) ≡ true
  own-none n b e =
      let none : connection_of files is (bit n b) ≡ None = sym (given_is (bit n b)) ∙ ap (option_and_then (λ (k : Kept). given k.spans b.0 b.1)) e in
      ap (λ o. not (is_some o)) (no-connection (bit n b) (slice_get is n) none)

  standing-above : (n : ℕ) (k : Kept) (s : Standing n k) (b : ℕ × ℕ) → is_own files is (bit n b) ≡ connections.is_own (connection_of files is (bit n b))
  standing-above n k s b =
      ap (λ o. not (is_some (option_and_then (λ (i : Instance). option_and_then (bit_in i.position) (connection_of files is (bit n b))) o))) s.at
      ∙ ap (λ p. not (is_some (option_and_then (bit_in p) (connection_of files is (bit n b))))) s.here
      ∙ own-in s.position (connection_of files is (bit n b))

  standing-connection : (n : ℕ) (k : Kept) (s : Standing n k) (b : ℕ × ℕ) → connection_of files is (bit n b) ≡ connection_in files s.parent.entity s.child b.0 b.1
  standing-connection n k s b =
      ap (option_and_then (λ (i : Instance). option_and_then (connection_at files is (bit n b)) i.position)) s.at
      ∙ ap (option_and_then (connection_at files is (bit n b))) s.here
      ∙ ap (option_and_then (connection_under files (bit n b) s.position.child)) s.above
      ∙ ap (option_and_then (λ c. connection_in files s.parent.entity c b.0 b.1)) s.among

  standing-own : (n : ℕ) (k : Kept) → Standing n k → k.own ≡ filter (λ b. is_own files is (bit n b)) (all-ports n)
  standing-own n k s =
      s.right.own
      ∙ ap (λ e. filter (λ (b : ℕ × ℕ). connections.is_own (connection_in files s.parent.entity s.child b.0 b.1)) (port_bits files e)) s.same
      ∙ same-filter (λ b. connections.is_own (connection_in files s.parent.entity s.child b.0 b.1)) (λ b. is_own files is (bit n b)) (port_bits files s.instance.entity)
      (λ b. sym (standing-above n k s b ∙ ap connections.is_own (standing-connection n k s b)))
      ∙ ap (λ o. filter (λ b. is_own files is (bit n b)) (option_map_or (λ (i : Instance). port_bits files i.entity) o [])) (sym s.at)

  own-by : (n : ℕ) (k : Option Kept) → kept_of is kept n ≡ k → option_map_or (λ k. k.own) k (all-ports n) ≡ own_port_bits files is n
  own-by n None e = sym (all-pass (λ b. is_own files is (bit n b)) (all-ports n) (λ b. own-none n b e))
  own-by n (Some k) e = standing-own n k (by-instance n k (slice_get is n) refl e)

  pub kept_right : (n : ℕ) (k : Option Kept) → k ≡ kept_of is kept n → IsKeptOf files is n k
  kept_right n k e = record {
    spans = λ port offset. ap (option_and_then (λ (k : Kept). given k.spans port offset)) e ∙ given_is (bit n (port, offset));
    own = own-by n k (sym e);
  }

  -- ---- the bits of signals are own

  behind-ports : (n : ℕ) (i : Instance) (k : Option Kept) (b : ℕ × ℕ) → slice_get is n ≡ Some i → kept_of is kept n ≡ k → port_count files i.entity ≤ b.0 → is_own files is (bit n b) ≡ true
  behind-ports n i None b at e le = own-none n b e
  behind-ports n i (Some k) b at e le =
      let s = by-instance n k (slice_get is n) refl e in
      let i-is = some_is (slice_get is n) s.instance i s.at at in
      let many : port_count files s.child.entity ≡ port_count files i.entity = ap (port_count files) (s.same ∙ ap (λ (j : Instance). j.entity) i-is) in
      let ports = all_at (λ (c : Child). All (λ (a : Association). a.port < port_count files c.entity) c.associations) (children_at files s.parent.entity) s.position.child s.child (good.ports s.parent.entity) s.among in
      let none : connection_in files s.parent.entity s.child b.0 b.1 ≡ None = connection_none (shape_at (ports_at files s.child.entity)) (shape_at (objects_at files s.parent.entity)) (port_count files s.child.entity) b.0 b.1 s.child.associations ports (omega (arith, le, many)) in
      standing-above n k s b ∙ ap connections.is_own (standing-connection n k s b ∙ none)

  pub signals_own : (n : ℕ) (i : Instance) → slice_get is n ≡ Some i → filter (λ b. is_own files is (bit n b)) (signal_bits files i.entity) ≡ signal_bits files i.entity
  signals_own n i at = rows-pass (λ b. is_own files is (bit n b)) (port_count files i.entity) (drop (port_count files i.entity) (objects_at files i.entity)) (λ b le. behind-ports n i (kept_of is kept n) b at refl le)

  own-by-unit : (n : ℕ) (u : Unit) (o : Option Instance) → slice_get is n ≡ o → IsUnitOf files o (Some u) → filter (λ b. is_own files is (bit n b)) (bits_of_runs u.signal_bits.items) ≡ bits_of_runs u.signal_bits.items
  own-by-unit n u None at is-unit = absurd (cc)
  own-by-unit n u (Some i) at is-unit =
      ap (filter (λ b. is_own files is (bit n b))) is-unit.signal_bits
      ∙ signals_own n i at
      ∙ sym is-unit.signal_bits

  -- those that are kept of its unit
  pub own_signals : (n : ℕ) (u : Unit) (runs : List Run) → IsUnitOf files (slice_get is n) (Some u) → runs ≡ u.signal_bits.items → filter (λ b. is_own files is (bit n b)) (bits_of_runs runs) ≡ bits_of_runs runs
  own_signals n u runs is-unit same =
      ap (λ rs. filter (λ b. is_own files is (bit n b)) (bits_of_runs rs)) same
      ∙ own-by-unit n u (slice_get is n) refl is-unit
      ∙ sym (ap bits_of_runs same)
