-- The bits of the ports of the top, one port after another.
use Rattle.std.proofs.Common.{◌≡◌, ℕ, ◌+◌, ◌≤◌, true, List, [], ◌∷◌, ◌++◌, length, take, map, refl, sym, ◌∙◌, ap, arith}
use Rattle.std.proofs.lemmas.Bool.Decides.{nat_tests}
use Rattle.std.proofs.lemmas.List.{map-append, take_all}
use Rattle.std.proofs.lemmas.List.Elements.{filter_map-append}
use Rattle.std.proofs.lemmas.List.FromFn.{map-range_with_len_more}
use Rattle.std.specs.Prelude.{nat_lt, slice_get, Option, Some, None}
use Rattle.std.specs.List.{cons_option, enumerate_from, filter_map, flat_map, range_with_len}
use Rattle.std.specs.Option.{option_and_then, option_map_or}
use Rattle.vital_base.specs.declared.ports.PortBit.{PortBit}
use Rattle.vital_nodes.specs.declared.decl.Mode.{Mode}
use Rattle.vital_nodes.specs.declared.unit.Units.{Units}
use Rattle.vital_instances.specs.declared.instance.Instance.{Instance}
use Rattle.vital_connections.specs.declared.object.Object.{Object as Object'}
use Rattle.vital_connections.specs.Objects.{Object, bits_of_all, lent, whole_bits}
use Rattle.vital_structure.specs.Shapes.{bits_of}
use Rattle.vital_netlist.specs.Elaboration.{port_bit, port_bit_in, port_bits}
use Rattle.vital_netlist.specs.Bits.{bit, bits_of_instance, object_of}
use Rattle.vital_netlist.specs.DesignObjects.{objects_at}
use Rattle.vital_netlist.specs.Ports.{bits_as, bits_in, first_bits}
use Rattle.vital_netlist.proofs.ListLemmas.{StandsAt, all-stand, first-stands, others-stand}
use Rattle.vital_nodes.proofs.Lists.{put-two}

-- ---- one bit more

first-more : (o : Object) (m : Mode) (count : ℕ) → first_bits o m (count + 1) ≡ first_bits o m count ++ cons_option (port_bit_in (bit 0 (0, count)) o (Some m)) []
first-more o m count =
    ap (filter_map (λ b. port_bit_in b o (Some m))) (map-range_with_len_more (λ offset. bit 0 (0, offset)) 0 count count (omega arith))
    ∙ filter_map-append (λ b. port_bit_in b o (Some m)) (map (λ offset. bit 0 (0, offset)) (range_with_len 0 count)) (bit 0 (0, count) ∷ [])

pub bits-turn : (o : Object) (m : Mode) (k next : ℕ) (port : PortBit) (first now new : List PortBit) → next ≡ k + 1 → port_bit_in (bit 0 (0, k)) o (Some m) ≡ Some port → now ≡ first ++ first_bits o m k → new ≡ now ++ port ∷ [] → new ≡ first ++ first_bits o m next
bits-turn o m k next port first now new one is before put =
    put-two first (first_bits o m k) (port ∷ []) now new before put
    ∙ ap (λ p. first ++ (first_bits o m k ++ cons_option p [])) (sym is)
    ∙ ap (λ ps. first ++ ps) (sym (first-more o m k))
    ∙ ap (λ n. first ++ first_bits o m n) (sym one)

less-next : (k n : ℕ) → nat_lt k n ≡ true → k + 1 ≤ n
less-next k n less = grind (arith, nat_tests)

pub within-next : (k next count : ℕ) → next ≡ k + 1 → nat_lt k count ≡ true → next ≤ count
within-next k next count one less = omega (arith, less-next k count less)

-- ---- the bits of the top, one port or signal after another

-- Those at these distances from the left, in a mode.
abbrev at_mode : Object → Option Mode → List ℕ → List PortBit
at_mode o mode offsets = filter_map (λ b. port_bit_in b o mode) (map (λ offset. bit 0 (0, offset)) offsets)

none-of-signal : (o : Object) (offsets : List ℕ) → at_mode o None offsets ≡ []
none-of-signal o [] = refl
none-of-signal o (offset ∷ offsets) = none-of-signal o offsets

all-of-port : (o : Object) (mode : Option Mode) → at_mode o mode (range_with_len 0 (bits_of o.shape)) ≡ bits_as o mode
all-of-port o None = none-of-signal o (range_with_len 0 (bits_of o.shape))
all-of-port o (Some m) = refl

-- it does not matter which number the port has
any-number : (o : Object) (mode : Option Mode) (n offset : ℕ) → port_bit_in (bit 0 (n, offset)) o mode ≡ port_bit_in (bit 0 (0, offset)) o mode
any-number o None n offset = refl
any-number o (Some m) n offset = refl

one-port : (files : List Units) (is : List Instance) (n : ℕ) (o : Object) (offsets : List ℕ) → ((offset : ℕ) → object_of files is (bit 0 (n, offset)) ≡ Some o) → filter_map (port_bit files is) (map (bit 0) (map (λ offset. (n, offset)) offsets)) ≡ at_mode o o.mode offsets
one-port files is n o [] here = refl
one-port files is n o (offset ∷ offsets) here =
    ap (λ p. cons_option p (filter_map (port_bit files is) (map (bit 0) (map (λ other. (n, other)) offsets))))
    (ap (option_and_then (λ (q : Object). port_bit_in (bit 0 (n, offset)) q q.mode)) (here offset) ∙ any-number o o.mode n offset)
    ∙ ap (cons_option (port_bit_in (bit 0 (0, offset)) o o.mode)) (one-port files is n o offsets here)

ports-from : (files : List Units) (is : List Instance) (i : Instance) (n : ℕ) (os : List Object) → slice_get is 0 ≡ Some i → StandsAt os (objects_at files i.entity) n → filter_map (port_bit files is) (map (bit 0) (bits_of_all (enumerate_from n os))) ≡ flat_map bits_in os
ports-from files is i n [] at stands = refl
ports-from files is i n (o ∷ os) at stands =
    let whole = whole_bits (n, o) in
    let others = bits_of_all (enumerate_from (n + 1) os) in
    let here = first-stands o os (objects_at files i.entity) n stands in
    ap (filter_map (port_bit files is)) (map-append (bit 0) whole others)
    ∙ filter_map-append (port_bit files is) (map (bit 0) whole) (map (bit 0) others)
    ∙ ap (λ bs. bs ++ filter_map (port_bit files is) (map (bit 0) others))
    (one-port files is n o (range_with_len 0 (bits_of o.shape)) (λ offset. ap (option_and_then (λ (j : Instance). slice_get (objects_at files j.entity) n)) at ∙ here) ∙ all-of-port o o.mode)
    ∙ ap (λ bs. bits_in o ++ bs) (ports-from files is i (n + 1) os at (others-stand o os (objects_at files i.entity) n stands))

ports-by : (files : List Units) (is : List Instance) (top : Option Instance) → slice_get is 0 ≡ top → flat_map bits_in (option_map_or (λ (i : Instance). objects_at files i.entity) top []) ≡ filter_map (port_bit files is) (option_map_or (λ i. bits_of_instance files (0, i)) top [])
ports-by files is None at = refl
ports-by files is (Some i) at = sym (ports-from files is i 0 (objects_at files i.entity) at (all-stand (objects_at files i.entity)))

pub ports-all : (files : List Units) (is : List Instance) (objects : List Object') (k : ℕ) (now : List PortBit) → map lent objects ≡ option_map_or (λ i. objects_at files i.entity) (slice_get is 0) [] → length objects ≤ k → now ≡ flat_map bits_in (map lent (take k objects)) → now ≡ port_bits files is
ports-all files is objects k now all whole before =
    before
    ∙ ap (λ (os : List Object'). flat_map bits_in (map lent os)) (take_all k objects whole)
    ∙ ap (flat_map bits_in) all
    ∙ ports-by files is (slice_get is 0) refl
