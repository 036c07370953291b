-- The bits that the statements of a sound cell drive are there: they are as many as its drivers.
use Rattle.std.proofs.Common.{◌≡◌, ℕ, zero, suc, ◌+◌, ◌<◌, Bool, true, false, ◌||◌, ◌&&◌, List, [], ◌∷◌, ◌++◌, length, take, drop, map, Option, Some, None, inl, inr, refl, sym, ap, ◌∙◌, arith}
use Rattle.std.specs.Prelude.{All}
use Rattle.std.specs.List.{AllByRecursion, cons_option, filter_map, flat_map, list_all, list_any, position_from, slice_get}
use Rattle.std.specs.Str.{bytes_eq}
use Rattle.std.proofs.lemmas.Bool.{and_parts, cases_Bool, false≢true}
use Rattle.std.proofs.lemmas.Iterator.Adapters.{position_from-zero}
use Rattle.std.proofs.lemmas.List.{length-append, length-map}
use Rattle.std.proofs.lemmas.List.Elements.{All-drop, All-head, All-tail, All-take}
use Rattle.std.proofs.lemmas.List.Folds.{list_any-append}
use Rattle.std.proofs.lemmas.List.Quantifiers.{position-Some}
use Rattle.vital_actuals.specs.Kinds.{is_driven_mode}
use Rattle.vital_netlist.specs.CellDrivers.{driven, driven_by, driven_numbers}
use Rattle.vital_kernel.specs.DesignNetworks.{driver_count}
use Rattle.vital_kernel.proofs.DriverNumbers.{drivers_agree}
use Rattle.vital_objects.specs.declared.port.Port.{Port}
use Rattle.vital_objects.specs.declared.signal.Signal.{Signal}
use Rattle.vital_sections.specs.declared.path_delay.PathDelay.{PathDelay}
use Rattle.vital_typed_cells.specs.Named.{is_input_port, is_internal, is_output_port}
use Rattle.vital_typed_cells.specs.Scopes.{actuals_in, in_process, state_tables_in}
use Rattle.vital_typed_cells.specs.Sound.{IsSound, IsSoundProcess, bit_count, is_sound_wire}
use Rattle.vital_typed_cells.specs.SoundSections.{is_sound_functional}
use Rattle.vital_typed_cells.specs.SoundStatements.{is_sound_check, is_sound_path_delay}
use Rattle.vital_typed_cells.specs.Bits.{names_of, number_of}
use Rattle.vital_typed_cells.specs.declared.process.CellProcess.{CellProcess}
use Rattle.vital_typed_cells.specs.declared.typed_cell.TypedCell.{TypedCell}
use Rattle.vital_typed_cells.specs.declared.wire.WireDelay.{WireDelay}

-- ---- a name that is there has a number

abbrev IsNamed : List (List ℕ) → List ℕ → Type 0
IsNamed names name = list_any (λ n. bytes_eq n name) names ≡ true

found-from : (test : List ℕ → Bool) (i : ℕ) (names : List (List ℕ)) → list_any test names ≡ true → (n : ℕ) × (position_from test i names ≡ Some n)
found-from test i [] there = absurd (false≢true there)
found-from test i (name ∷ names) there = elim (cases_Bool (test name)) [
  | inl here ↦ (i, rw here refl)
  | inr other ↦ let later = found-from test (i + 1) names (rw other at there) in (later.0, rw other later.1)
]

numbered : (names found : List (List ℕ)) → AllByRecursion (IsNamed names) found → length (filter_map (number_of names) found) ≡ length found
numbered names [] named = refl
numbered names (name ∷ found) named =
    let number = found-from (λ n. bytes_eq n name) 0 names named.0 in
    let is : number_of names name ≡ Some number.0 = position_from-zero (λ n. bytes_eq n name) names ∙ number.1 in
    ap (λ (o : Option ℕ). length (cons_option o (filter_map (number_of names) found))) is ∙ ap (λ (n : ℕ). suc n) (numbered names found named.1)

-- ---- wires drive internal signals

any-map : {A B : Type 0} (test : B → Bool) (f : A → B) (xs : List A) → list_any test (map f xs) ≡ list_any (λ x. test (f x)) xs
any-map test f [] = refl
any-map test f (x ∷ xs) = ap (λ (b : Bool). test (f x) || b) (any-map test f xs)

or-true : (a b : Bool) → b ≡ true → (a || b) ≡ true
or-true true b is = refl
or-true false b is = is

true-or : (a b : Bool) → a ≡ true → (a || b) ≡ true
true-or true b is = refl
true-or false b is = absurd (false≢true is)

abbrev port_names : TypedCell → List (List ℕ)
port_names c = map (λ p. p.name) c.ports

abbrev signal_names : TypedCell → List (List ℕ)
signal_names c = map (λ s. s.name) c.signals

internal-named : (c : TypedCell) (name : List ℕ) → is_internal c.signals name ≡ true → IsNamed (names_of c.ports c.signals) name
internal-named c name is =
    let test = λ (n : List ℕ). bytes_eq n name in
    list_any-append test (port_names c) (signal_names c)
    ∙ or-true (list_any test (port_names c)) (list_any test (signal_names c)) (any-map test (λ (s : Signal). s.name) c.signals ∙ is)

wires-named : (c : TypedCell) (ws : List WireDelay) → All (λ w. is_sound_wire c w ≡ true) ws → AllByRecursion (IsNamed (names_of c.ports c.signals)) (map (λ w. w.signal) ws)
wires-named c [] sound = tt
wires-named c (w ∷ ws) sound =
    let first : is_sound_wire c w ≡ true = All-head (λ (v : WireDelay). is_sound_wire c v ≡ true) w ws sound in (
      internal-named c w.signal (and_parts (is_internal c.signals w.signal) (is_input_port c.ports w.port && list_any (λ g. bytes_eq g.name w.generic) c.generics) first).0,
      wires-named c ws (All-tail (λ (v : WireDelay). is_sound_wire c v ≡ true) w ws sound),
    )

-- ---- path delays drive ports

weaker : {A : Type 0} (p q : A → Bool) (xs : List A) → list_any (λ x. p x && q x) xs ≡ true → list_any p xs ≡ true
weaker p q [] is = is
weaker p q (x ∷ xs) is = by_test (p x) is (λ h. weaker p q xs h)
  where
    by_test : (b : Bool) → ((b && q x) || list_any (λ y. p y && q y) xs) ≡ true → (list_any (λ y. p y && q y) xs ≡ true → list_any p xs ≡ true) → (b || list_any p xs) ≡ true
    by_test true h others = refl
    by_test false h others = others h

output-named : (c : TypedCell) (name : List ℕ) → is_output_port c.ports name ≡ true → IsNamed (names_of c.ports c.signals) name
output-named c name is =
    let test = λ (n : List ℕ). bytes_eq n name in
    list_any-append test (port_names c) (signal_names c)
    ∙ true-or (list_any test (port_names c)) (list_any test (signal_names c))
    (any-map test (λ (p : Port). p.name) c.ports ∙ weaker (λ (p : Port). bytes_eq p.name name) (λ (p : Port). is_driven_mode p.mode) c.ports is)

delays-named : (c : TypedCell) (p : CellProcess) (ks : List PathDelay) → list_all (is_sound_path_delay (actuals_in c p)) ks ≡ true → AllByRecursion (IsNamed (names_of c.ports c.signals)) (map (λ k. k.out_signal) ks)
delays-named c p [] sound = tt
delays-named c p (k ∷ ks) sound =
    let parts = and_parts (is_sound_path_delay (actuals_in c p) k) (list_all (is_sound_path_delay (actuals_in c p)) ks) sound in
    (output-named c k.out_signal (first-true _ _ parts.0), delays-named c p ks parts.1)
  where
    first-true : (a b : Bool) → (a && b) ≡ true → a ≡ true
    first-true a b is = (and_parts a b is).0

process-named : (c : TypedCell) (p : CellProcess) → IsSoundProcess c p → AllByRecursion (IsNamed (names_of c.ports c.signals)) (driven_by p)
process-named c p sound =
    let checks = list_all (is_sound_check (actuals_in c p)) p.sections.checks in
    let functional = list_all (is_sound_functional (state_tables_in (in_process c p)) (actuals_in c p).names) p.sections.functionality in
    let delays = list_all (is_sound_path_delay (actuals_in c p)) p.sections.path_delays in
    delays-named c p p.sections.path_delays (and_parts functional delays (and_parts checks (functional && delays) sound.statements_typed).1).1

append-named : {A : Type 0} (P : A → Type 0) (xs ys : List A) → AllByRecursion P xs → AllByRecursion P ys → AllByRecursion P (xs ++ ys)
append-named P [] ys first others = others
append-named P (x ∷ xs) ys first others = (first.0, append-named P xs ys first.1 others)

processes-named : (c : TypedCell) (ps : List CellProcess) → All (IsSoundProcess c) ps → AllByRecursion (IsNamed (names_of c.ports c.signals)) (flat_map driven_by ps)
processes-named c [] sound = tt
processes-named c (p ∷ ps) sound =
    append-named (IsNamed (names_of c.ports c.signals)) (driven_by p) (flat_map driven_by ps)
    (process-named c p (All-head (IsSoundProcess c) p ps sound)) (processes-named c ps (All-tail (IsSoundProcess c) p ps sound))

-- ---- all that is driven

driven-named : (c : TypedCell) → IsSound c → AllByRecursion (IsNamed (names_of c.ports c.signals)) (driven c)
driven-named c sound =
    let front = take c.processes_before_wires c.processes in
    let back = drop c.processes_before_wires c.processes in
    let wires : List (List ℕ) = map (λ w. w.signal) c.wires in
    let P = IsNamed (names_of c.ports c.signals) in
    append-named P (flat_map driven_by front ++ wires) (flat_map driven_by back)
    (append-named P (flat_map driven_by front) wires
    (processes-named c front (All-take (IsSoundProcess c) c.processes_before_wires c.processes sound.processes_sound))
    (wires-named c c.wires sound.wires_joined))
    (processes-named c back (All-drop (IsSoundProcess c) c.processes_before_wires c.processes sound.processes_sound))

pub as-many-numbers : (c : TypedCell) → IsSound c → length (driven_numbers c) ≡ driver_count c
as-many-numbers c sound = numbered (names_of c.ports c.signals) (driven c) (driven-named c sound) ∙ sym (drivers_agree c)

-- ---- and the signals of these

bits-are : (c : TypedCell) → length (names_of c.ports c.signals) ≡ bit_count c
bits-are c =
    length-append (port_names c) (signal_names c)
    ∙ ap (λ (n : ℕ). n + length (signal_names c)) (length-map c.ports (λ (p : Port). p.name))
    ∙ ap (λ (n : ℕ). length c.ports + n) (length-map c.signals (λ (s : Signal). s.name))

got-some : {A : Type 0} (xs : List A) (n : ℕ) → n < length xs → (x : A) × (slice_get xs n ≡ Some x)
got-some [] n within = absurd (omega arith)
got-some (x ∷ xs) zero within = (x, refl)
got-some (x ∷ xs) (suc n) within = got-some xs n (omega arith)

wired : (ws : List ℕ) (names found : List (List ℕ)) → length names ≡ length ws → length (filter_map (slice_get ws) (filter_map (number_of names) found)) ≡ length (filter_map (number_of names) found)
wired ws names [] same = refl
wired ws names (name ∷ found) same = by_number (number_of names name) refl (wired ws names found same)
  where
    by_number : (o : Option ℕ) → number_of names name ≡ o → length (filter_map (slice_get ws) (filter_map (number_of names) found)) ≡ length (filter_map (number_of names) found)
        → length (filter_map (slice_get ws) (cons_option o (filter_map (number_of names) found))) ≡ length (cons_option o (filter_map (number_of names) found))
    by_number None is others = others
    by_number (Some n) is others =
        let there : n < length ws = omega (arith, (position-Some (λ (m : List ℕ). bytes_eq m name) names n [] is).0, same) in
        let got = got-some ws n there in
        ap (λ (o : Option ℕ). length (cons_option o (filter_map (slice_get ws) (filter_map (number_of names) found)))) got.1
        ∙ ap (λ (k : ℕ). suc k) others

pub as-many-signals : (c : TypedCell) (ws : List ℕ) → IsSound c → length ws ≡ bit_count c → length (filter_map (slice_get ws) (driven_numbers c)) ≡ driver_count c
as-many-signals c ws sound all = wired ws (names_of c.ports c.signals) (driven c) (bits-are c ∙ sym all) ∙ as-many-numbers c sound
