-- The numbers of the bits of a cell.
use Rattle.std.proofs.Common.{◌≡◌, ℕ, ◌+◌, ◌<◌, true, false, List, [], ◌∷◌, length, map, cond, refl, ◌∙◌, ap, subst, inl, inr}
use Rattle.std.specs.Prelude.{Bool, ◌||◌, ◌&&◌, is_some, unwrap_or, Option, Some, None}
use Rattle.std.specs.List.{list_any, position_from}
use Rattle.std.specs.Str.{bytes_eq}
use Rattle.std.proofs.lemmas.Bool.{false≢true}
use Rattle.std.proofs.lemmas.Iterator.Adapters.{position_from-zero}
use Rattle.std.proofs.lemmas.List.{length-append, length-map}
use Rattle.std.proofs.lemmas.List.Folds.{list_any-append}
use Rattle.std.proofs.lemmas.List.Quantifiers.{position-Some}
use Rattle.vital_actuals.specs.Kinds.{is_driven_mode}
use Rattle.vital_cell.proofs.CellListLemmas.{either, first-or, second-or}
use Rattle.vital_cell.proofs.SoundLemmas.{first-holds}
use Rattle.vital_objects.specs.declared.port.Port.{Port}
use Rattle.vital_objects.specs.declared.signal.Signal.{Signal}
use Rattle.vital_operands.specs.Named.{is_read_mode}
use Rattle.vital_typed_cells.specs.Named.{is_input_port, is_internal, is_output_port}
use Rattle.vital_typed_cells.specs.Sound.{bit_count}
use Rattle.vital_typed_cells.specs.Bits.{names_of, number_of}
use Rattle.vital_typed_cells.specs.declared.typed_cell.TypedCell.{TypedCell}

-- ---- a name that is there has a number

some-from : (names : List (List ℕ)) (name : List ℕ) (k : ℕ) → list_any (λ n. bytes_eq n name) names ≡ true → is_some (position_from (λ n. bytes_eq n name) k names) ≡ true
some-from [] name k is = absurd (false≢true is)
some-from (n ∷ ns) name k is = by-first (bytes_eq n name) (position_from (λ m. bytes_eq m name) (k + 1) ns) (list_any (λ m. bytes_eq m name) ns) (some-from ns name (k + 1)) is
  where
    by-first : (b : Bool) (o : Option ℕ) (c : Bool) → (c ≡ true → is_some o ≡ true) → (b || c) ≡ true → is_some (cond b (Some k) o) ≡ true
    by-first true o c more there = refl
    by-first false o c more there = more there

some-number : (names : List (List ℕ)) (name : List ℕ) → list_any (λ n. bytes_eq n name) names ≡ true → is_some (number_of names name) ≡ true
some-number names name is = ap is_some (position_from-zero (λ n. bytes_eq n name) names) ∙ some-from names name 0 is

-- A name with a test is a name.
any-named : {A : Type 0} (name_of : A → List ℕ) (test : A → Bool) (xs : List A) (name : List ℕ) → list_any (λ x. bytes_eq (name_of x) name && test x) xs ≡ true → list_any (λ n. bytes_eq n name) (map name_of xs) ≡ true
any-named name_of test [] name is = is
any-named name_of test (x ∷ xs) name is =
    let here = bytes_eq (name_of x) name in
    let rest = list_any (λ n. bytes_eq n name) (map name_of xs) in
    elim (either (here && test x) (list_any (λ y. bytes_eq (name_of y) name && test y) xs) is) [
      | inl first ↦ first-or here rest (first-holds here (test x) first)
      | inr later ↦ second-or here rest (any-named name_of test xs name later)
    ]

any-signal : (signals : List Signal) (name : List ℕ) → is_internal signals name ≡ true → list_any (λ n. bytes_eq n name) (map (λ s. s.name) signals) ≡ true
any-signal [] name is = is
any-signal (s ∷ ss) name is =
    let rest = list_any (λ n. bytes_eq n name) (map (λ q. q.name) ss) in
    elim (either (bytes_eq s.name name) (is_internal ss name) is) [
      | inl first ↦ first-or (bytes_eq s.name name) rest first
      | inr later ↦ second-or (bytes_eq s.name name) rest (any-signal ss name later)
    ]

-- ---- bits of ports and signals

port-there : (ports : List Port) (signals : List Signal) (name : List ℕ) → list_any (λ n. bytes_eq n name) (map (λ p. p.name) ports) ≡ true → is_some (number_of (names_of ports signals) name) ≡ true
port-there ports signals name is =
    let test : List ℕ → Bool = λ n. bytes_eq n name in
    let ps = map (λ (p : Port). p.name) ports in
    let ss = map (λ (s : Signal). s.name) signals in
    some-number (names_of ports signals) name (list_any-append test ps ss ∙ first-or (list_any test ps) (list_any test ss) is)

signal-there : (ports : List Port) (signals : List Signal) (name : List ℕ) → is_internal signals name ≡ true → is_some (number_of (names_of ports signals) name) ≡ true
signal-there ports signals name is =
    let test : List ℕ → Bool = λ n. bytes_eq n name in
    let ps = map (λ (p : Port). p.name) ports in
    let ss = map (λ (s : Signal). s.name) signals in
    some-number (names_of ports signals) name (list_any-append test ps ss ∙ second-or (list_any test ps) (list_any test ss) (any-signal signals name is))

pub input-there : (ports : List Port) (signals : List Signal) (name : List ℕ) → is_input_port ports name ≡ true → is_some (number_of (names_of ports signals) name) ≡ true
input-there ports signals name is = port-there ports signals name (any-named (λ p. p.name) (λ p. is_read_mode p.mode) ports name is)

pub output-there : (ports : List Port) (signals : List Signal) (name : List ℕ) → is_output_port ports name ≡ true → is_some (number_of (names_of ports signals) name) ≡ true
output-there ports signals name is = port-there ports signals name (any-named (λ p. p.name) (λ p. is_driven_mode p.mode) ports name is)

-- An input port or an internal signal is a bit.
pub bit-there : (ports : List Port) (signals : List Signal) (name : List ℕ) → (is_input_port ports name || is_internal signals name) ≡ true → is_some (number_of (names_of ports signals) name) ≡ true
bit-there ports signals name is =
    elim (either (is_input_port ports name) (is_internal signals name) is) [
      | inl port ↦ input-there ports signals name port
      | inr signal ↦ signal-there ports signals name signal
    ]

-- ---- numbers that are below the number of bits

number-below : (names : List (List ℕ)) (name : List ℕ) (o : Option ℕ) → number_of names name ≡ o → is_some o ≡ true → unwrap_or o 0 < length names
number-below names name None is some = absurd (false≢true some)
number-below names name (Some i) is some = (position-Some (λ n. bytes_eq n name) names i [] is).0

pub bits-counted : (c : TypedCell) → length (names_of c.ports c.signals) ≡ bit_count c
bits-counted c =
    length-append (map (λ p. p.name) c.ports) (map (λ s. s.name) c.signals)
    ∙ ap (λ n. n + length (map (λ (s : Signal). s.name) c.signals)) (length-map c.ports (λ p. p.name))
    ∙ ap (λ n. length c.ports + n) (length-map c.signals (λ s. s.name))

pub bit-below : (c : TypedCell) (name : List ℕ) → is_some (number_of (names_of c.ports c.signals) name) ≡ true → unwrap_or (number_of (names_of c.ports c.signals) name) 0 < bit_count c
bit-below c name is =
    let P : ℕ → Type 0 = λ n. unwrap_or (number_of (names_of c.ports c.signals) name) 0 < n in
    subst P (bits-counted c) (number-below (names_of c.ports c.signals) name (number_of (names_of c.ports c.signals) name) refl is)
