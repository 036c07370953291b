-- What names of bits and of variables are worth by their numbers.
use Rattle.std.proofs.Common.{◌≡◌, ℕ, List, [], refl, sym, ◌∙◌, ap}
use Rattle.std.specs.Prelude.{true, find, is_some, slice_get, unwrap_or, Option, Some, None}
use Rattle.std.specs.Str.{bytes_eq}
use Rattle.std.proofs.lemmas.Bool.{false≢true}
use Rattle.std.specs.Option.{option_and_then, option_map, option_map_or}
use Rattle.vital_cell.specs.Environments.{delay_named, input_named}
use Rattle.vital_cell.specs.Variables as variables
use Rattle.vital_logic.specs.declared.level.Level.TheVariants.{U}
use Rattle.vital_machine.specs.declared.input.Input.{Input}
use Rattle.vital_machine.specs.declared.slot.Slot.{Slot}
use Rattle.vital_machine.specs.declared.slot.Slot.TheVariants as slot
use Rattle.vital_machine.specs.Inputs.{absent}
use Rattle.vital_machine.specs.Seen.{Seen, age, bit}
use Rattle.vital_machine.specs.Slots.{levels_at, levels_in}
use Rattle.vital_cell.specs.declared.worth.Worth.{Worth}
use Rattle.vital_cell.specs.Named.{held_in, named}
use Rattle.vital_cell.specs.Scopes.{Scope, bit_of, named_delays, named_worths, names_of, names_of_variables}
use Rattle.vital_cell.specs.Sound.{has_bit}
use Rattle.vital_cell.specs.Worths as worths
use Rattle.vital_cell.proofs.NamedLemmas.{found}
use Rattle.vital_timing.specs.declared.delay.Delay.{Delay}
use Rattle.vital_timing.specs.declared.delay.Delay.TheVariants as delay
use Rattle.vital_typed_cells.specs.Bits.{number_of}

-- ---- bits

pub signal-there : (k : Scope) (s : Seen) (name : List ℕ) (n : ℕ) → number_of k.bits name ≡ Some n → (names_of k s).signal name ≡ bit s n
signal-there k s name n is = ap (λ o. (unwrap_or (option_and_then (slice_get s.inputs) o) absent).value) is

pub signal-absent : (k : Scope) (s : Seen) (name : List ℕ) → number_of k.bits name ≡ None → (names_of k s).signal name ≡ U
signal-absent k s name is = ap (λ o. (unwrap_or (option_and_then (slice_get s.inputs) o) absent).value) is

-- ---- variables

same-levels : (held : Slot) → variables.levels_in (held_in held) ≡ levels_in held
same-levels (slot.Level l) = refl
same-levels (slot.X01 l) = refl
same-levels (slot.Vector ls) = refl
same-levels (slot.Glitch kept) = refl
same-levels (slot.SetupHold check) = refl
same-levels (slot.RecRem check) = refl
same-levels (slot.PeriodPulse check) = refl

map-or : {A B : Type 0} (f : A → B) (o : Option A) (d : B) → option_map_or f o d ≡ unwrap_or (option_map f o) d
map-or f None d = refl
map-or f (Some x) d = refl

levels-by-number : (names : List (List ℕ)) (slots : List Slot) (name : List ℕ) → variables.levels_of (named names slots) name ≡ option_map_or levels_in (option_and_then (slice_get slots) (number_of names name)) []
levels-by-number names slots name =
    map-or (λ r. variables.levels_in r.held) (variables.slot_named (named names slots) name) []
    ∙ ap (λ o. unwrap_or o []) (found (λ r. r.name) (λ p. record { name = p.0; held = held_in p.1 }) (λ r. variables.levels_in r.held) levels_in (λ p. refl) (λ p. same-levels p.1) name names slots)
    ∙ sym (map-or levels_in (option_and_then (slice_get slots) (number_of names name)) [])

pub variable-there : (k : Scope) (s : Seen) (name : List ℕ) (n : ℕ) → number_of (names_of_variables k) name ≡ Some n → (names_of k s).variable name ≡ levels_at s.slots n
variable-there k s name n is = levels-by-number (names_of_variables k) s.slots name ∙ ap (λ o. option_map_or levels_in (option_and_then (slice_get s.slots) o) []) is

pub variable-absent : (k : Scope) (s : Seen) (name : List ℕ) → number_of (names_of_variables k) name ≡ None → (names_of k s).variable name ≡ []
variable-absent k s name is = levels-by-number (names_of_variables k) s.slots name ∙ ap (λ o. option_map_or levels_in (option_and_then (slice_get s.slots) o) []) is

-- ---- bits that are there

input-there : (o : Option ℕ) (inputs : List Input) → is_some o ≡ true → unwrap_or (option_and_then (slice_get inputs) o) absent ≡ unwrap_or (slice_get inputs (unwrap_or o 0)) absent
input-there None inputs is = absurd (false≢true is)
input-there (Some n) inputs is = refl

pub bit-there : (k : Scope) (s : Seen) (name : List ℕ) → has_bit k name ≡ true → bit s (bit_of k name) ≡ (names_of k s).signal name
bit-there k s name is = ap (λ i. i.value) (sym (input-there (number_of k.bits name) s.inputs is))

pub age-there : (k : Scope) (s : Seen) (name : List ℕ) → has_bit k name ≡ true → age s (bit_of k name) ≡ (input_named k.bits s.inputs name).age
age-there k s name is = ap (λ i. i.age) (sym (input-there (number_of k.bits name) s.inputs is))

-- ---- constants and generics

pub constant-named : (names : List (List ℕ)) (ws : List Worth) (name : List ℕ) → option_map (λ n. n.worth) (find (λ n. bytes_eq n.name name) (named_worths names ws)) ≡ option_map worths.lent (option_and_then (slice_get ws) (number_of names name))
constant-named names ws name = found (λ n. n.name) (λ p. record { name = p.0; worth = worths.lent p.1 }) (λ n. n.worth) worths.lent (λ p. refl) (λ p. refl) name names ws

itself : (o : Option Delay) → option_map (λ d. d) o ≡ o
itself None = refl
itself (Some d) = refl

pub delay-there : (names : List (List ℕ)) (ds : List Delay) (name : List ℕ) → delay_named (named_delays names ds) name ≡ unwrap_or (option_and_then (slice_get ds) (number_of names name)) (delay.One 0)
delay-there names ds name =
    map-or (λ d. d.delay) (find (λ d. bytes_eq d.name name) (named_delays names ds)) (delay.One 0)
    ∙ ap (λ o. unwrap_or o (delay.One 0)) (found (λ d. d.name) (λ p. record { name = p.0; delay = p.1 }) (λ d. d.delay) (λ d. d) (λ p. refl) (λ p. refl) name names ds ∙ itself (option_and_then (slice_get ds) (number_of names name)))
