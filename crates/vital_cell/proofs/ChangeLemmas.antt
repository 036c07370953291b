-- What variables hold by their names where one of them changes, and where one is read.
use Rattle.std.proofs.Common.{◌≡◌, ℕ, List, refl, ◌∙◌, ap}
use Rattle.std.specs.Prelude.{slice_get, slice_set, Option, Some, None}
use Rattle.std.specs.List.{IsDistinct}
use Rattle.std.specs.Option.{option_and_then, option_map, option_map_or}
use Rattle.std.specs.Str.{bytes_eq}
use Rattle.vital_cell.specs.Variables.{Held, slot_named, with_held}
use Rattle.vital_machine.specs.declared.slot.Slot.{Slot}
use Rattle.vital_machine.specs.Fits.{kind_of, kinds_of}
use Rattle.vital_machine.specs.Machine.{changed}
use Rattle.vital_cell.specs.Named.{held_in, named}
use Rattle.vital_cell.proofs.NamedLemmas.{found}
use Rattle.vital_cell.proofs.ZipLemmas.{seen-same, there, zips-changed}
use Rattle.vital_typed_cells.specs.Bits.{number_of}

-- ---- a variable that changes

pub changed-there : (i : ℕ) (f : Slot → Slot) (slots : List Slot) (held : Slot) → slice_get slots i ≡ Some held → changed i f slots ≡ slice_set slots i (f held)
changed-there i f slots held is = ap (λ o. option_map_or (λ s. slice_set slots i (f s)) o slots) is

pub named-changed : (names : List (List ℕ)) (slots : List Slot) (name : List ℕ) (i : ℕ) (held : Slot) (f : Slot → Slot) (g : Held → Held) → IsDistinct bytes_eq names → number_of names name ≡ Some i → slice_get slots i ≡ Some held → held_in (f held) ≡ g (held_in held) → named names (changed i f slots) ≡ with_held name g (named names slots)
named-changed names slots name i held f g distinct numbered is same =
    ap (named names) (changed-there i f slots held is)
    ∙ zips-changed (λ p. record { name = p.0; held = held_in p.1 }) (λ s. s.name) (λ s. record { name = s.name; held = g s.held }) (λ p. refl) name names slots i held (f held)
    distinct (there names name i numbered) is (ap (λ h. record { name = name; held = h }) same)

-- A change keeps the kinds of all variables where it keeps those of each.
kinds-with : (f : Slot → Slot) → ((s : Slot) → kind_of (f s) ≡ kind_of s) → (i : ℕ) (slots : List Slot) (o : Option Slot) → slice_get slots i ≡ o → kinds_of (option_map_or (λ s. slice_set slots i (f s)) o slots) ≡ kinds_of slots
kinds-with f keeps i slots None is = refl
kinds-with f keeps i slots (Some s) is = seen-same kind_of slots i s (f s) is (keeps s)

pub kinds-changed : (f : Slot → Slot) → ((s : Slot) → kind_of (f s) ≡ kind_of s) → (i : ℕ) (slots : List Slot) → kinds_of (changed i f slots) ≡ kinds_of slots
kinds-changed f keeps i slots = kinds-with f keeps i slots (slice_get slots i) refl

-- ---- a variable that is read

slot-there : (names : List (List ℕ)) (slots : List Slot) (name : List ℕ) (i : ℕ) (held : Slot) → number_of names name ≡ Some i → slice_get slots i ≡ Some held → option_map (λ s. s.held) (slot_named (named names slots) name) ≡ Some (held_in held)
slot-there names slots name i held numbered is =
    found (λ s. s.name) (λ p. record { name = p.0; held = held_in p.1 }) (λ s. s.held) held_in (λ p. refl) (λ p. refl) name names slots
    ∙ ap (λ o. option_map held_in (option_and_then (slice_get slots) o)) numbered
    ∙ ap (option_map held_in) is

read-of : {A B C : Type 0} (see : A → B) (read : B → C) (o : Option A) (d : C) → option_map_or (λ s. read (see s)) o d ≡ option_map_or read (option_map see o) d
read-of see read None d = refl
read-of see read (Some s) d = refl

pub read-there : {C : Type 0} (read : Held → C) (d : C) (names : List (List ℕ)) (slots : List Slot) (name : List ℕ) (i : ℕ) (held : Slot) → number_of names name ≡ Some i → slice_get slots i ≡ Some held → option_map_or (λ s. read s.held) (slot_named (named names slots) name) d ≡ read (held_in held)
read-there read d names slots name i held numbered is =
    read-of (λ s. s.held) read (slot_named (named names slots) name) d
    ∙ ap (λ o. option_map_or read o d) (slot-there names slots name i held numbered is)
