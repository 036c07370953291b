-- What variables hold is of their kinds as long as it stays of the kinds that it had, and vectors are as long as they were declared.
use Rattle.std.proofs.Common.{◌≡◌, ℕ, zero, suc, ◌==◌, true, false, List, [], ◌∷◌, length, refl, sym, ◌∙◌, ap, subst}
use Rattle.std.specs.Prelude.{Bool, slice_get, Option, Some, None}
use Rattle.std.specs.List.{IsDistinct}
use Rattle.std.specs.Option.{option_and_then, option_map_or}
use Rattle.std.specs.Str.{bytes_eq}
use Rattle.std.proofs.lemmas.Bool.{eqb-true, false≢true}
use Rattle.std.proofs.lemmas.List.{length-replicate}
use Rattle.vital_logic.specs.declared.level.Level.TheVariants.{U}
use Rattle.vital_machine.specs.declared.slot.Slot.{Slot}
use Rattle.vital_machine.specs.declared.slot.Slot.TheVariants as slot
use Rattle.vital_machine.specs.Fits.{kind_of, kinds_of}
use Rattle.vital_machine.specs.Seen.{Seen}
use Rattle.vital_machine.specs.Slots.{levels_in}
use Rattle.vital_objects.specs.declared.variable.Variable.{Variable}
use Rattle.vital_objects.specs.declared.variable.VariableKind.{VariableKind}
use Rattle.vital_objects.specs.declared.variable.VariableKind.TheVariants as kind
use Rattle.vital_sections.specs.declared.timing_check.TimingCheck.{TimingCheck}
use Rattle.vital_sections.specs.declared.timing_check.TimingCheck.TheVariants as check
use Rattle.vital_typed_cells.specs.KeptStates.{kept_by}
use Rattle.vital_typed_cells.specs.Named.{is_vector}
use Rattle.vital_cell.specs.Kinds.{AreOfKinds, is_of_check, is_of_kind, keeps}
use Rattle.vital_cell.specs.Scopes.{Scope, names_of_variables}
use Rattle.vital_cell.specs.StandsFor.{Fits}
use Rattle.vital_cell.proofs.KindLemmas.{found-variable}
use Rattle.vital_cell.proofs.NameLemmas.{variable-there}
use Rattle.vital_typed_cells.specs.Bits.{number_of}

-- ---- kinds

same-kind : (k : VariableKind) (s : Slot) → is_of_kind k (kind_of s) ≡ is_of_kind k s
same-kind (kind.Vector n d) (slot.Vector ls) = ap (λ m. n == m) (length-replicate (length ls) U)
same-kind (kind.Vector n d) (slot.Level l) = refl
same-kind (kind.Vector n d) (slot.X01 l) = refl
same-kind (kind.Vector n d) (slot.Glitch kept) = refl
same-kind (kind.Vector n d) (slot.SetupHold c) = refl
same-kind (kind.Vector n d) (slot.RecRem c) = refl
same-kind (kind.Vector n d) (slot.PeriodPulse c) = refl
same-kind (kind.Level d) (slot.Level l) = refl
same-kind (kind.Level d) (slot.X01 l) = refl
same-kind (kind.Level d) (slot.Vector l) = refl
same-kind (kind.Level d) (slot.Glitch kept) = refl
same-kind (kind.Level d) (slot.SetupHold c) = refl
same-kind (kind.Level d) (slot.RecRem c) = refl
same-kind (kind.Level d) (slot.PeriodPulse c) = refl
same-kind (kind.X01 d) (slot.Level l) = refl
same-kind (kind.X01 d) (slot.X01 l) = refl
same-kind (kind.X01 d) (slot.Vector l) = refl
same-kind (kind.X01 d) (slot.Glitch kept) = refl
same-kind (kind.X01 d) (slot.SetupHold c) = refl
same-kind (kind.X01 d) (slot.RecRem c) = refl
same-kind (kind.X01 d) (slot.PeriodPulse c) = refl
same-kind kind.GlitchData (slot.Level l) = refl
same-kind kind.GlitchData (slot.X01 l) = refl
same-kind kind.GlitchData (slot.Vector l) = refl
same-kind kind.GlitchData (slot.Glitch kept) = refl
same-kind kind.GlitchData (slot.SetupHold c) = refl
same-kind kind.GlitchData (slot.RecRem c) = refl
same-kind kind.GlitchData (slot.PeriodPulse c) = refl
same-kind kind.TimingData (slot.Level l) = refl
same-kind kind.TimingData (slot.X01 l) = refl
same-kind kind.TimingData (slot.Vector l) = refl
same-kind kind.TimingData (slot.Glitch kept) = refl
same-kind kind.TimingData (slot.SetupHold c) = refl
same-kind kind.TimingData (slot.RecRem c) = refl
same-kind kind.TimingData (slot.PeriodPulse c) = refl
same-kind kind.PeriodData (slot.Level l) = refl
same-kind kind.PeriodData (slot.X01 l) = refl
same-kind kind.PeriodData (slot.Vector l) = refl
same-kind kind.PeriodData (slot.Glitch kept) = refl
same-kind kind.PeriodData (slot.SetupHold c) = refl
same-kind kind.PeriodData (slot.RecRem c) = refl
same-kind kind.PeriodData (slot.PeriodPulse c) = refl

to-kinds : (vs : List Variable) (ss : List Slot) → AreOfKinds vs ss → AreOfKinds vs (kinds_of ss)
to-kinds [] [] are = tt
to-kinds [] (s ∷ ss) are = are
to-kinds (v ∷ vs) [] are = are
to-kinds (v ∷ vs) (s ∷ ss) are = (same-kind v.kind s ∙ are.0, to-kinds vs ss are.1)

from-kinds : (vs : List Variable) (ss : List Slot) → AreOfKinds vs (kinds_of ss) → AreOfKinds vs ss
from-kinds [] [] are = tt
from-kinds [] (s ∷ ss) are = are
from-kinds (v ∷ vs) [] are = are
from-kinds (v ∷ vs) (s ∷ ss) are = (sym (same-kind v.kind s) ∙ are.0, from-kinds vs ss are.1)

pub kinds-suit : (vs : List Variable) (now before : List Slot) → kinds_of now ≡ kinds_of before → AreOfKinds vs before → AreOfKinds vs now
kinds-suit vs now before same are = from-kinds vs now (subst (AreOfKinds vs) (sym same) (to-kinds vs before are))

-- ---- checks

same-check : (c : TimingCheck) (s : Slot) → is_of_check c (kind_of s) ≡ is_of_check c s
same-check (check.SetupHold c) (slot.Level l) = refl
same-check (check.SetupHold c) (slot.X01 l) = refl
same-check (check.SetupHold c) (slot.Vector l) = refl
same-check (check.SetupHold c) (slot.Glitch kept) = refl
same-check (check.SetupHold c) (slot.SetupHold s) = refl
same-check (check.SetupHold c) (slot.RecRem s) = refl
same-check (check.SetupHold c) (slot.PeriodPulse s) = refl
same-check (check.RecoveryRemoval c) (slot.Level l) = refl
same-check (check.RecoveryRemoval c) (slot.X01 l) = refl
same-check (check.RecoveryRemoval c) (slot.Vector l) = refl
same-check (check.RecoveryRemoval c) (slot.Glitch kept) = refl
same-check (check.RecoveryRemoval c) (slot.SetupHold s) = refl
same-check (check.RecoveryRemoval c) (slot.RecRem s) = refl
same-check (check.RecoveryRemoval c) (slot.PeriodPulse s) = refl
same-check (check.PeriodPulse c) (slot.Level l) = refl
same-check (check.PeriodPulse c) (slot.X01 l) = refl
same-check (check.PeriodPulse c) (slot.Vector l) = refl
same-check (check.PeriodPulse c) (slot.Glitch kept) = refl
same-check (check.PeriodPulse c) (slot.SetupHold s) = refl
same-check (check.PeriodPulse c) (slot.RecRem s) = refl
same-check (check.PeriodPulse c) (slot.PeriodPulse s) = refl

-- What is read of a list that is seen the same by a test that sees no more.
read-kinds : (test : Slot → Bool) → ((s : Slot) → test (kind_of s) ≡ test s) → (slots : List Slot) (n : ℕ) → option_map_or test (slice_get (kinds_of slots) n) false ≡ option_map_or test (slice_get slots n) false
read-kinds test same [] n = refl
read-kinds test same (s ∷ ss) zero = same s
read-kinds test same (s ∷ ss) (suc n) = read-kinds test same ss n

read-number : (test : Slot → Bool) → ((s : Slot) → test (kind_of s) ≡ test s) → (slots : List Slot) (o : Option ℕ) → option_map_or test (option_and_then (slice_get (kinds_of slots)) o) false ≡ option_map_or test (option_and_then (slice_get slots) o) false
read-number test same slots None = refl
read-number test same slots (Some n) = read-kinds test same slots n

pub keeps-on : (names : List (List ℕ)) (now before : List Slot) (c : TimingCheck) → kinds_of now ≡ kinds_of before → keeps names before c ≡ true → keeps names now c ≡ true
keeps-on names now before c same is =
    let o = number_of names (kept_by c) in
    sym (read-number (is_of_check c) (same-check c) now o)
    ∙ ap (λ ss. option_map_or (is_of_check c) (option_and_then (slice_get ss) o) false) same
    ∙ read-number (is_of_check c) (same-check c) before o
    ∙ is

-- ---- vectors

long-vector : (n : ℕ) (k : VariableKind) (s : Slot) → is_vector n k ≡ true → is_of_kind k s ≡ true → length (levels_in s) ≡ n
long-vector n (kind.Vector m d) (slot.Vector ls) passes suits = sym (eqb-true n m passes ∙ eqb-true m (length ls) suits)
long-vector n (kind.Vector m d) s passes suits = absurd (false≢true suits)
long-vector n (kind.Level d) s passes suits = absurd (false≢true passes)
long-vector n (kind.X01 d) s passes suits = absurd (false≢true passes)
long-vector n kind.GlitchData s passes suits = absurd (false≢true passes)
long-vector n kind.TimingData s passes suits = absurd (false≢true passes)
long-vector n kind.PeriodData s passes suits = absurd (false≢true passes)

pub fits-kinds : (k : Scope) (s : Seen) → IsDistinct bytes_eq (names_of_variables k) → AreOfKinds k.variables s.slots → Fits k s
fits-kinds k s distinct are = λ name n is.
    let f = found-variable (is_vector n) k.variables s.slots name distinct are is in
    ap length (variable-there k s name f.number f.numbered ∙ ap (λ o. option_map_or levels_in o []) f.there)
    ∙ long-vector n f.kind f.held f.passes f.suits
