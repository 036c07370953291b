-- The content of an agenda that keeps one queue.
use Rattle.std.proofs.Common.{◌≡◌, ℕ, zero, suc, ◌+◌, ◌<◌, List, [], ◌∷◌, length, get_or, set, Option, Some, None, inl, inr, refl, ap, subst, sym, ◌∙◌, zero-add, arith}
use Rattle.std.proofs.lemmas.Bool.{cases_lt, cases_eq}
use Rattle.std.proofs.lemmas.List.{length-set, get_or-set_same, get_or-set_other, get_or_past, get_or_read}
use Rattle.vital_base.specs.declared.kind.Kind.{Kind}
use Rattle.vital_logic.specs.declared.level.Level.{Level}
use Rattle.vital_agenda.specs.declared.transaction.Transaction.{Transaction}
use Rattle.vital_agenda.specs.Driver.{Driver, RisesFrom, AllRise, send, with_new, pending_after}
use Rattle.vital_agenda.specs.Agendas.{Content, changed}
use Rattle.vital_agenda.specs.Queues.{Keyed, IsChain, KeepsOthers, chain_of, latest, pending_of, rising, with_pending}
use Rattle.vital_agenda.specs.OneQueue.{IsOneQueue, drivers_from}
use Rattle.vital_agenda.proofs.Rising.{left_by, left_is}

pub length-drivers : (number : ℕ) (currents : List Level) (es : List Keyed) → length (drivers_from number currents es) ≡ length currents
length-drivers number [] es = refl
length-drivers number (c ∷ currents) es = ap suc (length-drivers (suc number) currents es)

-- ---- one driver's entries change

drivers_same : (number driver : ℕ) (currents : List Level) (old new : List Keyed) → KeepsOthers driver old new → driver < number → drivers_from number currents new ≡ drivers_from number currents old
drivers_same number driver [] old new others lt = refl
drivers_same number driver (c ∷ currents) old new others lt =
    ap (λ (xs : List Transaction). (record { current = c; pending = xs }) ∷ drivers_from (suc number) currents new) (ap rising (others number (λ same. omega arith)))
    ∙ ap (λ (ds : List Driver). (record { current = c; pending = pending_of number old }) ∷ ds) (drivers_same (suc number) driver currents old new others (omega arith))

drivers_with : (i number driver : ℕ) (change : List Transaction → List Transaction) (currents : List Level) (old new : List Keyed) → number + i ≡ driver → KeepsOthers driver old new
    → pending_of driver new ≡ change (pending_of driver old) → drivers_from number currents new ≡ changed i (with_pending change) (drivers_from number currents old)
drivers_with i number driver change [] old new at_driver others here = refl
drivers_with zero number driver change (c ∷ currents) old new at_driver others here =
    let same : driver ≡ number = omega arith in
    let here_too : pending_of number new ≡ change (pending_of number old) = subst (λ (d : ℕ). pending_of d new ≡ change (pending_of d old)) same here in
    ap (λ (xs : List Transaction). (record { current = c; pending = xs }) ∷ drivers_from (suc number) currents new) here_too
    ∙ ap (λ (ds : List Driver). (record { current = c; pending = change (pending_of number old) }) ∷ ds) (drivers_same (suc number) driver currents old new others (omega arith))
drivers_with (suc i) number driver change (c ∷ currents) old new at_driver others here =
    ap (λ (xs : List Transaction). (record { current = c; pending = xs }) ∷ drivers_from (suc number) currents new) (ap rising (others number (λ same. omega arith)))
    ∙ ap (λ (ds : List Driver). (record { current = c; pending = pending_of number old }) ∷ ds) (drivers_with i (suc number) driver change currents old new (omega arith) others here)

pub drivers_changed : (driver : ℕ) (change : List Transaction → List Transaction) (currents : List Level) (old new : List Keyed) → KeepsOthers driver old new
    → pending_of driver new ≡ change (pending_of driver old) → drivers_from 0 currents new ≡ changed driver (with_pending change) (drivers_from 0 currents old)
drivers_changed driver change currents old new others here = drivers_with driver 0 driver change currents old new (zero-add driver) others here

-- the queue is one queue still
pub stays_one_queue : (now driver : ℕ) (old new : List Keyed) (currents : List Level) (lasts : List (Option ℕ)) (last : Option ℕ) → IsOneQueue now old currents lasts → driver < length lasts
    → KeepsOthers driver old new → IsChain (chain_of driver new) → last ≡ latest (chain_of driver new) → RisesFrom now (pending_of driver new) → IsOneQueue now new currents (set lasts driver last)
stays_one_queue now driver old new currents lasts last h there others chain starts rises = record {
  one_each = length-set lasts driver last ∙ h.one_each;
  starts = λ k. elim (cases_eq k driver) [
    | inl same ↦ ap (λ (d : ℕ). get_or (set lasts driver last) d None) same ∙ get_or-set_same lasts driver last None there ∙ starts ∙ ap (λ (d : ℕ). latest (chain_of d new)) (sym same)
    | inr apart ↦ get_or-set_other lasts driver k last None apart ∙ h.starts k ∙ ap latest (sym (others k apart))
  ];
  chained = λ k. elim (cases_eq k driver) [
    | inl same ↦ subst (λ (d : ℕ). IsChain (chain_of d new)) (sym same) chain
    | inr apart ↦ subst IsChain (sym (others k apart)) (h.chained k)
  ];
  not_past = λ k. elim (cases_eq k driver) [
    | inl same ↦ subst (λ (d : ℕ). RisesFrom now (pending_of d new)) (sym same) rises
    | inr apart ↦ subst (λ (c : List Keyed). RisesFrom now (rising c)) (sym (others k apart)) (h.not_past k)
  ];
}

-- each driver's transactions rise from the present
pub all_rise : (now number : ℕ) (currents : List Level) (es : List Keyed) → ((driver : ℕ) → RisesFrom now (pending_of driver es)) → AllRise now (drivers_from number currents es)
all_rise now number [] es h = tt
all_rise now number (c ∷ currents) es h = (h number, all_rise now (suc number) currents es h)

-- the table has the time of the last entry of a driver that is there
pub last_is : (now driver : ℕ) (es : List Keyed) (currents : List Level) (lasts : List (Option ℕ)) (last : Option ℕ) → IsOneQueue now es currents lasts → driver < length lasts
    → last ≡ get_or lasts driver last → last ≡ latest (chain_of driver es)
last_is now driver es currents lasts last h there read = get_or_read lasts driver last there read None ∙ h.starts driver

-- a driver with entries is there
pub driver_is_there : (now driver : ℕ) (es : List Keyed) (currents : List Level) (lasts : List (Option ℕ)) (time : ℕ) → IsOneQueue now es currents lasts
    → latest (chain_of driver es) ≡ Some time → driver < length lasts
driver_is_there now driver es currents lasts time h last = elim (cases_lt driver (length lasts)) [
  | inl lt ↦ lt
  | inr ge ↦ let no : None ≡ Some time = sym (get_or_past lasts driver None ge) ∙ h.starts driver ∙ last in cc
]

-- a driver that is there has a time of its last entry, or none
pub has_last : (driver : ℕ) (content : Content) (now : ℕ) (currents : List Level) (es : List Keyed) (lasts : List (Option ℕ)) → record { now = now; drivers = drivers_from 0 currents es } ≡ content
    → length lasts ≡ length currents → driver < length content.drivers → driver < length lasts
has_last driver content now currents es lasts view one_each there = omega (arith, there, ap (λ (s : Content). length s.drivers) view, length-drivers 0 currents es, one_each)

-- ---- an assignment

sent_by : (driver : ℕ) (change : List Transaction → List Transaction) (now : ℕ) (kind : Kind) (value : Level) (delay : ℕ) (ds : List Driver) → AllRise now ds
    → ((xs : List Transaction) → RisesFrom now xs → change xs ≡ pending_after kind now value delay xs) → changed driver (with_pending change) ds ≡ changed driver (send now kind value delay) ds
sent_by driver change now kind value delay [] h same = refl
sent_by zero change now kind value delay (d ∷ ds) h same = ap (λ (xs : List Transaction). (record { current = d.current; pending = xs }) ∷ ds) (same d.pending h.0)
sent_by (suc driver) change now kind value delay (d ∷ ds) h same = ap (λ (xs : List Driver). d ∷ xs) (sent_by driver change now kind value delay ds h.1 same)

pub sent_is : (driver now : ℕ) (kind : Kind) (value : Level) (delay : ℕ) (ds : List Driver) → AllRise now ds
    → changed driver (with_pending (λ pending. left_by kind value (with_new pending (now + delay) value))) ds ≡ changed driver (send now kind value delay) ds
sent_is driver now kind value delay ds h =
    sent_by driver (λ (pending : List Transaction). left_by kind value (with_new pending (now + delay) value)) now kind value delay ds h (λ xs rises. left_is kind now value delay xs rises)

pub length-changed : (i : ℕ) (change : Driver → Driver) (ds : List Driver) → length (changed i change ds) ≡ length ds
length-changed i change [] = refl
length-changed zero change (d ∷ ds) = refl
length-changed (suc i) change (d ∷ ds) = ap suc (length-changed i change ds)
