-- What a call on the variable of a number changes and gives.
use Rattle.std.proofs.Common.{◌≡◌, ℕ, ◌+◌, ◌<◌, ◌≤◌, List, length, get_or, map, set, take, sym, ◌∙◌, ap}
use Rattle.std.specs.Prelude.{slice_set, Option, None}
use Rattle.std.specs.List.{fold}
use Rattle.std.specs.Option.{option_map_or}
use Rattle.std.proofs.lemmas.List.{map-set, set-get_or}
use Rattle.std.proofs.lemmas.List.Sums.{fold_more}
use Rattle.std.proofs.lemmas.Option.{slice_get-get_or, slice_get_past}
use Rattle.vital_machine.specs.declared.slot.Slot.{Slot}
use Rattle.vital_machine.specs.Machine.{changed, given_by}

-- ---- one variable

pub changed-at : (number : ℕ) (change : Slot → Slot) (slots : List Slot) (d new : Slot) → number < length slots → new ≡ change (get_or slots number d) → slice_set slots number new ≡ changed number change slots
changed-at number change slots d new there by =
    ap (slice_set slots number) by
    ∙ ap (λ o. option_map_or (λ s. slice_set slots number (change s)) o slots) (sym (slice_get-get_or slots number d there))

pub given-at : {B : Type 0} (number : ℕ) (call : Slot → (Slot × Option B)) (slots : List Slot) (d : Slot) (out : Option B) → number < length slots → out ≡ (call (get_or slots number d)).1 → out ≡ given_by number call slots
given-at number call slots d out there by =
    by ∙ ap (λ o. option_map_or (λ held. (call held).1) o None) (sym (slice_get-get_or slots number d there))

pub given-past : {B : Type 0} (number : ℕ) (call : Slot → (Slot × Option B)) (slots : List Slot) → length slots ≤ number → None ≡ given_by number call slots
given-past number call slots past =
    ap (λ o. option_map_or (λ held. (call held).1) o None) (sym (slice_get_past slots number past))

-- ---- lists

-- What is seen of a list stays where what is put is seen as what was there.
pub map-same_set : {A B : Type 0} (see : A → B) (xs : List A) (i : ℕ) (new d : A) → see new ≡ see (get_or xs i d) → map see (slice_set xs i new) ≡ map see xs
map-same_set see xs i new d same =
    map-set see xs i new
    ∙ ap (λ b. set (map see xs) i b) same
    ∙ sym (map-set see xs i (get_or xs i d))
    ∙ ap (map see) (set-get_or xs i d)

-- One step of a fold.
pub fold-turn : {S X : Type 0} (step : S → X → S) (began before after : S) (xs : List X) (i : ℕ) (x : X) → i < length xs → x ≡ get_or xs i x → before ≡ fold step began (take i xs) → after ≡ step before x → after ≡ fold step began (take (i + 1) xs)
fold-turn step began before after xs i x there is so_far done =
    done
    ∙ ap (λ b. step b x) so_far
    ∙ ap (step (fold step began (take i xs))) is
    ∙ sym (fold_more step began xs i x there)
