-- What is read of a list by a number, if anything is there.
use Rattle.std.proofs.Common.{◌≡◌, ℕ, zero, suc, ◌<◌, ◌≤◌, List, [], ◌∷◌, length, get_or, map, refl, sym, ◌∙◌, ap, arith}
use Rattle.std.specs.Prelude.{slice_get, unwrap_or, Option, Some, None}
use Rattle.std.specs.Borrow.{Bor}
use Rattle.std.specs.Option.{option_copied, option_map}
use Rattle.std.proofs.lemmas.Option.{get_or_from_slice_get, slice_get-map, unwrap_or-slice_get}
use Rattle.std.specs.Slice.{IsItemAt}

within : {A : Type 0} (xs : List A) (i : ℕ) (x : A) → i < length xs → x ≡ get_or xs i x → Some x ≡ slice_get xs i
within [] i x there is = absurd (omega arith)
within (y ∷ ys) zero x there is = ap Some is
within (y ∷ ys) (suc i) x there is = within ys i x (omega arith) is

beyond : {A : Type 0} (xs : List A) (i : ℕ) → length xs ≤ i → None ≡ slice_get xs i
beyond [] i past = refl
beyond (y ∷ ys) zero past = absurd (omega arith)
beyond (y ∷ ys) (suc i) past = beyond ys i (omega arith)

pub read : {A : Type 0} (xs : List A) (i : ℕ) (r : Option (Bor A)) → IsItemAt xs i r → option_copied r ≡ slice_get xs i
read xs i None is = beyond xs i is.3
read xs i (Some x) is = within xs i x.now is.3.0 is.1

-- What is made of it is what is read of all that are made.
pub mapped-at : {A B : Type 0} (make : A → B) (xs : List A) (i : ℕ) (x : A) (d : B) → Some x ≡ slice_get xs i → make x ≡ get_or (map make xs) i d
mapped-at make xs i x d is =
    sym (get_or_from_slice_get (map make xs) i (make x) d (slice_get-map make xs i ∙ ap (option_map make) (sym is)))

pub mapped-past : {A B : Type 0} (make : A → B) (xs : List A) (i : ℕ) (d : B) → None ≡ slice_get xs i → d ≡ get_or (map make xs) i d
mapped-past make xs i d is =
    ap (λ o. unwrap_or o d) (sym (slice_get-map make xs i ∙ ap (option_map make) (sym is))) ∙ unwrap_or-slice_get (map make xs) i d
