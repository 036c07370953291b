-- A fold goes on with the element at a number.
use Rattle.std.proofs.Common.{◌≡◌, ℕ, ◌+◌, ◌<◌, List, [], ◌∷◌, ◌++◌, length, take, get_or, sym, ◌∙◌, ap}
use Rattle.std.specs.List.{fold}
use Rattle.std.proofs.lemmas.List.{take_more}
use Rattle.std.proofs.lemmas.List.Sums.{fold-append}

pub fold-turn : {A C : Type 0} (f : C → A → C) (first : C) (xs : List A) (i : ℕ) (x : A) (old new : C) → i < length xs → x ≡ get_or xs i x → old ≡ fold f first (take i xs) → new ≡ f old x → new ≡ fold f first (take (i + 1) xs)
fold-turn f first xs i x old new within is before put =
    put ∙ ap (λ y. f y x) before ∙ sym (fold-append f first (take i xs) (x ∷ [])) ∙ sym (ap (fold f first) (take_more xs i x within ∙ ap (λ y. take i xs ++ y ∷ []) (sym is)))
