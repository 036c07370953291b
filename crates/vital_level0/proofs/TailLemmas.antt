-- Texts that begin with an underscore, and what stands before one.
use Rattle.std.proofs.Common.{◌≡◌, ℕ, true, false, List, [], ◌∷◌, ◌++◌, refl, ap}
use Rattle.std.specs.Prelude.{Bool, cond, ◌==◌, ◌||◌}
use Rattle.std.proofs.lemmas.Bool.{eqb-true}
use Rattle.vital_level0.specs.Prefixes.{underscore}
use Rattle.vital_level0.specs.Split.{holds_underscore}
use Rattle.vital_level0.specs.Steps.{front_part, rest_after}

-- a text is empty or begins with an underscore
abbrev pub IsTail : List ℕ → Type 0
IsTail [] = Unit {0}
IsTail (b ∷ bs) = b ≡ underscore

or-false : (a b : Bool) → (a || b) ≡ false → (a ≡ false) × (b ≡ false)
or-false true b h = let bad : true ≡ false = h in cc
or-false false b h = (refl, h)

pub front_part-append : (w t : List ℕ) → holds_underscore w ≡ false → IsTail t → front_part (w ++ t) ≡ w
front_part-append [] [] whole tail = refl
front_part-append [] (b ∷ bs) whole tail = rw tail refl
front_part-append (c ∷ cs) t whole tail =
    let parts = or-false (c == underscore) (holds_underscore cs) whole in
    rw parts.0 (ap (λ xs. c ∷ xs) (front_part-append cs t parts.1 tail))

pub rest_after-append : (w t : List ℕ) → holds_underscore w ≡ false → IsTail t → rest_after (w ++ t) ≡ t
rest_after-append [] [] whole tail = refl
rest_after-append [] (b ∷ bs) whole tail = rw tail refl
rest_after-append (c ∷ cs) t whole tail =
    let parts = or-false (c == underscore) (holds_underscore cs) whole in
    rw parts.0 (rest_after-append cs t parts.1 tail)

joins-step : (b : ℕ) (bs : List ℕ) (c : Bool) → front_part bs ++ rest_after bs ≡ bs → cond c [] (b ∷ front_part bs) ++ cond c (b ∷ bs) (rest_after bs) ≡ b ∷ bs
joins-step b bs true ih = refl
joins-step b bs false ih = ap (λ xs. b ∷ xs) ih

pub front-joins-rest : (s : List ℕ) → front_part s ++ rest_after s ≡ s
front-joins-rest [] = refl
front-joins-rest (b ∷ bs) = joins-step b bs (b == underscore) (front-joins-rest bs)

whole-step : (b : ℕ) (bs : List ℕ) (c : Bool) → (b == underscore) ≡ c → holds_underscore (front_part bs) ≡ false → holds_underscore (cond c [] (b ∷ front_part bs)) ≡ false
whole-step b bs true is ih = refl
whole-step b bs false is ih = rw is ih

pub front-whole : (s : List ℕ) → holds_underscore (front_part s) ≡ false
front-whole [] = refl
front-whole (b ∷ bs) = whole-step b bs (b == underscore) refl (front-whole bs)

tail-step : (b : ℕ) (bs : List ℕ) (c : Bool) → (b == underscore) ≡ c → IsTail (rest_after bs) → IsTail (cond c (b ∷ bs) (rest_after bs))
tail-step b bs true is ih = eqb-true b underscore is
tail-step b bs false is ih = ih

pub rest-tail : (s : List ℕ) → IsTail (rest_after s)
rest-tail [] = tt
rest-tail (b ∷ bs) = tail-step b bs (b == underscore) refl (rest-tail bs)

-- what follows a tail that is not empty does not matter
pub tail-append : (s t : List ℕ) → IsTail s → IsTail t → IsTail (s ++ t)
tail-append [] t at s = s
tail-append (b ∷ bs) t at s = at
