-- How many tokens stand before a closing parenthesis, token by token.
use Rattle.std.proofs.Common.{◌≡◌, ◌≢◌, ℕ, ◌+◌, ◌-◌, ◌<◌, ◌≤◌, List, ◌∷◌, length, get_or, drop, refl, ap, ◌∙◌, add-one, drop-cons}
use Rattle.std.proofs.Math.ListN.{drop_of_length-le}
use Rattle.std.proofs.lemmas.Bool.{ne_eqb}
use Rattle.vital_lex.specs.declared.token_list.Token.{Token}
use Rattle.vital_sdf.specs.Reading.{closing}

here : (tokens : List Token) (i d : ℕ) (t : Token) → i < length tokens → closing d (drop i tokens) ≡ closing d (get_or tokens i t ∷ drop (i + 1) tokens)
here tokens i d t below = ap (closing d) (rw (add-one, drop-cons tokens i t) refl)

pub opens : (tokens : List Token) (i d : ℕ) (t : Token) → i < length tokens → (get_or tokens i t).kind ≡ 0 → closing d (drop i tokens) ≡ 1 + closing (d + 1) (drop (i + 1) tokens)
unfolding closing
opens tokens i d t below is = here tokens i d t below ∙ rw is refl

pub closes : (tokens : List Token) (i d : ℕ) (t : Token) → i < length tokens → (get_or tokens i t).kind ≡ 1 → d ≢ 0 → closing d (drop i tokens) ≡ 1 + closing (d - 1) (drop (i + 1) tokens)
unfolding closing
closes tokens i d t below is some = here tokens i d t below ∙ rw (is, ne_eqb d 0 some) refl

pub stops : (tokens : List Token) (i d : ℕ) (t : Token) → i < length tokens → (get_or tokens i t).kind ≡ 1 → d ≡ 0 → closing d (drop i tokens) ≡ 0
unfolding closing
stops tokens i d t below is none = here tokens i d t below ∙ rw (is, none) refl

pub passes : (tokens : List Token) (i d : ℕ) (t : Token) → i < length tokens → (get_or tokens i t).kind ≢ 0 → (get_or tokens i t).kind ≢ 1
    → closing d (drop i tokens) ≡ 1 + closing d (drop (i + 1) tokens)
unfolding closing
passes tokens i d t below zero one = here tokens i d t below ∙ rw (ne_eqb _ 0 zero, ne_eqb _ 1 one) refl

pub ends : (tokens : List Token) (i d : ℕ) → length tokens ≤ i → closing d (drop i tokens) ≡ 0
unfolding closing
ends tokens i d past = rw drop_of_length-le refl
