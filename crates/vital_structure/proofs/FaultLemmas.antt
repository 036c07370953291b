-- One more of the contents of a unit.
use Rattle.std.proofs.Common.{◌≡◌, ℕ, ◌+◌, ◌<◌, List, ◌∷◌, length, take, drop, map, get_or, refl, sym, ◌∙◌, ap}
use Rattle.std.specs.Prelude.{Bool}
use Rattle.std.specs.Option.{option_or}
use Rattle.std.proofs.lemmas.List.{drop_more}
use Rattle.vital_structure.specs.declared.content.Content.{Content as Content'}
use Rattle.vital_structure.specs.Contents.{Content, Signal, WrongType, NotStructural, Nothing, lent}
use Rattle.vital_structure.specs.Faults.{fault_of, fault_of_signal, first_fault_behind, is_declared}
use Rattle.vital_nodes.proofs.Lists.{map-take}

-- a fault depends on the names that are declared before it alone
pub same-fault : (f g : List ℕ → Bool) (c : Content) → ((q : List ℕ) → f q ≡ g q) → fault_of f c ≡ fault_of g c
same-fault f g (Signal s) same = ap (λ b. fault_of_signal b s) (same s.identifier.name)
same-fault f g (WrongType i) same = refl
same-fault f g (NotStructural place) same = refl
same-fault f g Nothing same = refl

-- the first fault is that of the next content, or else comes behind it
pub first-more : (cs : List Content') (i : ℕ) (x : Content') → i < length cs → x ≡ get_or cs i x → first_fault_behind (map lent (take i cs)) (map lent (drop i cs)) ≡ option_or (fault_of (is_declared (map lent (take i cs))) (lent x)) (first_fault_behind (map lent (take (i + 1) cs)) (map lent (drop (i + 1) cs)))
first-more cs i x within is =
    let earlier = map lent (take i cs) in
    let others = map lent (drop (i + 1) cs) in
    ap (λ ds. first_fault_behind earlier (map lent ds)) (drop_more cs i x within)
    ∙ ap (λ y. first_fault_behind earlier (lent y ∷ others)) (sym is)
    ∙ ap (λ e. option_or (fault_of (is_declared earlier) (lent x)) (first_fault_behind e others)) (sym (map-take lent cs i x within is))
