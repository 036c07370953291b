-- What is put for each process of a cell, and one after the other.
use Rattle.std.proofs.Common.{◌≡◌, List, [], ◌++◌, map, ◌∙◌, ap}
use Rattle.std.specs.List.{flat_map}
use Rattle.std.proofs.lemmas.List.Folds.{flat_map-map}
use Rattle.vital_nodes.specs.declared.stmt.Process.{Process}
use Rattle.vital_names.specs.Sites.{Cell}

-- processes of one cell, each beside that cell
pub of-processes : {B : Type 0} (give : Cell → Process → List B) (cell : Cell) (us : List (Cell × Process)) (ps : List Process) → us ≡ map (λ p. (cell, p)) ps → flat_map (λ u. give u.0 u.1) us ≡ flat_map (give cell) ps
of-processes give cell us ps are =
    ap (flat_map (λ (u : Cell × Process). give u.0 u.1)) are
    ∙ flat_map-map (λ (u : Cell × Process). give u.0 u.1) (λ p. (cell, p)) ps

-- one put, into a list that was empty
pub put-first : {B : Type 0} (start first all a : List B) → start ≡ [] → all ≡ start ++ first → first ≡ a → all ≡ a
put-first start first all a none put is = put ∙ ap (λ xs. xs ++ first) none ∙ is

-- three puts one after the other
pub put-three : {B : Type 0} (start first second third one two all a b c : List B) → start ≡ [] → one ≡ start ++ first → two ≡ one ++ second → all ≡ two ++ third → first ≡ a → second ≡ b → third ≡ c → all ≡ (a ++ b) ++ c
put-three start first second third one two all a b c none before behind last is-a is-b is-c =
    last
    ∙ ap (λ xs. xs ++ third) (behind ∙ ap (λ xs. xs ++ second) (put-first start first one a none before is-a) ∙ ap (λ xs. a ++ xs) is-b)
    ∙ ap (λ xs. (a ++ b) ++ xs) is-c
