-- Labels with dots between them.
use Rattle.std.proofs.Common.{◌≡◌, ℕ, List, [], ◌∷◌, ◌++◌, map, refl, sym, ap, ◌∙◌, append-nil, append_assoc}
use Rattle.std.proofs.lemmas.List.{map-append}
use Rattle.std.specs.Prelude.{codes}
use Rattle.vital_netlist.specs.Names.{dotted, path_name, with_dots}

dotted-last : (a last : List ℕ) (rest : List (List ℕ)) → dotted a (rest ++ last ∷ []) ≡ with_dots (a ∷ rest) ++ last
dotted-last a last [] = ap (λ t. t ++ last) (sym (append-nil (a ++ codes ".")))
dotted-last a last (b ∷ rest) =
    ap (λ t. (a ++ codes ".") ++ t) (dotted-last b last rest) ∙ sym (append_assoc (a ++ codes ".") (with_dots (b ∷ rest)) last)

-- the path is the labels before the last one, a dot behind each, and then the last one
path_of_labels : (others : List (List ℕ)) (last : List ℕ) → path_name (others ++ last ∷ []) ≡ with_dots others ++ last
path_of_labels [] last = refl
path_of_labels (a ∷ others) last = dotted-last a last others

path_of_parts : {A : Type 0} (seen : A → List ℕ) (all others : List A) (last : A) (dots path : List ℕ) → all ≡ others ++ last ∷ [] → dots ≡ with_dots (map seen others) → path ≡ dots ++ seen last → path ≡ path_name (map seen all)
path_of_parts seen all others last dots path parts is put =
    put
    ∙ ap (λ text. text ++ seen last) is
    ∙ sym (path_of_labels (map seen others) (seen last))
    ∙ ap path_name (sym (map-append seen others (last ∷ [])))
    ∙ ap (λ ls. path_name (map seen ls)) (sym parts)

-- the same behind a text
pub path_behind : {A : Type 0} (seen : A → List ℕ) (text : List ℕ) (all others : List A) (last : A) (dots path : List ℕ) → all ≡ others ++ last ∷ [] → dots ≡ text ++ with_dots (map seen others) → path ≡ dots ++ seen last → path ≡ text ++ path_name (map seen all)
path_behind seen text all others last dots path parts is put =
    let own = with_dots (map seen others) in
    put
    ∙ ap (λ t. t ++ seen last) is
    ∙ append_assoc text own (seen last)
    ∙ ap (λ t. text ++ t) (path_of_parts seen all others last own (own ++ seen last) parts refl refl)
