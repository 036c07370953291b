-- One turn of the walk.
use Rattle.std.proofs.Common.{◌≡◌, ℕ, ◌<◌, List, [], ◌∷◌, ◌++◌, length, map, take, drop, reverse, refl, ap, sym, ◌∙◌, arith, append_assoc}
use Rattle.std.proofs.lemmas.List.{map-append, reverse-append, reverse-reverse, length-map, take-map, drop-map}
use Rattle.std.proofs.lemmas.Grind.{flat_map-append}
use Rattle.std.proofs.Math.Seq.{take-append_seam, drop-append_seam}
use Rattle.vital_nodes.specs.Nodes.{Node, parts_of}
use Rattle.vital_nodes.specs.Walk.{nodes_of, nodes_of_all}
use Rattle.vital_nodes.specs.declared.node.Node.{Node as Node'}
use Rattle.vital_nodes.specs.Seen.{seen}

map-reverse : {A B : Type 0} (f : A → B) (xs : List A) → map f (reverse xs) ≡ reverse (map f xs)
map-reverse f [] = refl
map-reverse f (x ∷ xs) =
    ap (map f) (reverse-append (x ∷ []) xs)
    ∙ map-append f (reverse xs) (x ∷ [])
    ∙ ap (λ ys. ys ++ f x ∷ []) (map-reverse f xs)
    ∙ sym (reverse-append (f x ∷ []) (map f xs))

-- what was put behind a list is reversed there
pub put-reversed : (n : ℕ) (old mid new : List Node') (us : List Node) → n ≡ length old → map seen mid ≡ map seen old ++ us → new ≡ take n mid ++ reverse (drop n mid) → map seen new ≡ map seen old ++ reverse us
put-reversed n old mid new us is put turned =
    ap (map seen) turned
    ∙ map-append seen (take n mid) (reverse (drop n mid))
    ∙ ap (λ vs. vs ++ map seen (reverse (drop n mid))) (sym (take-map seen n mid) ∙ ap (take n) put ∙ ap (λ m. take m (map seen old ++ us)) (is ∙ sym (length-map old seen)) ∙ take-append_seam (map seen old) us)
    ∙ ap (λ vs. map seen old ++ vs) (map-reverse seen (drop n mid) ∙ ap reverse (sym (drop-map seen n mid) ∙ ap (drop n) put ∙ ap (λ m. drop m (map seen old ++ us)) (is ∙ sym (length-map old seen)) ∙ drop-append_seam (map seen old) us))

-- what is still to come, of those that wait
abbrev pub ahead : List Node' → List Node
ahead waiting = reverse (map seen waiting)

-- parts that are put on those that wait, the last first, come before them
ahead-put : (waiting new : List Node') (parts : List Node) → map seen new ≡ map seen waiting ++ reverse parts → ahead new ≡ parts ++ ahead waiting
ahead-put waiting new parts put =
    ap reverse put
    ∙ reverse-append (map seen waiting) (reverse parts)
    ∙ ap (λ vs. vs ++ ahead waiting) (reverse-reverse parts)

-- The law of the walk.
abbrev Law : Type 0
Law = (v : Node) → nodes_of v ≡ v ∷ nodes_of_all (parts_of v)

-- the node that is taken, and then its parts and those that wait
pub ahead-taken : Law → (waiting old new : List Node') (v : Node') → old ≡ waiting ++ v ∷ [] → map seen new ≡ map seen waiting ++ reverse (parts_of (seen v)) → nodes_of_all (ahead old) ≡ seen v ∷ nodes_of_all (ahead new)
ahead-taken law waiting old new v popped put =
    ap (λ vs. nodes_of_all (ahead vs)) popped
    ∙ ap nodes_of_all (ahead-put waiting (waiting ++ v ∷ []) (seen v ∷ []) (map-append seen waiting (v ∷ [])))
    ∙ ap (λ vs. vs ++ nodes_of_all (ahead waiting)) (law (seen v))
    ∙ ap (λ vs. seen v ∷ vs) (sym (flat_map-append nodes_of (parts_of (seen v)) (ahead waiting)))
    ∙ ap (λ vs. seen v ∷ nodes_of_all vs) (sym (ahead-put waiting new (parts_of (seen v)) put))

pub fewer : {A : Type 0} (xs ys : List A) (x : A) → xs ≡ x ∷ ys → length ys < length xs
fewer xs ys x is = omega (arith, ap length is)

-- the node that is taken is the next of all
pub turned : (taken new : List Node') (v : Node') (us vs all : List Node) → new ≡ taken ++ v ∷ [] → us ≡ seen v ∷ vs → map seen taken ++ us ≡ all → map seen new ++ vs ≡ all
turned taken new v us vs all push next before =
    ap (λ ns. map seen ns ++ vs) push
    ∙ ap (λ ns. ns ++ vs) (map-append seen taken (v ∷ []))
    ∙ append_assoc (map seen taken) (seen v ∷ []) vs
    ∙ ap (λ ws. map seen taken ++ ws) (sym next)
    ∙ before

-- before the first turn all nodes are those of the parts
pub begun : (taken waiting parts : List Node') → taken ≡ [] → waiting ≡ reverse parts → map seen taken ++ nodes_of_all (ahead waiting) ≡ nodes_of_all (map seen parts)
begun taken waiting parts none is =
    ap (λ ns. map seen ns ++ nodes_of_all (ahead waiting)) none
    ∙ ap (λ ns. nodes_of_all (ahead ns)) is
    ∙ ap (λ vs. nodes_of_all (reverse vs)) (map-reverse seen parts)
    ∙ ap nodes_of_all (reverse-reverse (map seen parts))
