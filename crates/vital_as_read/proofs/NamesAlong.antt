-- Names among nodes of which each has its identifier at a token of its own stand along the tokens.
use Rattle.std.proofs.Common.{◌≡◌, List, ◌∷◌, ◌++◌, sym, ap, ◌∙◌, subst}
use Rattle.std.specs.List.{cons_option, filter_map}
use Rattle.std.proofs.lemmas.List.Elements.{filter_map-append}
use Rattle.vital_lex.specs.declared.token_list.Token.{Token}
use Rattle.vital_nodes.specs.Nodes.{Node, Name, parts_of}
use Rattle.vital_nodes.specs.Walk.{nodes_of_all}
use Rattle.vital_nodes.specs.declared.identifier.Identifier.{Identifier}
use Rattle.vital_shapes.proofs.Along.{Source}
use Rattle.vital_nodes.proofs.Values.{WalkLaw}
use Rattle.vital_as_read.specs.AsRead.{first_identifier}
use Rattle.vital_as_read.proofs.Each.{Each, each_joined, ends, here, over}
use Rattle.vital_as_read.proofs.Strictly.{Strictly, named, other, past, stay}

-- the identifiers of all names among nodes
abbrev pub names_in : List Node → List Identifier
names_in vs = filter_map first_identifier (nodes_of_all vs)

module _ (walked : WalkLaw) where
  pub names_of_first : (v : Node) (vs : List Node) → names_in (v ∷ vs) ≡ cons_option (first_identifier v) (names_in (parts_of v) ++ names_in vs)
  names_of_first v vs =
      ap (λ (ns : List Node). filter_map first_identifier (ns ++ nodes_of_all vs)) (walked v)
      ∙ ap (cons_option (first_identifier v)) (filter_map-append first_identifier (nodes_of_all (parts_of v)) (nodes_of_all vs))

  pub names_along : {o : Source} {ts us : List Token} {vs : List Node} → Strictly o ts vs us → Each o (λ x. x) ts (names_in vs) us
  names_along stay = ends
  names_along (past a) = over (names_along a)
  names_along {o} {ts} {us} (other {v = v} {vs = vs} nameless inside a) =
      subst (λ (xs : List Identifier). Each o (λ x. x) ts xs us)
      (sym (names_of_first v vs ∙ ap (λ x. cons_option x (names_in (parts_of v) ++ names_in vs)) nameless))
      (each_joined (names_along inside) (names_along a))
  names_along {o} {us = us} (named {t = t} {ts = ts} {r = r} {vs = vs} is inside a) =
      subst (λ (xs : List Identifier). Each o (λ x. x) (t ∷ ts) xs us) (sym (names_of_first (Name r) vs)) (here is (each_joined (names_along inside) (names_along a)))
