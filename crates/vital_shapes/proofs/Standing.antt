-- What stands along the tokens of a file stands at its tokens, and does not fall where their starts do not.
use Rattle.std.proofs.Common.{◌≡◌, zero, suc, ◌≤◌, List, [], ◌∷◌, ◌++◌, slice_index_or, map, All, AllPairs, Contains, refl, sym, ap, ◌∙◌, subst, subst₂, le_of_eq, le_trans, arith}
use Rattle.std.specs.List.{flat_map}
use Rattle.std.proofs.lemmas.List.Elements.{All-cons, All-nil}
use Rattle.std.proofs.lemmas.List.Kept.{AllPairs-cons}
use Rattle.vital_base.specs.declared.place.Place.{Place}
use Rattle.vital_lex.specs.declared.token_list.Token.{Token}
use Rattle.vital_nodes.specs.Nodes.{Node, parts_of, parts_of_unit}
use Rattle.vital_nodes.specs.Places.{place_of}
use Rattle.vital_nodes.specs.Walk.{nodes_of, nodes_of_all, nodes_of_unit}
use Rattle.vital_nodes.specs.declared.identifier.Identifier.{Identifier}
use Rattle.vital_nodes.specs.declared.unit.Unit.{Unit as Unit'}
use Rattle.vital_shapes.specs.Reading.{first_token}
use Rattle.vital_shapes.specs.Standing.{IsAtToken, IsNotAfter, StartsRise, StandAtTokens, PlacesRise, nodes_of_units, places_of_units}
use Rattle.vital_shapes.proofs.Along.{Source, Stands, Along, stay, past, stand, flat-append}
use Rattle.vital_shapes.proofs.InOrder.{places_in_order}
use Rattle.vital_shapes.proofs.UnitsAlong.{HeadAlong, head_ends, next_identifier, UnitsAlong, no_unit, next_unit}

-- what stands at places by itself along the tokens
data Marks (o : Source) {A : Type 0} (at : A → Place) : List Token → List A → List Token → Type 0 where
  none : {ts : List Token} → Marks o at ts [] ts
  over : {t : Token} {ts us : List Token} {vs : List A} → Marks o at ts vs us → Marks o at (t ∷ ts) vs us
  mark : {ts us : List Token} {v : A} {vs : List A} → Stands o ts (at v) → Marks o at ts vs us → Marks o at ts (v ∷ vs) us

marks_joined : {o : Source} {A : Type 0} {at : A → Place} {ts us ws : List Token} {vs xs : List A} → Marks o at ts vs us → Marks o at us xs ws → Marks o at ts (vs ++ xs) ws
marks_joined none b = b
marks_joined (over a) b = over (marks_joined a b)
marks_joined (mark here a) b = mark here (marks_joined a b)

-- the places of nodes by themselves
marked_places : {o : Source} {ts us : List Token} {vs : List Node} → Marks o place_of ts vs us → Marks o (λ p. p) ts (map place_of vs) us
marked_places none = none
marked_places (over a) = over (marked_places a)
marked_places (mark here a) = mark here (marked_places a)

-- a node and all that it holds
abbrev pub Walked : Type 0
Walked = (v : Node) → nodes_of v ≡ v ∷ nodes_of_all (parts_of v)

marks_of : {o : Source} {ts us : List Token} {vs : List Node} → Walked → Along o ts vs us → Marks o place_of ts (nodes_of_all vs) us
marks_of walked stay = none
marks_of walked (past a) = over (marks_of walked a)
marks_of {o} {ts} {us} walked (stand {v = v} {vs = vs} here inside a) =
    subst (λ (l : List Node). Marks o place_of ts (l ++ nodes_of_all vs) us) (sym (walked v)) (mark here (marks_joined (marks_of walked inside) (marks_of walked a)))

-- ---- at tokens

there_too : (t x : Token) (ts : List Token) → Contains ts x → Contains (t ∷ ts) x
there_too t x ts c = let inside = c.1 in (suc c.0, omega arith, c.2)

at_first : {o : Source} {ts : List Token} {p : Place} → Stands o ts p → IsAtToken o.file o.text ts p
at_first {ts = ts} here = (first_token ts, subst (λ (l : List Token). Contains l (first_token ts)) (sym here.there) (zero, omega arith, refl), here.is_place)

marks_at_tokens : {o : Source} {A : Type 0} {at : A → Place} {ts us : List Token} {vs : List A} → Marks o at ts vs us → All (λ v. IsAtToken o.file o.text ts (at v)) vs
marks_at_tokens none = All-nil _
marks_at_tokens (over {t = t} {ts = ts} a) = λ k d inside. let it = marks_at_tokens a k d inside in (it.0, there_too t it.0 ts it.1, it.2)
marks_at_tokens {o} {at = at} {ts = ts} (mark {v = v} {vs = vs} here a) = All-cons (λ x. IsAtToken o.file o.text ts (at x)) v vs (at_first here) (marks_at_tokens a)

-- ---- in order

later : (t : Token) (ts : List Token) → StartsRise (t ∷ ts) → StartsRise ts
later t ts rises = λ i j d below inside. rises (suc i) (suc j) d (omega arith) (omega arith)

first_is_least : (ts : List Token) (t : Token) → StartsRise ts → Contains ts t → (first_token ts).start ≤ t.start
first_is_least [] t rises c = let inside = c.1 in absurd (omega arith)
first_is_least (x ∷ ts) t rises (zero, inside, is) = le_of_eq (ap (λ (y : Token). y.start) is)
first_is_least (x ∷ ts) t rises (suc k, inside, is) = le_trans (rises zero (suc k) t (omega arith) inside) (le_of_eq (ap (λ (y : Token). y.start) is))

not_before_first : (o : Source) (ts : List Token) (p q : Place) → StartsRise ts → Stands o ts p → IsAtToken o.file o.text ts q → IsNotAfter p q
not_before_first o ts p q rises here at = subst₂ (λ x y. IsNotAfter x y) (sym here.is_place) (sym at.2)
    (places_in_order o.file o.text (first_token ts).start at.0.start (first_is_least ts at.0 rises at.1))

marks_rise : {o : Source} {A : Type 0} {at : A → Place} {ts us : List Token} {vs : List A} → Marks o at ts vs us → StartsRise ts → AllPairs (λ v w. IsNotAfter (at v) (at w)) vs
marks_rise none rises = λ i j d below inside. absurd (omega arith)
marks_rise (over {t = t} {ts = ts} a) rises = marks_rise a (later t ts rises)
marks_rise {o} {at = at} {ts = ts} (mark {v = v} {vs = vs} here a) rises = AllPairs-cons (λ x y. IsNotAfter (at x) (at y)) v vs
    (λ k d inside. not_before_first o ts (at v) (at (slice_index_or vs k d)) rises here (marks_at_tokens a k d inside))
    (marks_rise a rises)

-- ---- units

units_are : (units : List Unit') → nodes_of_all (flat_map parts_of_unit units) ≡ nodes_of_units units
units_are [] = refl
units_are (x ∷ units) = flat-append nodes_of (parts_of_unit x) (flat_map parts_of_unit units) ∙ ap (λ l. nodes_of_unit x ++ l) (units_are units)

-- the nodes of units stand at tokens, and in order
pub nodes_stand : {o : Source} {ts us : List Token} (units : List Unit') → Walked → Along o ts (flat_map parts_of_unit units) us →
    StandAtTokens o.file o.text ts (nodes_of_units units) × (StartsRise ts → PlacesRise (nodes_of_units units))
nodes_stand {o} {ts} {us} units walked a =
    let marks = subst (λ (l : List Node). Marks o place_of ts l us) (units_are units) (marks_of walked a) in
    (marks_at_tokens marks, λ rises. marks_rise marks rises)

-- and so do the units, the identifiers in their heads, and their nodes
over_tokens : {o : Source} {ts us : List Token} → Along o ts [] us → Marks o (λ p. p) ts [] us
over_tokens stay = none
over_tokens (past a) = over (over_tokens a)

marks_of_head : {o : Source} {ts us : List Token} {xs : List Identifier} → HeadAlong o ts xs us → Marks o (λ p. p) ts (map (λ identifier. identifier.place) xs) us
marks_of_head (head_ends a) = over_tokens a
marks_of_head (next_identifier a here r) = marks_joined (over_tokens a) (mark here (marks_of_head r))

marks_of_units : {o : Source} {ts us : List Token} {units : List Unit'} → Walked → UnitsAlong o ts units us → Marks o (λ p. p) ts (places_of_units units) us
marks_of_units walked (no_unit a) = over_tokens a
marks_of_units walked (next_unit a x r) =
    marks_joined (over_tokens a) (mark x.stands (marks_joined (marks_joined (marks_of_head x.head) (marked_places (marks_of walked x.inside))) (marks_of_units walked r)))

pub units_stand : {o : Source} {ts us : List Token} (units : List Unit') → Walked → UnitsAlong o ts units us →
    All (IsAtToken o.file o.text ts) (places_of_units units) × (StartsRise ts → AllPairs IsNotAfter (places_of_units units))
units_stand units walked a =
    let marks = marks_of_units walked a in
    (marks_at_tokens marks, λ rises. marks_rise marks rises)
