-- Nodes that stand along the tokens of a file, in the order of the text.
use Rattle.std.proofs.Common.{◌≡◌, ℕ, List, [], ◌∷◌, ◌++◌, map, drop, refl, sym, subst}
use Rattle.std.specs.List.{flat_map}
use Rattle.std.proofs.Common.{append_assoc, append-nil}
use Rattle.vital_base.specs.declared.place.Place.{Place}
use Rattle.vital_lex.specs.declared.token_list.Token.{Token}
use Rattle.vital_nodes.specs.Nodes.{Node, parts_of}
use Rattle.vital_nodes.specs.Places.{place_of}
use Rattle.vital_shapes.specs.Reading.{first_token, place_at}

-- a file, by its number and its text
pub record Source : Type 0 where
  pub file : ℕ
  pub text : List ℕ

-- the place of the first of the tokens, which is there
pub record Stands (o : Source) (tokens : List Token) (p : Place) : Type 0 where
  pub there : tokens ≡ first_token tokens ∷ drop 1 tokens
  pub is_place : p ≡ place_at o.file o.text (first_token tokens).start

-- From the first tokens on, and up to the last ones: a token is passed over, or a node stands at it, and all that it holds along
-- the tokens from there on.
pub data Along (o : Source) : List Token → List Node → List Token → Type 0 where
  stay : {ts : List Token} → Along o ts [] ts
  past : {t : Token} {ts us : List Token} {vs : List Node} → Along o ts vs us → Along o (t ∷ ts) vs us
  stand : {ts us ws : List Token} {v : Node} {vs : List Node} →
      Stands o ts (place_of v) → Along o ts (parts_of v) us → Along o us vs ws → Along o ts (v ∷ vs) ws

pub joined : {o : Source} {ts us ws : List Token} {vs xs : List Node} → Along o ts vs us → Along o us xs ws → Along o ts (vs ++ xs) ws
joined stay b = b
joined (past a) b = past (joined a b)
joined (stand here inside a) b = stand here inside (joined a b)

-- without the nodes
pub passing : {o : Source} {ts us : List Token} {vs : List Node} → Along o ts vs us → Along o ts [] us
passing stay = stay
passing (past a) = past (passing a)
passing (stand here inside a) = joined (passing inside) (passing a)

-- with tokens passed over before and after
pub led : {o : Source} {ts us ws : List Token} {vs : List Node} → Along o ts [] us → Along o us vs ws → Along o ts vs ws
led a b = joined a b

pub ended : {o : Source} {ts us ws : List Token} {vs : List Node} → Along o ts vs us → Along o us [] ws → Along o ts vs ws
ended {o} {ts} {us} {ws} {vs} a b = subst (λ (l : List Node). Along o ts l ws) (append-nil vs) (joined a b)

pub along_as : {o : Source} {ts us : List Token} {vs xs : List Node} → vs ≡ xs → Along o ts vs us → Along o ts xs us
along_as {o} {ts} {us} e a = subst (λ (l : List Node). Along o ts l us) e a

-- a token
pub past_first : {o : Source} {ts : List Token} → ts ≡ first_token ts ∷ drop 1 ts → Along o ts [] (drop 1 ts)
past_first {o} {ts} there = subst (λ (l : List Token). Along o l [] (drop 1 ts)) (sym there) (past stay)

-- a node that stands at the first of the tokens, with all that it holds up to others
pub record Whole (o : Source) (ts : List Token) (v : Node) (us : List Token) : Type 0 where
  pub stands : Stands o ts (place_of v)
  pub inside : Along o ts (parts_of v) us

pub one : {o : Source} {ts us : List Token} {v : Node} → Whole o ts v us → Along o ts (v ∷ []) us
one w = stand w.stands w.inside stay

-- a node before others
pub before : {o : Source} {ts us ws : List Token} {v : Node} {vs : List Node} → Whole o ts v us → Along o us vs ws → Along o ts (v ∷ vs) ws
before w a = stand w.stands w.inside a

-- ---- the nodes of the elements of a list

map-append : {A : Type 0} (f : A → Node) (xs ys : List A) → map f (xs ++ ys) ≡ map f xs ++ map f ys
map-append f [] ys = refl
map-append f (x ∷ xs) ys = cc (map-append f xs ys)

pub flat-append : {A : Type 0} (f : A → List Node) (xs ys : List A) → flat_map f (xs ++ ys) ≡ flat_map f xs ++ flat_map f ys
flat-append f [] ys = refl
flat-append f (x ∷ xs) ys = cc (flat-append f xs ys, append_assoc (f x) (flat_map f xs) (flat_map f ys))

-- a node for each
abbrev pub Each-along : {A : Type 0} → Source → (A → Node) → List Token → List A → List Token → Type 0
Each-along o f ts xs us = Along o ts (map f xs) us

pub each_joined : {A : Type 0} {o : Source} (f : A → Node) (ts us ws : List Token) (xs ys : List A) →
    Each-along o f ts xs us → Each-along o f us ys ws → Each-along o f ts (xs ++ ys) ws
each_joined f ts us ws xs ys a b = along_as (sym (map-append f xs ys)) (joined a b)

-- the nodes of each
abbrev pub All-along : {A : Type 0} → Source → (A → List Node) → List Token → List A → List Token → Type 0
All-along o f ts xs us = Along o ts (flat_map f xs) us

pub all_joined : {A : Type 0} {o : Source} (f : A → List Node) (ts us ws : List Token) (xs ys : List A) →
    All-along o f ts xs us → All-along o f us ys ws → All-along o f ts (xs ++ ys) ws
all_joined f ts us ws xs ys a b = along_as (sym (flat-append f xs ys)) (joined a b)
