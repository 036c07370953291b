-- Nodes along the tokens of a file, of which each name has its identifier at a token of its own.
use Rattle.std.proofs.Common.{◌≡◌, List, [], ◌∷◌, ◌++◌, map, None, refl, sym, ap, subst, append-nil}
use Rattle.std.specs.List.{flat_map}
use Rattle.std.proofs.lemmas.Grind.{flat_map-append}
use Rattle.std.proofs.lemmas.List.{map-append}
use Rattle.vital_lex.specs.declared.token_list.Token.{Token}
use Rattle.vital_nodes.specs.Layers.{ActualLayer, ChoiceLayer, ExprLayer, ItemLayer, StmtLayer, SuffixLayer}
use Rattle.vital_nodes.specs.Nodes.{Node, Expression, Item, Name, Sequential, parts_in_actual, parts_in_choice, parts_in_expr, parts_in_item, parts_in_stmt, parts_in_suffix, parts_of, parts_of_suffix}
use Rattle.vital_nodes.specs.declared.expr.Actual.TheViews.{out-Actual, out-Choice, out-roll-Actual, out-roll-Choice, out-roll-Expr, out-roll-Item, out-roll-Suffix, roll-Actual, roll-Choice, roll-Expr, roll-Item, roll-Suffix}
use Rattle.vital_nodes.specs.declared.expr.Choice.{Choice}
use Rattle.vital_nodes.specs.declared.expr.Reference.{Reference}
use Rattle.vital_nodes.specs.declared.stmt.Stmt.TheViews.{out-roll-Stmt, roll-Stmt}
use Rattle.vital_shapes.proofs.Along as along
use Rattle.vital_shapes.proofs.Along.{Source, Along}
use Rattle.vital_as_read.specs.AsRead.{first_identifier}
use Rattle.vital_as_read.proofs.Each.{IsToken}

-- From the first tokens on, and up to the last ones: a token is passed over, or a name begins with it, or another node is there; and all that
-- a node holds stands along the tokens from there on.
pub data Strictly (o : Source) : List Token → List Node → List Token → Type 0 where
  stay : {ts : List Token} → Strictly o ts [] ts
  past : {t : Token} {ts us : List Token} {vs : List Node} → Strictly o ts vs us → Strictly o (t ∷ ts) vs us
  other : {ts us ws : List Token} {v : Node} {vs : List Node} → first_identifier v ≡ None → Strictly o ts (parts_of v) us → Strictly o us vs ws → Strictly o ts (v ∷ vs) ws
  named : {t : Token} {ts us ws : List Token} {r : Reference} {vs : List Node} →
      IsToken o t r.identifier → Strictly o ts (parts_of (Name r)) us → Strictly o us vs ws → Strictly o (t ∷ ts) (Name r ∷ vs) ws

pub joined : {o : Source} {ts us ws : List Token} {vs xs : List Node} → Strictly o ts vs us → Strictly o us xs ws → Strictly o ts (vs ++ xs) ws
joined stay b = b
joined (past a) b = past (joined a b)
joined (other nameless inside a) b = other nameless inside (joined a b)
joined (named is inside a) b = named is inside (joined a b)

-- tokens that are passed over
pub quiet : {o : Source} {ts us : List Token} → Along o ts [] us → Strictly o ts [] us
quiet along.stay = stay
quiet (along.past a) = past (quiet a)

pub passing : {o : Source} {ts us : List Token} {vs : List Node} → Strictly o ts vs us → Along o ts [] us
passing stay = along.stay
passing (past a) = along.past (passing a)
passing (other nameless inside a) = along.led (passing inside) (passing a)
passing (named is inside a) = along.past (along.led (passing inside) (passing a))

pub led : {o : Source} {ts us ws : List Token} {vs : List Node} → Along o ts [] us → Strictly o us vs ws → Strictly o ts vs ws
led a b = joined (quiet a) b

pub strictly_as : {o : Source} {ts us : List Token} {vs xs : List Node} → vs ≡ xs → Strictly o ts vs us → Strictly o ts xs us
strictly_as {o} {ts} {us} e a = subst (λ (l : List Node). Strictly o ts l us) e a

pub ended : {o : Source} {ts us ws : List Token} {vs : List Node} → Strictly o ts vs us → Along o us [] ws → Strictly o ts vs ws
ended {vs = vs} a b = strictly_as (append-nil vs) (joined a (quiet b))

-- one node
pub record Whole (o : Source) (ts : List Token) (v : Node) (us : List Token) : Type 0 where
  pub at : Strictly o ts (v ∷ []) us

pub one : {o : Source} {ts us : List Token} {v : Node} → Whole o ts v us → Strictly o ts (v ∷ []) us
one w = w.at

pub before : {o : Source} {ts us ws : List Token} {v : Node} {vs : List Node} → Whole o ts v us → Strictly o us vs ws → Strictly o ts (v ∷ vs) ws
before w a = joined w.at a

-- a node for each, and the nodes of each
abbrev pub Each-along : {A : Type 0} → Source → (A → Node) → List Token → List A → List Token → Type 0
Each-along o f ts xs us = Strictly o ts (map f xs) us

pub each_joined : {A : Type 0} {o : Source} (f : A → Node) (ts us ws : List Token) (xs ys : List A) →
    Each-along o f ts xs us → Each-along o f us ys ws → Each-along o f ts (xs ++ ys) ws
each_joined f ts us ws xs ys a b = strictly_as (sym (map-append f xs ys)) (joined a b)

abbrev pub All-along : {A : Type 0} → Source → (A → List Node) → List Token → List A → List Token → Type 0
All-along o f ts xs us = Strictly o ts (flat_map f xs) us

pub all_joined : {A : Type 0} {o : Source} (f : A → List Node) (ts us ws : List Token) (xs ys : List A) →
    All-along o f ts xs us → All-along o f us ys ws → All-along o f ts (xs ++ ys) ws
all_joined f ts us ws xs ys a b = strictly_as (sym (flat_map-append f xs ys)) (joined a b)

-- ---- nodes that are made of one layer

pub whole_expr : {o : Source} {ts us : List Token} (l : ExprLayer) → Strictly o ts (parts_in_expr l) us → Whole o ts (Expression (roll-Expr l)) us
unfolding parts_of
whole_expr l a = record { at = other refl (strictly_as (ap parts_in_expr (sym (out-roll-Expr l))) a) stay }

pub whole_item : {o : Source} {ts us : List Token} (l : ItemLayer) → Strictly o ts (parts_in_item l) us → Whole o ts (Item (roll-Item l)) us
unfolding parts_of
whole_item l a = record { at = other refl (strictly_as (ap parts_in_item (sym (out-roll-Item l))) a) stay }

pub whole_stmt : {o : Source} {ts us : List Token} (l : StmtLayer) → Strictly o ts (parts_in_stmt l) us → Whole o ts (Sequential (roll-Stmt l)) us
unfolding parts_of
whole_stmt l a = record { at = other refl (strictly_as (ap parts_in_stmt (sym (out-roll-Stmt l))) a) stay }

pub record WholeChoice (o : Source) (ts : List Token) (c : Choice) (us : List Token) : Type 0 where
  pub inside : Strictly o ts (parts_in_choice (out-Choice c)) us

pub whole_choice : {o : Source} {ts us : List Token} (l : ChoiceLayer) → Strictly o ts (parts_in_choice l) us → WholeChoice o ts (roll-Choice l) us
whole_choice l a = record { inside = strictly_as (ap parts_in_choice (sym (out-roll-Choice l))) a }

pub actual_along : {o : Source} {ts us : List Token} (l : ActualLayer) → Strictly o ts (parts_in_actual l) us → Strictly o ts (parts_in_actual (out-Actual (roll-Actual l))) us
actual_along l a = strictly_as (ap parts_in_actual (sym (out-roll-Actual l))) a

pub suffix_along : {o : Source} {ts us : List Token} (l : SuffixLayer) → Strictly o ts (parts_in_suffix l) us → Strictly o ts (parts_of_suffix (roll-Suffix l)) us
suffix_along l a = strictly_as (ap parts_in_suffix (sym (out-roll-Suffix l))) a
