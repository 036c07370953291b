-- Derivations of lists of symbols: joined, split, and read from the left.
use Rattle.std.proofs.Common.{◌≡◌, ℕ, List, [], ◌∷◌, ◌++◌, Some, refl, sym, ap, ◌∙◌, subst, append_assoc}
use Rattle.std.proofs.lemmas.List.{append-nil}
use Rattle.vital_ll.specs.declared.grammar.Sym.{Sym}
use Rattle.vital_ll.specs.declared.grammar.Sym.TheVariants.{Token, Rule}
use Rattle.vital_ll.specs.declared.derivation.Step.{Step}
use Rattle.vital_ll.specs.Grammar.{Grammar, alternative_of, Derives, nothing, token, rule}

-- the step that takes alternative a of rule r
abbrev pub step : ℕ → ℕ → Step
step r a = record { rule = r; alternative = a }

-- Reading from the left: the first symbol is a token, which is taken, or a rule, which an alternative replaces.
pub data Reads (g : Grammar) : List Sym → List ℕ → List Step → Type 0 where
  over : Reads g [] [] []
  take_token : {t : ℕ} {rest : List Sym} {tokens : List ℕ} {tree : List Step} →
      Reads g rest tokens tree → Reads g (Token t ∷ rest) (t ∷ tokens) tree
  expand : {r a : ℕ} {chosen rest : List Sym} {tokens : List ℕ} {tree : List Step} →
      alternative_of g r a ≡ Some chosen → Reads g (chosen ++ rest) tokens tree →
      Reads g (Rule r ∷ rest) tokens (step r a ∷ tree)

-- the parts of a derivation of two lists of symbols
pub record Parts (g : Grammar) (xs ys : List Sym) (tokens : List ℕ) (tree : List Step) : Type 0 where
  pub us : List ℕ
  pub vs : List ℕ
  pub below : List Step
  pub after : List Step
  pub front : Derives g xs us below
  pub back : Derives g ys vs after
  pub tokens_are : tokens ≡ us ++ vs
  pub tree_is : tree ≡ below ++ after

reads_at : {g : Grammar} {xs : List Sym} {us vs : List ℕ} {t1 t2 : List Step} → us ≡ vs → t1 ≡ t2 → Reads g xs us t1 → Reads g xs vs t2
reads_at {g} {xs} {us} {vs} {t1} {t2} e f d = subst (λ (t : List Step). Reads g xs vs t) f (subst (λ (u : List ℕ). Reads g xs u t1) e d)

reads_symbols : {g : Grammar} {xs ys : List Sym} {us : List ℕ} {t : List Step} → xs ≡ ys → Reads g xs us t → Reads g ys us t
reads_symbols {g} {xs} {ys} {us} {t} e d = subst (λ (s : List Sym). Reads g s us t) e d

pub derives_at : {g : Grammar} {xs : List Sym} {us vs : List ℕ} {t1 t2 : List Step} → us ≡ vs → t1 ≡ t2 → Derives g xs us t1 → Derives g xs vs t2
derives_at {g} {xs} {us} {vs} {t1} {t2} e f d = subst (λ (t : List Step). Derives g xs vs t) f (subst (λ (u : List ℕ). Derives g xs u t1) e d)

-- what derives may be read from the left, before what is read
pub Reads-append : {g : Grammar} {xs ys : List Sym} {us vs : List ℕ} {t1 t2 : List Step} →
    Derives g xs us t1 → Reads g ys vs t2 → Reads g (xs ++ ys) (us ++ vs) (t1 ++ t2)
Reads-append nothing r = r
Reads-append (token d) r = take_token (Reads-append d r)
Reads-append {ys = ys} {vs = vs} {t2 = t2} (rule {chosen = chosen} {rest = rest} {us = us1} {vs = vs1} {below = b} {after = a} is d e) r =
    expand is (reads_at (sym (append_assoc us1 vs1 vs)) (sym (append_assoc b a t2)) (Reads-append d (Reads-append e r)))

-- the parts of a derivation of xs ++ ys
pub Derives-split : {g : Grammar} (xs ys : List Sym) {zs : List Sym} {us : List ℕ} {t : List Step} →
    Derives g zs us t → zs ≡ xs ++ ys → Parts g xs ys us t
Derives-split {g} [] ys {zs} {us} {t} d e =
    record { us = []; vs = us; below = []; after = t; front = nothing; back = subst (λ (s : List Sym). Derives g s us t) e d; tokens_are = refl; tree_is = refl }
Derives-split (x ∷ xs) ys nothing e = absurd (cc)
Derives-split {g} (x ∷ xs) ys (token {t = t} {rest = rest} {tokens = tokens} {tree = tree} d) e =
    let heads : Token t ≡ x = cc in
    let p = Derives-split xs ys d (let tails : rest ≡ xs ++ ys = cc in tails) in
    record { us = t ∷ p.us; vs = p.vs; below = p.below; after = p.after; front = subst (λ (s : Sym). Derives g (s ∷ xs) (t ∷ p.us) p.below) heads (token p.front); back = p.back; tokens_are = ap (λ (l : List ℕ). t ∷ l) p.tokens_are; tree_is = p.tree_is }
Derives-split {g} (x ∷ xs) ys (rule {r = r} {a = a} {chosen = chosen} {rest = rest} {us = us} {vs = vs} {below = below} {after = after} is d later) e =
    let heads : Rule r ≡ x = cc in
    let p = Derives-split xs ys later (let tails : rest ≡ xs ++ ys = cc in tails) in
    record { us = us ++ p.us; vs = p.vs; below = step r a ∷ (below ++ p.below); after = p.after; front = subst (λ (s : Sym). Derives g (s ∷ xs) (us ++ p.us) (step r a ∷ (below ++ p.below))) heads (rule is d p.front); back = p.back; tokens_are = ap (λ (l : List ℕ). us ++ l) p.tokens_are ∙ sym (append_assoc us p.us p.vs); tree_is = ap (λ (l : List Step). step r a ∷ (below ++ l)) p.tree_is ∙ ap (λ (l : List Step). step r a ∷ l) (sym (append_assoc below p.below p.after)) }

-- two derivations, one after the other
pub Derives-append : {g : Grammar} {xs ys : List Sym} {us vs : List ℕ} {t1 t2 : List Step} →
    Derives g xs us t1 → Derives g ys vs t2 → Derives g (xs ++ ys) (us ++ vs) (t1 ++ t2)
Derives-append nothing r = r
Derives-append (token d) r = token (Derives-append d r)
Derives-append {vs = vs} {t2 = t2} (rule {r = r} {a = a} {chosen = chosen} {us = us1} {vs = vs1} {below = b} {after = c} is d e) later =
    derives_at (sym (append_assoc us1 vs1 vs)) (ap (λ (l : List Step). step r a ∷ l) (sym (append_assoc b c t2))) (rule is d (Derives-append e later))

-- what is read from the left derives
pub Derives-reads : {g : Grammar} {xs : List Sym} {us : List ℕ} {t : List Step} → Reads g xs us t → Derives g xs us t
Derives-reads over = nothing
Derives-reads (take_token r) = token (Derives-reads r)
Derives-reads (expand {r = r} {a = a} {chosen = chosen} {rest = rest} is d) =
    let p = Derives-split chosen rest (Derives-reads d) refl in
    derives_at (sym p.tokens_are) (ap (λ (l : List Step). step r a ∷ l) (sym p.tree_is)) (rule is p.front p.back)

-- what derives is read from the left
pub Reads-derives : {g : Grammar} {xs : List Sym} {us : List ℕ} {t : List Step} → Derives g xs us t → Reads g xs us t
Reads-derives {xs = xs} {us = us} {t = t} d =
    reads_symbols (append-nil xs) (reads_at (append-nil us) (append-nil t) (Reads-append d over))
