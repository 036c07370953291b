-- What the stack of symbols means while tokens are read.
use Rattle.std.proofs.Common.{◌≡◌, ℕ, ◌+◌, ◌<◌, ◌≤◌, zero, suc, List, [], ◌∷◌, ◌++◌, length, take, drop, Some, None, All, map, slice_get, refl, sym, ap, ◌∙◌, subst, append_assoc, arith, inl, inr, length-append}
use Rattle.std.proofs.lemmas.List.{append-nil, map-append, take_more, take-append-le, take-take, take-append-drop, length-take-le}
use Rattle.std.proofs.lemmas.List.Elements.{All-head, All-tail, All-cons, All-append, All-get_or, All-nil}
use Rattle.std.proofs.lemmas.Option.{option_and_then_some, slice_get_within, get_or_from_slice_get}
use Rattle.vital_ll.specs.declared.grammar.Sym.{Sym}
use Rattle.vital_ll.specs.declared.grammar.Sym.TheVariants.{Token, Rule}
use Rattle.vital_ll.specs.declared.derivation.Step.{Step}
use Rattle.vital_ll.specs.Grammar.{Grammar, alternative_of, Derives, nothing, token}
use Rattle.vital_ll.specs.Sentence.{Next, first_of, with_end, IsTreeOf, IsFront, IsRefusedAt}
use Rattle.vital_ll.specs.Choice.{IsForm, start, replaced, IsChoice, IsNamed, IsWellFormed}
use Rattle.vital_ll.proofs.Deriving.{step, Reads, over, take_token, expand, Derives-append, Derives-split, Derives-reads, Reads-derives, derives_at}

-- the symbols that a sentence derives from
abbrev pub whole : List Sym
whole = Rule 0 ∷ []

-- The tokens before were taken by these steps, this is next, and the symbols are left: what the symbols read goes on with the
-- tokens and the steps, and whatever goes on with the tokens and with what is next is so.
pub record IsProgress (g : Grammar) (before : List ℕ) (next : Next) (symbols : List Sym) (steps : List Step) : Type 0 where
  pub form : IsForm g (map Token before ++ symbols)
  pub extends : (rest : List ℕ) (tree : List Step) → Reads g symbols rest tree → Reads g whole (before ++ rest) (steps ++ tree)
  pub only : (rest : List ℕ) (tree : List Step) → first_of rest ≡ next → Reads g whole (before ++ rest) tree →
      (after : List Step) × (tree ≡ steps ++ after) × Reads g symbols rest after
  pub named : All (IsNamed (length g)) symbols

reads_tokens : {g : Grammar} {xs : List Sym} {us vs : List ℕ} {t : List Step} → us ≡ vs → Reads g xs us t → Reads g xs vs t
reads_tokens {g} {xs} {us} {vs} {t} e d = subst (λ (u : List ℕ). Reads g xs u t) e d

reads_steps : {g : Grammar} {xs : List Sym} {us : List ℕ} {t u : List Step} → t ≡ u → Reads g xs us t → Reads g xs us u
reads_steps {g} {xs} {us} {t} {u} e d = subst (λ (s : List Step). Reads g xs us s) e d

-- before any token is taken
pub IsProgress-start : (g : Grammar) (next : Next) → 0 < length g → IsProgress g [] next whole []
IsProgress-start g next some = record {
  form = start;
  extends = λ rest tree r. r;
  only = λ rest tree f r. (tree, refl, r);
  named = All-cons (IsNamed (length g)) (Rule 0) [] some (All-nil (IsNamed (length g)));
}

-- a token is read from a token
read_token : {g : Grammar} {t x : ℕ} {rest : List Sym} {us : List ℕ} {tree : List Step} →
    Reads g (Token t ∷ rest) (x ∷ us) tree → (t ≡ x) × Reads g rest us tree
read_token (take_token r) = (refl, r)

-- and is the first of what is read
read_first : {g : Grammar} {t : ℕ} {rest : List Sym} {us : List ℕ} {tree : List Step} → Reads g (Token t ∷ rest) us tree → first_of us ≡ Some t
read_first (take_token r) = refl

-- nothing is read from no symbols
read_nothing : {g : Grammar} {us : List ℕ} {tree : List Step} → Reads g [] us tree → (us ≡ []) × (tree ≡ [])
read_nothing over = (refl, refl)

-- how a rule is read
record Expansion (g : Grammar) (r : ℕ) (rest : List Sym) (us : List ℕ) (tree : List Step) : Type 0 where
  pub a : ℕ
  pub chosen : List Sym
  pub after : List Step
  pub is : alternative_of g r a ≡ Some chosen
  pub tree_is : tree ≡ step r a ∷ after
  pub reads : Reads g (chosen ++ rest) us after

read_rule : {g : Grammar} {r : ℕ} {rest : List Sym} {us : List ℕ} {tree : List Step} →
    Reads g (Rule r ∷ rest) us tree → Expansion g r rest us tree
read_rule (expand {a = a} {chosen = chosen} {tree = tree} is d) =
    record { a = a; chosen = chosen; after = tree; is = is; tree_is = refl; reads = d }

-- the next token is taken
pub IsProgress-take : (g : Grammar) (before : List ℕ) (t : ℕ) (next : Next) (rest : List Sym) (steps : List Step) →
    IsProgress g before (Some t) (Token t ∷ rest) steps → IsProgress g (before ++ t ∷ []) next rest steps
IsProgress-take g before t next rest steps p = record {
  form = subst (λ (l : List Sym). IsForm g l) (sym (ap (λ (l : List Sym). l ++ rest) (map-append Token before (t ∷ [])) ∙ append_assoc (map Token before) (Token t ∷ []) rest)) p.form;
  extends = λ more tree r. reads_tokens (sym (append_assoc before (t ∷ []) more)) (p.extends (t ∷ more) tree (take_token r));
  only = λ more tree f r. let q = p.only (t ∷ more) tree refl (reads_tokens (append_assoc before (t ∷ []) more) r) in (q.0, q.1, (read_token q.2).1);
  named = All-tail (IsNamed (length g)) (Token t) rest p.named;
}

-- and is one more of the tokens
pub IsProgress-take_next : (g : Grammar) (tokens : List ℕ) (k t : ℕ) (rest : List Sym) (steps : List Step) → slice_get tokens k ≡ Some t →
    IsProgress g (take k tokens) (slice_get tokens k) (Token t ∷ rest) steps →
    IsProgress g (take (k + 1) tokens) (slice_get tokens (k + 1)) rest steps
IsProgress-take_next g tokens k t rest steps is p =
    let at_token = subst (λ (x : Next). IsProgress g (take k tokens) x (Token t ∷ rest) steps) is p in
    let taken = IsProgress-take g (take k tokens) t (slice_get tokens (k + 1)) rest steps at_token in
    subst (λ (l : List ℕ). IsProgress g l (slice_get tokens (k + 1)) rest steps)
    (sym (take_more tokens k 0 (slice_get_within tokens k t is) ∙ ap (λ (x : ℕ). take k tokens ++ x ∷ []) (get_or_from_slice_get tokens k t 0 is))) taken

choice_cases : (g : Grammar) (next : Next) (r a : ℕ) (chosen rest before : List Sym) → IsForm g (before ++ Rule r ∷ rest) →
    alternative_of g r a ≡ Some chosen → (us vs : List ℕ) (below after : List Step) → Derives g chosen us below → Derives g rest vs after →
    first_of (us ++ vs) ≡ next → IsChoice g r a next
choice_cases g next r a chosen rest before form is [] vs below after front back e =
    (chosen, is, inr ((below, front), (before, rest, form, (vs, after, back, e))))
choice_cases g next r a chosen rest before form is (u ∷ us) vs below after front back e =
    (chosen, is, inl (u, us, below, sym e, front))

-- an alternative by which what is next is read has it in its choice set
choice_of : (g : Grammar) (next : Next) (more : List ℕ) (r a : ℕ) (chosen rest before : List Sym) (tree : List Step) →
    IsForm g (before ++ Rule r ∷ rest) → alternative_of g r a ≡ Some chosen → first_of more ≡ next → Reads g (chosen ++ rest) more tree → IsChoice g r a next
choice_of g next more r a chosen rest before tree form is f d =
    let p = Derives-split chosen rest (Derives-reads d) refl in
    choice_cases g next r a chosen rest before form is p.us p.vs p.below p.after p.front p.back (ap first_of (sym p.tokens_are) ∙ f)

-- the symbols of an alternative name rules below n, where all do
pub all_named : (g : Grammar) (n r a : ℕ) (chosen : List Sym) → All (All (All (IsNamed n))) g → alternative_of g r a ≡ Some chosen → All (IsNamed n) chosen
all_named g n r a chosen named is =
    option_and_then_some _ _ chosen is (λ alternatives at inside.
    let rule_named = subst (λ (l : List (List Sym)). All (All (IsNamed n)) l) (get_or_from_slice_get g r alternatives [] at) (All-get_or (All (All (IsNamed n))) g r [] (slice_get_within g r alternatives at) named) in
    subst (λ (l : List Sym). All (IsNamed n) l) (get_or_from_slice_get alternatives a chosen [] inside) (All-get_or (All (IsNamed n)) alternatives a [] (slice_get_within alternatives a chosen inside) rule_named))

-- the symbols of an alternative name rules that are there
pub named_alternative : (g : Grammar) (r a : ℕ) (chosen : List Sym) → IsWellFormed g → alternative_of g r a ≡ Some chosen → All (IsNamed (length g)) chosen
named_alternative g r a chosen well is = all_named g (length g) r a chosen well.named is

-- a rule is replaced by the one alternative that the next token decides for
pub IsProgress-expand : (g : Grammar) (before : List ℕ) (next : Next) (r a : ℕ) (chosen rest : List Sym) (steps : List Step) → IsWellFormed g →
    IsProgress g before next (Rule r ∷ rest) steps → alternative_of g r a ≡ Some chosen → ((b : ℕ) → IsChoice g r b next → b ≡ a) →
    IsProgress g before next (chosen ++ rest) (steps ++ step r a ∷ [])
IsProgress-expand g before next r a chosen rest steps well p is decided = record {
  form = replaced (map Token before) rest chosen r a p.form is;
  extends = λ more tree d. reads_steps (sym (append_assoc steps (step r a ∷ []) tree)) (p.extends more (step r a ∷ tree) (expand is d));
  only = λ more tree f d.
      let q = p.only more tree f d in
      let e = read_rule q.2 in
      let same : e.a ≡ a = decided e.a (choice_of g next more r e.a e.chosen rest (map Token before) e.after p.form e.is f e.reads) in
      let chosen_same : e.chosen ≡ chosen = let t : alternative_of g r e.a ≡ alternative_of g r a = ap (alternative_of g r) same in cc in
      (e.after, q.1 ∙ ap (λ (l : List Step). steps ++ l) (e.tree_is ∙ ap (λ (b : ℕ). step r b ∷ e.after) same) ∙ sym (append_assoc steps (step r a ∷ []) e.after), subst (λ (l : List Sym). Reads g (l ++ rest) more e.after) chosen_same e.reads);
  named = All-append (IsNamed (length g)) chosen rest (named_alternative g r a chosen well is) (All-tail (IsNamed (length g)) (Rule r) rest p.named);
}

-- symbols that name rules that are there derive some list
pub derives_some : (g : Grammar) (symbols : List Sym) → IsWellFormed g → All (IsNamed (length g)) symbols →
    (tokens : List ℕ) × (tree : List Step) × Derives g symbols tokens tree
derives_some g [] well named = ([], [], nothing)
derives_some g (Token t ∷ rest) well named =
    let d = derives_some g rest well (All-tail (IsNamed (length g)) (Token t) rest named) in
    (t ∷ d.0, d.1, token d.2)
derives_some g (Rule r ∷ rest) well named =
    let d = derives_some g rest well (All-tail (IsNamed (length g)) (Rule r) rest named) in
    let e = well.derives r (All-head (IsNamed (length g)) (Rule r) rest named) in
    (e.0 ++ d.0, e.1 ++ d.1, Derives-append e.2 d.2)

-- the end of a list of tokens that a tree derives
pub done : (g : Grammar) (tokens : List ℕ) (steps : List Step) → IsProgress g tokens None [] steps →
    IsTreeOf g tokens steps × ((other : List Step) → IsTreeOf g tokens other → other ≡ steps)
done g tokens steps p = (
  derives_at (append-nil tokens) (append-nil steps) (Derives-reads (p.extends [] [] over)),
  λ other d.
      let q = p.only [] other refl (reads_tokens (sym (append-nil tokens)) (Reads-derives d)) in
      q.1 ∙ ap (λ (l : List Step). steps ++ l) (read_nothing q.2).1 ∙ append-nil steps,
)

-- a list that no front of tokens with its end goes on with has no tree
pub none_derives : (g : Grammar) (tokens : List ℕ) (k : ℕ) → IsRefusedAt g tokens k → (tree : List Step) → IsTreeOf g tokens tree → ⊥
none_derives g tokens k r tree d =
    r.refused (drop (k + 1) (with_end tokens), (tokens, tree, d, take-append-drop (k + 1) (with_end tokens)))

-- a front before the end is one of tokens alone
front_tokens : (tokens : List ℕ) (n : ℕ) → n ≤ length tokens → take n (with_end tokens) ≡ map Some (take n tokens)
front_tokens tokens zero h = refl
front_tokens [] (suc n) h = absurd (omega arith)
front_tokens (t ∷ tokens) (suc n) h = ap (λ (l : List Next). Some t ∷ l) (front_tokens tokens n (omega arith))

-- a shorter front of what begins a sentence
front_of : (g : Grammar) (tokens more : List ℕ) (j k : ℕ) (tree : List Step) → j < k → k ≤ length tokens → Reads g whole (take k tokens ++ more) tree →
    IsFront g (take (j + 1) (with_end tokens))
front_of g tokens more j k tree h inside d =
    let all : List ℕ = take k tokens ++ more in
    let taken : length (take k tokens) ≡ k = length-take-le k tokens inside in
    let same : take (j + 1) all ≡ take (j + 1) tokens = take-append-le (j + 1) (take k tokens) more (omega arith) ∙ take-take (j + 1) k tokens (omega arith) in
    let front : take (j + 1) (with_end tokens) ≡ take (j + 1) (with_end all) =
    front_tokens tokens (j + 1) (omega arith) ∙ ap (map Some) (sym same) ∙ sym (front_tokens all (j + 1) (omega (arith, length-append (take k tokens) more))) in
    (drop (j + 1) (with_end all), (all, tree, Derives-reads d, ap (λ (l : List Next). l ++ drop (j + 1) (with_end all)) front ∙ take-append-drop (j + 1) (with_end all)))

-- a sentence that begins with the first k tokens and with what is next
record GoesOn (tokens : List ℕ) (k : ℕ) (sentence : List ℕ) : Type 0 where
  pub more : List ℕ
  pub is : sentence ≡ take k tokens ++ more
  pub first : first_of more ≡ slice_get tokens k

goes_on : (tokens : List ℕ) (k : ℕ) (sentence : List ℕ) (rest : List Next) → k ≤ length tokens → take (suc k) (with_end tokens) ++ rest ≡ with_end sentence → GoesOn tokens k sentence
goes_on [] zero [] rest h e = record { more = []; is = refl; first = refl }
goes_on [] zero (x ∷ sentence) rest h e = absurd (cc)
goes_on [] (suc k) sentence rest h e = absurd (omega arith)
goes_on (t ∷ tokens) zero [] rest h e = absurd (cc)
goes_on (t ∷ tokens) zero (x ∷ sentence) rest h e = record { more = x ∷ sentence; is = refl; first = (let f : Some x ≡ Some t = cc in f) }
goes_on (t ∷ tokens) (suc k) [] rest h e = absurd (cc)
goes_on (t ∷ tokens) (suc k) (x ∷ sentence) rest h e =
    let later = goes_on tokens k sentence rest (omega arith) (let f : take (suc k) (with_end tokens) ++ rest ≡ with_end sentence = cc in f) in
    let same : x ≡ t = (let f : Some t ≡ Some x = cc in cc) in
    record { more = later.more; is = ap (λ (y : ℕ). y ∷ sentence) same ∙ ap (λ (l : List ℕ). t ∷ l) later.is; first = later.first }

-- where the symbols do not go on with what is next, it is the first that no sentence goes on with
pub refused_at : (g : Grammar) (tokens : List ℕ) (k : ℕ) (symbols : List Sym) (steps : List Step) → IsWellFormed g → k ≤ length tokens →
    IsProgress g (take k tokens) (slice_get tokens k) symbols steps →
    ((rest : List ℕ) (tree : List Step) → first_of rest ≡ slice_get tokens k → Reads g symbols rest tree → ⊥) → IsRefusedAt g tokens k
refused_at g tokens k symbols steps well inside p stuck = record {
  refused = λ (rest, (sentence, tree, d, e)).
      let o = goes_on tokens k sentence rest inside (ap (λ (n : ℕ). take n (with_end tokens) ++ rest) (let f : suc k ≡ k + 1 = omega arith in f) ∙ e) in
      let q = p.only o.more tree o.first (reads_tokens o.is (Reads-derives d)) in
      stuck o.more q.0 o.first q.2;
  least = λ j h.
      let d = derives_some g symbols well p.named in
      front_of g tokens d.0 j k (steps ++ d.1) h inside (p.extends d.0 d.1 (Reads-derives d.2));
}

-- a token that is not the next one is not read
pub stuck_token : (g : Grammar) (t : ℕ) (next : Next) (rest : List Sym) → (next ≡ Some t → ⊥) → (more : List ℕ) (tree : List Step) → first_of more ≡ next → Reads g (Token t ∷ rest) more tree → ⊥
stuck_token g t next rest other more tree f d = other (sym f ∙ read_first d)

-- a rule of which no choice set has what is next is not read
pub stuck_rule : (g : Grammar) (before : List ℕ) (next : Next) (r : ℕ) (rest : List Sym) (steps : List Step) → IsProgress g before next (Rule r ∷ rest) steps →
    ((a : ℕ) → IsChoice g r a next → ⊥) → (more : List ℕ) (tree : List Step) → first_of more ≡ next → Reads g (Rule r ∷ rest) more tree → ⊥
stuck_rule g before next r rest steps p none more tree f d =
    let e = read_rule d in
    none e.a (choice_of g next more r e.a e.chosen rest (map Token before) e.after p.form e.is f e.reads)

-- where no symbol is left, no token is read
pub stuck_end : (g : Grammar) (next : Next) → (next ≡ None → ⊥) → (more : List ℕ) (tree : List Step) → first_of more ≡ next → Reads g [] more tree → ⊥
stuck_end g next other more tree f d = other (sym f ∙ ap first_of (read_nothing d).0)
