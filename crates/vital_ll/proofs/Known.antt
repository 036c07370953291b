-- Tokens of kinds below the width of a grammar, or the end.
use Rattle.std.proofs.Common.{◌≡◌, ℕ, ◌+◌, ◌*◌, ◌/◌, ◌<◌, ◌≤◌, List, [], ◌∷◌, ◌++◌, length, get_or, take, Some, None, is_some, All, Contains, sym, ap, ◌∙◌, subst, arith, inl, inr, ◌⊎◌}
use Rattle.std.proofs.lemmas.List.{take_more}
use Rattle.std.proofs.lemmas.List.Elements.{Contains-push_cases, All-head, All-tail, All-append, All-cons, All-nil, All-weaker, All-more}
use Rattle.vital_ll.specs.declared.grammar.Sym.{Sym}
use Rattle.vital_ll.specs.declared.grammar.Sym.TheVariants.{Token, Rule}
use Rattle.vital_ll.specs.declared.derivation.Step.{Step}
use Rattle.vital_ll.specs.Grammar.{Grammar, alternative_of, Derives, nothing, token, rule}
use Rattle.vital_ll.specs.Sentence.{Next, first_of}
use Rattle.vital_ll.specs.Choice.{IsForm, start, replaced, IsChoice}
use Rattle.vital_ll.specs.Masks.{bit_of}
use Rattle.vital_ll.specs.Listing.{step, ListsSteps}
use Rattle.vital_ll.specs.Table.{IsBelow, AreBelow}
use Rattle.vital_ll.proofs.Sound.{all_front, all_back}

-- with one more step
one_more : (steps : List Step) (i : ℕ) (s d : Step) (r a : ℕ) → i < length steps → s ≡ get_or steps i d → Contains (take (i + 1) steps) (step r a) → Contains (take i steps) (step r a) ⊎ (s ≡ step r a)
one_more steps i s d r a inside s_is h =
    let taken : take (i + 1) steps ≡ take i steps ++ s ∷ [] = take_more steps i d inside ∙ ap (λ (x : Step). take i steps ++ x ∷ []) (sym s_is) in
    Contains-push_cases (take i steps) s (step r a) (subst (λ (l : List Step). Contains l (step r a)) taken h)

-- symbols below a width are below a larger one
below_wider : (m n : ℕ) (x : Sym) → m ≤ n → IsBelow m x → IsBelow n x
below_wider m n (Token u) h b = omega arith
below_wider m n (Rule r) h b = tt

pub all_wider : (m n : ℕ) (symbols : List Sym) → m ≤ n → All (IsBelow m) symbols → All (IsBelow n) symbols
all_wider m n symbols h = All-weaker (IsBelow m) (IsBelow n) (λ x. below_wider m n x h) symbols

-- one more symbol is below the width
pub widest_more : (symbols : List Sym) (i m n : ℕ) (d : Sym) → i < length symbols → m ≤ n → IsBelow n (get_or symbols i d) → All (IsBelow m) (take i symbols) → All (IsBelow n) (take (i + 1) symbols)
widest_more symbols i m n d inside h here all = All-more (IsBelow n) symbols i d inside (all_wider m n (take i symbols) h all) here

-- the alternatives of one more step are below the width
pub width_more : (g : Grammar) (steps : List Step) (i m n : ℕ) (s d : Step) (found : List Sym) → i < length steps → s ≡ get_or steps i d → m ≤ n → alternative_of g s.rule s.alternative ≡ Some found → All (IsBelow n) found →
    AreBelow g (take i steps) m → AreBelow g (take (i + 1) steps) n
width_more g steps i m n s d found inside s_is h is all before q chosen contained chosen_is =
    elim (one_more steps i s d q.rule q.alternative inside s_is contained) [
      | inl f ↦ all_wider m n chosen h (before q chosen f chosen_is)
      | inr e ↦ subst (λ (l : List Sym). All (IsBelow n) l)
          (let same : found ≡ chosen = let f : alternative_of g s.rule s.alternative ≡ alternative_of g q.rule q.alternative = ap (λ (x : Step). alternative_of g x.rule x.alternative) e in cc in same) all
    ]

-- the alternatives name tokens below the width
abbrev pub NamesBelow : Grammar → ℕ → Type 0
NamesBelow g w = (r a : ℕ) (chosen : List Sym) → alternative_of g r a ≡ Some chosen → All (IsBelow w) chosen

-- so is each token of a form
form_below : (g : Grammar) (w : ℕ) {form : List Sym} → NamesBelow g w → IsForm g form → All (IsBelow w) form
form_below g w below start = All-cons (IsBelow w) (Rule 0) [] tt (All-nil (IsBelow w))
form_below g w below (replaced before after chosen r a form is) =
    let known = form_below g w below form in
    All-append (IsBelow w) before (chosen ++ after) (all_front (IsBelow w) before (Rule r ∷ after) known)
    (All-append (IsBelow w) chosen after (below r a chosen is)
    (All-tail (IsBelow w) (Rule r) after (all_back (IsBelow w) before (Rule r ∷ after) known)))

-- a kind below the width, or the end
abbrev IsNextBelow : ℕ → Next → Type 0
IsNextBelow w None = Unit {0}
IsNextBelow w (Some k) = k < w

-- and each token with which such symbols begin
first_below : {g : Grammar} (w : ℕ) {symbols : List Sym} {tokens : List ℕ} {tree : List Step} → NamesBelow g w → Derives g symbols tokens tree → All (IsBelow w) symbols → IsNextBelow w (first_of tokens)
first_below w below nothing named = tt
first_below w below (token {t = u} {rest = rest} d) named = All-head (IsBelow w) (Token u) rest named
first_below {g} w below (rule {r = r} {a = a} {chosen = chosen} {rest = rest} {us = us} {vs = vs} is d later) named =
    go us (first_below w below d (below r a chosen is)) (first_below w below later (All-tail (IsBelow w) (Rule r) rest named))
  where
    go : (us : List ℕ) → IsNextBelow w (first_of us) → IsNextBelow w (first_of vs) → IsNextBelow w (first_of (us ++ vs))
    go [] first second = second
    go (u ∷ us) first second = first

-- so the tokens of the choice sets are below the width, or the end
pub choice_below : (g : Grammar) (w r a : ℕ) (t : Next) → NamesBelow g w → IsChoice g r a t → IsNextBelow w t
choice_below g w r a t below (chosen, is, how) =
    elim how [
      | inl (k, more, tree, same, d) ↦ subst (IsNextBelow w) (sym same) (first_below w below d (below r a chosen is))
      | inr (empty, (before, after, form, (tokens, tree, d, first))) ↦
          subst (IsNextBelow w) first
          (first_below w below d (All-tail (IsBelow w) (Rule r) after (all_back (IsBelow w) before (Rule r ∷ after) (form_below g w below form))))
    ]

pub names_below : (g : Grammar) (w : ℕ) (steps : List Step) → ListsSteps g steps →
    AreBelow g steps w → NamesBelow g w
names_below g w steps lists all r a chosen is = all (step r a) chosen (lists.complete r a (ap is_some is)) is

bit_within : (w : ℕ) (t : Next) → IsNextBelow w t → bit_of t < 128 * (w / 128 + 1)
bit_within w None h = omega arith
bit_within w (Some k) h = omega arith

-- the bits of the tokens of the choice sets are in the blocks that the width asks for
pub choice_within : (g : Grammar) (w : ℕ) (steps : List Step) → ListsSteps g steps → AreBelow g steps w → (r a : ℕ) (t : Next) → IsChoice g r a t → bit_of t < 128 * (w / 128 + 1)
choice_within g w steps lists below r a t chosen = bit_within w t (choice_below g w r a t (names_below g w steps lists below) chosen)
