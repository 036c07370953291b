-- Marks that are closed under the rules hold every choice set.
use Rattle.std.proofs.Common.{◌≡◌, ℕ, Bool, true, false, ◌&&◌, List, [], ◌∷◌, ◌++◌, Some, None, refl, sym, ap, ◌∙◌, subst, append_assoc, inl, inr, ◌⊎◌}
use Rattle.std.proofs.lemmas.Bool.{eq-eqb, and_from, or_left, or_right, and_parts}
use Rattle.vital_ll.specs.declared.grammar.Sym.{Sym}
use Rattle.vital_ll.specs.declared.grammar.Sym.TheVariants.{Token, Rule}
use Rattle.vital_ll.specs.declared.derivation.Step.{Step}
use Rattle.vital_ll.specs.Grammar.{Grammar, alternative_of, Derives, nothing, token, rule}
use Rattle.vital_ll.specs.Sentence.{Next, first_of}
use Rattle.vital_ll.specs.Choice.{CanBegin, CanBeEmpty, CanGoOn, IsForm, start, replaced, IsChoice}
use Rattle.vital_ll.specs.Marks.{Marks, empties, begins, EmptyClosed, FirstClosed, ReachClosed, FollowClosed}
use Rattle.vital_ll.proofs.Deriving.{Derives-append, Derives-split, derives_at}

nil_parts : {A : Type 0} (xs ys : List A) → xs ++ ys ≡ [] → (xs ≡ []) × (ys ≡ [])
nil_parts [] ys e = (refl, e)
nil_parts (x ∷ xs) ys e = absurd (cc)

-- what derives the empty list has marked rules alone
pub empties_complete : {g : Grammar} (nullable : Marks) {symbols : List Sym} {tokens : List ℕ} {tree : List Step} → EmptyClosed g nullable →
    Derives g symbols tokens tree → tokens ≡ [] → empties nullable symbols ≡ true
empties_complete nullable closed nothing e = refl
empties_complete nullable closed (token d) e = absurd (cc)
empties_complete nullable closed (rule {r = r} {a = a} {chosen = chosen} {rest = rest} {us = us} {vs = vs} is d later) e =
    let p = nil_parts us vs e in
    and_from (nullable r) (empties nullable rest) (closed r a chosen is (empties_complete nullable closed d p.0)) (empties_complete nullable closed later p.1)

begins_rule : (nullable first : Marks) (t : Next) (after : Bool) (r : ℕ) (rest : List Sym) → nullable r ≡ true → begins nullable first t after rest ≡ true →
    begins nullable first t after (Rule r ∷ rest) ≡ true
begins_rule nullable first t after r rest e f =
    or_right (first r) (nullable r && begins nullable first t after rest) (and_from (nullable r) (begins nullable first t after rest) e f)

rule_begins : (g : Grammar) (nullable first : Marks) (t : ℕ) (after : Bool) (r a : ℕ) (chosen rest : List Sym) (us vs : List ℕ) (below : List Step) →
    EmptyClosed g nullable → FirstClosed g nullable first (Some t) → alternative_of g r a ≡ Some chosen → Derives g chosen us below →
    (more : List ℕ) → us ++ vs ≡ t ∷ more →
    ((m : List ℕ) → us ≡ t ∷ m → begins nullable first (Some t) false chosen ≡ true) →
    ((m : List ℕ) → vs ≡ t ∷ m → begins nullable first (Some t) after rest ≡ true) →
    begins nullable first (Some t) after (Rule r ∷ rest) ≡ true
rule_begins g nullable first t after r a chosen rest [] vs below empty_closed first_closed is d more e in_chosen in_rest =
    begins_rule nullable first (Some t) after r rest (empty_closed r a chosen is (empties_complete nullable empty_closed d refl)) (in_rest more e)
rule_begins g nullable first t after r a chosen rest (u ∷ us) vs below empty_closed first_closed is d more e in_chosen in_rest =
    let same : u ≡ t = cc in
    or_left (first r) (nullable r && begins nullable first (Some t) after rest) (first_closed r a chosen is (in_chosen us (ap (λ (x : ℕ). x ∷ us) same)))

-- what derives a list that begins with the token can begin with it
pub begins_complete : {g : Grammar} (nullable first : Marks) (t : ℕ) (after : Bool) {symbols : List Sym} {tokens : List ℕ} {tree : List Step} →
    EmptyClosed g nullable → FirstClosed g nullable first (Some t) → Derives g symbols tokens tree → (more : List ℕ) → tokens ≡ t ∷ more →
    begins nullable first (Some t) after symbols ≡ true
begins_complete nullable first t after empty_closed first_closed nothing more e = absurd (cc)
begins_complete nullable first t after empty_closed first_closed (token {t = u} d) more e = eq-eqb u t cc
begins_complete {g} nullable first t after empty_closed first_closed (rule {r = r} {a = a} {chosen = chosen} {rest = rest} {us = us} {vs = vs} {below = below} is d later) more e =
    rule_begins g nullable first t after r a chosen rest us vs below empty_closed first_closed is d more e
    (λ m f. begins_complete nullable first t false empty_closed first_closed d m f)
    (λ m f. begins_complete nullable first t after empty_closed first_closed later m f)

-- past rules that can be empty, what comes after
begins_after : (nullable first : Marks) (t : Next) (symbols : List Sym) → empties nullable symbols ≡ true → begins nullable first t true symbols ≡ true
begins_after nullable first t [] e = refl
begins_after nullable first t (Token u ∷ rest) e = absurd (cc)
begins_after nullable first t (Rule r ∷ rest) e =
    let p = and_parts (nullable r) (empties nullable rest) e in
    begins_rule nullable first t true r rest p.0 (begins_after nullable first t rest p.1)

-- symbols that begin with the token, or are empty before what does
pub begins_either : {g : Grammar} (nullable first : Marks) (t : Next) (after : Bool) (symbols : List Sym) → EmptyClosed g nullable → FirstClosed g nullable first t →
    CanBegin g symbols t ⊎ (CanBeEmpty g symbols × (after ≡ true)) → begins nullable first t after symbols ≡ true
begins_either {g} nullable first t after symbols empty_closed first_closed (inl (k, rest, tree, is, d)) =
    subst (λ (x : Next). begins nullable first x after symbols ≡ true) (sym is)
    (begins_complete nullable first k after empty_closed (subst (FirstClosed g nullable first) is first_closed) d rest refl)
begins_either nullable first t after symbols empty_closed first_closed (inr ((tree, d), e)) =
    subst (λ (b : Bool). begins nullable first t b symbols ≡ true) (sym e) (begins_after nullable first t symbols (empties_complete nullable empty_closed d refl))

-- where an element stands in two lists joined: in the first, or in the second
pub record InFirst {A : Type 0} (p : List A) (x : A) (q a b : List A) : Type 0 where
  pub between : List A
  pub first_is : a ≡ p ++ x ∷ between
  pub rest_is : q ≡ between ++ b

pub record InSecond {A : Type 0} (p : List A) (x : A) (q a b : List A) : Type 0 where
  pub between : List A
  pub front_is : p ≡ a ++ between
  pub second_is : b ≡ between ++ x ∷ q

pub side : {A : Type 0} (p : List A) (x : A) (q a b : List A) → a ++ b ≡ p ++ x ∷ q → InFirst p x q a b ⊎ InSecond p x q a b
side p x q [] b e = inr (record { between = p; front_is = refl; second_is = e })
side [] x q (y ∷ a) b e =
    let heads : y ≡ x = cc in let tails : a ++ b ≡ q = cc in
    inl (record { between = a; first_is = ap (λ z. z ∷ a) heads; rest_is = sym tails })
side (z ∷ p) x q (y ∷ a) b e =
    let heads : y ≡ z = cc in let tails : a ++ b ≡ p ++ x ∷ q = cc in
    elim (side p x q a b tails) [
      | inl f ↦ inl (record { between = f.between; first_is = ap (λ w. w ∷ a) heads ∙ ap (λ l. z ∷ l) f.first_is; rest_is = f.rest_is })
      | inr s ↦ inr (record { between = s.between; front_is = ap (λ l. z ∷ l) s.front_is ∙ ap (λ w. w ∷ (a ++ s.between)) (sym heads); second_is = s.second_is })
    ]

-- the first symbols of what is joined begin with the token, or are empty before what goes on
pub go_on_split : {g : Grammar} (xs ys : List Sym) (t : Next) → CanGoOn g (xs ++ ys) t → CanBegin g xs t ⊎ (CanBeEmpty g xs × CanGoOn g ys t)
go_on_split {g} xs ys t (tokens, tree, d, first) =
    let p = Derives-split xs ys d refl in
    go p.us p.vs p.below p.after p.front p.back (ap first_of (sym p.tokens_are) ∙ first)
  where
    go : (us vs : List ℕ) (below after : List Step) → Derives g xs us below → Derives g ys vs after → first_of (us ++ vs) ≡ t → CanBegin g xs t ⊎ (CanBeEmpty g xs × CanGoOn g ys t)
    go [] vs below after front back e = inr ((below, front), (vs, after, back, e))
    go (u ∷ us) vs below after front back e = inl (u, us, below, sym e, front)

-- a rule derives what its alternative does
go_on_folded : {g : Grammar} (before chosen after : List Sym) (r a : ℕ) (t : Next) → alternative_of g r a ≡ Some chosen → CanGoOn g (before ++ (chosen ++ after)) t →
    CanGoOn g (before ++ Rule r ∷ after) t
go_on_folded before chosen after r a t is (tokens, tree, d, first) =
    let p = Derives-split before (chosen ++ after) d refl in
    let q = Derives-split chosen after p.back refl in
    let e = Derives-append p.front (rule is q.front q.back) in
    (tokens, _, derives_at (sym (p.tokens_are ∙ ap (λ (l : List ℕ). p.us ++ l) q.tokens_are)) refl e, first)

-- each rule of the form is reached, and marked where what comes after it goes on with the token
abbrev pub AreMarked : Grammar → Marks → Marks → Next → List Sym → Type 0
AreMarked g reached follow t form =
    (p q : List Sym) (r : ℕ) → form ≡ p ++ Rule r ∷ q → (reached r ≡ true) × (CanGoOn g q t → follow r ≡ true)

-- no symbols go on with the end alone
none_goes_on : {g : Grammar} {symbols : List Sym} {tokens : List ℕ} {tree : List Step} → Derives g symbols tokens tree → symbols ≡ [] → first_of tokens ≡ None
none_goes_on nothing e = refl
none_goes_on (token d) e = absurd (cc)
none_goes_on (rule is d later) e = absurd (cc)

not_nil : (p : List Sym) (x : Sym) (q : List Sym) → [] ≡ p ++ x ∷ q → ⊥
not_nil [] x q e = cc
not_nil (y ∷ p) x q e = cc

marked_start : (g : Grammar) (reached follow : Marks) (t : Next) → reached 0 ≡ true → (t ≡ None → follow 0 ≡ true) → AreMarked g reached follow t (Rule 0 ∷ [])
marked_start g reached follow t at_first at_end [] q r e =
    let same : r ≡ 0 = cc in let rest : q ≡ [] = cc in (
      subst (λ (x : ℕ). reached x ≡ true) (sym same) at_first,
      λ (tokens, tree, d, first). subst (λ (x : ℕ). follow x ≡ true) (sym same) (at_end (sym first ∙ none_goes_on d rest)),
    )
marked_start g reached follow t at_first at_end (x ∷ p) q r e = absurd (not_nil p (Rule r) q (let f : [] ≡ p ++ Rule r ∷ q = cc in f))

marked_replaced : (g : Grammar) (nullable first reached follow : Marks) (t : Next) (before after chosen : List Sym) (r a : ℕ) →
    EmptyClosed g nullable → FirstClosed g nullable first t → ReachClosed g reached → FollowClosed g nullable first reached follow t →
    alternative_of g r a ≡ Some chosen → AreMarked g reached follow t (before ++ Rule r ∷ after) → AreMarked g reached follow t (before ++ (chosen ++ after))
marked_replaced g nullable first reached follow t before after chosen r a empty_closed first_closed reach_closed follow_closed is old p q s e =
    elim (side p (Rule s) q before (chosen ++ after) e) [
      | inl f ↦
          let here = old p (f.between ++ Rule r ∷ after) s (ap (λ (l : List Sym). l ++ Rule r ∷ after) f.first_is ∙ append_assoc p (Rule s ∷ f.between) (Rule r ∷ after)) in
          (here.0, λ b. here.1 (go_on_folded f.between chosen after r a t is (subst (λ (l : List Sym). CanGoOn g l t) f.rest_is b)))
      | inr f ↦ elim (side f.between (Rule s) q chosen after f.second_is) [
        | inl h ↦
            let here = old before after r refl in
            let chosen_is : alternative_of g r a ≡ Some (f.between ++ Rule s ∷ h.between) = is ∙ ap Some h.first_is in (
              reach_closed r a s f.between h.between chosen_is here.0,
              λ b. follow_closed r a s f.between h.between chosen_is here.0
                  (begins_either nullable first t (follow r) h.between empty_closed first_closed
                  (elim (go_on_split h.between after t (subst (λ (l : List Sym). CanGoOn g l t) h.rest_is b)) [
                    | inl x ↦ inl x
                    | inr x ↦ inr (x.0, here.1 x.1)
                  ])),
            )
        | inr h ↦
            old (before ++ Rule r ∷ h.between) q s
            (ap (λ (l : List Sym). before ++ Rule r ∷ l) h.second_is ∙ sym (append_assoc before (Rule r ∷ h.between) (Rule s ∷ q)))
      ]
    ]

-- each rule of each form is reached, and marked where what comes after it goes on with the token
pub forms_marked : (g : Grammar) (nullable first reached follow : Marks) (t : Next) {form : List Sym} →
    EmptyClosed g nullable → FirstClosed g nullable first t → ReachClosed g reached → FollowClosed g nullable first reached follow t →
    reached 0 ≡ true → (t ≡ None → follow 0 ≡ true) → IsForm g form → AreMarked g reached follow t form
forms_marked g nullable first reached follow t empty_closed first_closed reach_closed follow_closed at_first at_end start =
    marked_start g reached follow t at_first at_end
forms_marked g nullable first reached follow t empty_closed first_closed reach_closed follow_closed at_first at_end (replaced before after chosen r a form is) =
    marked_replaced g nullable first reached follow t before after chosen r a empty_closed first_closed reach_closed follow_closed is
    (forms_marked g nullable first reached follow t empty_closed first_closed reach_closed follow_closed at_first at_end form)

-- what the marks of one token have to be for them to hold each choice set
pub record AreClosed (g : Grammar) (nullable first reached follow : Marks) (t : Next) : Type 0 where
  pub empty_closed : EmptyClosed g nullable
  pub first_closed : FirstClosed g nullable first t
  pub reach_closed : ReachClosed g reached
  pub follow_closed : FollowClosed g nullable first reached follow t
  pub at_first : reached 0 ≡ true
  pub at_end : t ≡ None → follow 0 ≡ true

-- a token of a choice set is marked
pub choice_marked : (g : Grammar) (nullable first reached follow : Marks) (t : Next) (r a : ℕ) (chosen : List Sym) → AreClosed g nullable first reached follow t →
    alternative_of g r a ≡ Some chosen → IsChoice g r a t → begins nullable first t (follow r) chosen ≡ true
choice_marked g nullable first reached follow t r a chosen closed is (found, found_is, how) =
    let same : found ≡ chosen = cc in
    subst (λ (l : List Sym). begins nullable first t (follow r) l ≡ true) same
    (begins_either nullable first t (follow r) found closed.empty_closed closed.first_closed
    (elim how [
      | inl b ↦ inl b
      | inr (empty, (before, after, form, b)) ↦
          inr (empty, (forms_marked g nullable first reached follow t closed.empty_closed closed.first_closed closed.reach_closed closed.follow_closed closed.at_first closed.at_end form before after r refl).1 b)
    ]))
