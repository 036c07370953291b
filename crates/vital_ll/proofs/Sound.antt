-- Marks that the rules justify hold nothing but choice sets.
use Rattle.std.proofs.Common.{◌≡◌, ℕ, Bool, true, false, ◌&&◌, List, [], ◌∷◌, ◌++◌, length, Some, None, All, sym, ap, ◌∙◌, subst, append_assoc, inl, inr, ◌⊎◌}
use Rattle.std.proofs.lemmas.Bool.{eqb-true, and_parts, or_cases}
use Rattle.std.proofs.lemmas.List.Elements.{All-head, All-tail, All-cons, All-nil, All-append}
use Rattle.vital_ll.specs.declared.grammar.Sym.{Sym}
use Rattle.vital_ll.specs.declared.grammar.Sym.TheVariants.{Token, Rule}
use Rattle.vital_ll.specs.Grammar.{Grammar, alternative_of, nothing, token, rule}
use Rattle.vital_ll.specs.Sentence.{Next}
use Rattle.vital_ll.specs.Choice.{CanBegin, CanBeEmpty, CanGoOn, IsForm, start, replaced, Follows, IsChoice, IsNamed, IsWellFormed}
use Rattle.vital_ll.specs.Marks.{Marks, empties, begins, is_of_kind, IsReached, EmptySound, FirstSound, FollowSound}
use Rattle.vital_ll.proofs.Deriving.{Derives-append}
use Rattle.vital_ll.proofs.Progress.{named_alternative, derives_some}

pub all_front : {A : Type 0} (P : A → Type 0) (xs ys : List A) → All P (xs ++ ys) → All P xs
all_front P [] ys h = All-nil P
all_front P (x ∷ xs) ys h = All-cons P x xs (All-head P x (xs ++ ys) h) (all_front P xs ys (All-tail P x (xs ++ ys) h))

pub all_back : {A : Type 0} (P : A → Type 0) (xs ys : List A) → All P (xs ++ ys) → All P ys
all_back P [] ys h = h
all_back P (x ∷ xs) ys h = all_back P xs ys (All-tail P x (xs ++ ys) h)

-- a form names rules that are there
forms_named : (g : Grammar) {form : List Sym} → IsWellFormed g → IsForm g form → All (IsNamed (length g)) form
forms_named g well start =
    All-cons (IsNamed (length g)) (Rule 0) [] well.some_rule (All-nil (IsNamed (length g)))
forms_named g well (replaced before after chosen r a form is) =
    let named = forms_named g well form in
    All-append (IsNamed (length g)) before (chosen ++ after) (all_front (IsNamed (length g)) before (Rule r ∷ after) named)
    (All-append (IsNamed (length g)) chosen after (named_alternative g r a chosen well is)
    (All-tail (IsNamed (length g)) (Rule r) after (all_back (IsNamed (length g)) before (Rule r ∷ after) named)))

empty_more : {g : Grammar} (xs ys : List Sym) → CanBeEmpty g xs → CanBeEmpty g ys → CanBeEmpty g (xs ++ ys)
empty_more xs ys (t1, d1) (t2, d2) = (_, Derives-append d1 d2)

begins_past : {g : Grammar} (xs ys : List Sym) (t : Next) → CanBeEmpty g xs → CanBegin g ys t → CanBegin g (xs ++ ys) t
begins_past xs ys t (t1, d1) (k, rest, t2, is, d2) = (k, rest, _, is, Derives-append d1 d2)

begins_before : (g : Grammar) (xs ys : List Sym) (t : Next) → IsWellFormed g → All (IsNamed (length g)) ys → CanBegin g xs t → CanBegin g (xs ++ ys) t
begins_before g xs ys t well named (k, rest, tree, is, d) =
    let e = derives_some g ys well named in (k, rest ++ e.0, _, is, Derives-append d e.2)

goes_on_past : {g : Grammar} (xs ys : List Sym) (t : Next) → CanBeEmpty g xs → CanGoOn g ys t → CanGoOn g (xs ++ ys) t
goes_on_past xs ys t (t1, d1) (tokens, t2, d2, first) = (tokens, _, Derives-append d1 d2, first)

-- what begins with the token goes on with it
goes_on : {g : Grammar} (xs : List Sym) (t : Next) → CanBegin g xs t → CanGoOn g xs t
goes_on xs t (k, rest, tree, is, d) = (k ∷ rest, tree, d, sym is)

pub kind_is : (u : ℕ) (t : Next) → is_of_kind u t ≡ true → t ≡ Some u
kind_is u None e = absurd (cc)
kind_is u (Some k) e = ap Some (sym (eqb-true u k e))

pub empties_sound : (g : Grammar) (nullable : Marks) (symbols : List Sym) → EmptySound g nullable → empties nullable symbols ≡ true → CanBeEmpty g symbols
empties_sound g nullable [] sound e = ([], nothing)
empties_sound g nullable (Token u ∷ rest) sound e = absurd (cc)
empties_sound g nullable (Rule r ∷ rest) sound e =
    let p = and_parts (nullable r) (empties nullable rest) e in
    empty_more (Rule r ∷ []) rest (sound r p.0) (empties_sound g nullable rest sound p.1)

pub begins_sound : (g : Grammar) (nullable first : Marks) (t : Next) (after : Bool) (symbols : List Sym) → IsWellFormed g → EmptySound g nullable → FirstSound g first t →
    All (IsNamed (length g)) symbols → begins nullable first t after symbols ≡ true → CanBegin g symbols t ⊎ (CanBeEmpty g symbols × (after ≡ true))
begins_sound g nullable first t after [] well empty_sound first_sound named e = inr (([], nothing), e)
begins_sound g nullable first t after (Token u ∷ rest) well empty_sound first_sound named e =
    let d = derives_some g rest well (All-tail (IsNamed (length g)) (Token u) rest named) in
    inl (u, d.0, d.1, kind_is u t e, token d.2)
begins_sound g nullable first t after (Rule r ∷ rest) well empty_sound first_sound named e =
    let rest_named = All-tail (IsNamed (length g)) (Rule r) rest named in
    elim (or_cases (first r) (nullable r && begins nullable first t after rest) e) [
      | inl f ↦ inl (begins_before g (Rule r ∷ []) rest t well rest_named (first_sound r f))
      | inr f ↦
          let p = and_parts (nullable r) (begins nullable first t after rest) f in
          elim (begins_sound g nullable first t after rest well empty_sound first_sound rest_named p.1) [
            | inl b ↦ inl (begins_past (Rule r ∷ []) rest t (empty_sound r p.0) b)
            | inr b ↦ inr (empty_more (Rule r ∷ []) rest (empty_sound r p.0) b.0, b.1)
          ]
    ]

-- a rule of which an alternative has marked rules alone can be empty
pub empty_justified : (g : Grammar) (nullable : Marks) (r a : ℕ) (chosen : List Sym) → EmptySound g nullable → alternative_of g r a ≡ Some chosen →
    empties nullable chosen ≡ true → CanBeEmpty g (Rule r ∷ [])
empty_justified g nullable r a chosen sound is e =
    let d = empties_sound g nullable chosen sound e in (_, rule is d.1 nothing)

-- a rule of which an alternative can begin with the token does
pub first_justified : (g : Grammar) (nullable first : Marks) (t : Next) (r a : ℕ) (chosen : List Sym) → IsWellFormed g → EmptySound g nullable → FirstSound g first t →
    alternative_of g r a ≡ Some chosen → begins nullable first t false chosen ≡ true → CanBegin g (Rule r ∷ []) t
first_justified g nullable first t r a chosen well empty_sound first_sound is e =
    elim (begins_sound g nullable first t false chosen well empty_sound first_sound (named_alternative g r a chosen well is) e) [
      | inl (k, rest, tree, same, d) ↦ (k, rest ++ [], _, same, rule is d nothing)
      | inr b ↦ absurd (let f : false ≡ true = b.1 in cc)
    ]

-- a rule that an alternative of a rule that is reached names is reached
pub reach_justified : (g : Grammar) (r a s : ℕ) (before after : List Sym) → alternative_of g r a ≡ Some (before ++ Rule s ∷ after) → IsReached g r → IsReached g s
reach_justified g r a s before after is (p, q, form) = (
  p ++ before,
  after ++ q,
  subst (λ (l : List Sym). IsForm g l)
      (ap (λ (l : List Sym). p ++ l) (append_assoc before (Rule s ∷ after) q) ∙ sym (append_assoc p before (Rule s ∷ (after ++ q))))
      (replaced p q (before ++ Rule s ∷ after) r a form is),
)

-- and followed by what can begin after it
pub follow_justified : (g : Grammar) (nullable first follow : Marks) (t : Next) (r a s : ℕ) (before after : List Sym) → IsWellFormed g → EmptySound g nullable → FirstSound g first t → FollowSound g follow t →
    alternative_of g r a ≡ Some (before ++ Rule s ∷ after) → IsReached g r → begins nullable first t (follow r) after ≡ true → Follows g s t
follow_justified g nullable first follow t r a s before after well empty_sound first_sound follow_sound is reached e =
    let named = All-tail (IsNamed (length g)) (Rule s) after (all_back (IsNamed (length g)) before (Rule s ∷ after) (named_alternative g r a (before ++ Rule s ∷ after) well is)) in
    elim (begins_sound g nullable first t (follow r) after well empty_sound first_sound named e) [
      | inl b ↦ go reached (λ q named_q. goes_on (after ++ q) t (begins_before g after q t well named_q b))
      | inr b ↦ past (follow_sound r b.1) b.0
    ]
  where
    moved : (p q : List Sym) → IsForm g (p ++ Rule r ∷ q) → IsForm g ((p ++ before) ++ Rule s ∷ (after ++ q))
    moved p q form =
        subst (λ (l : List Sym). IsForm g l)
        (ap (λ (l : List Sym). p ++ l) (append_assoc before (Rule s ∷ after) q) ∙ sym (append_assoc p before (Rule s ∷ (after ++ q))))
        (replaced p q (before ++ Rule s ∷ after) r a form is)

    go : IsReached g r → ((q : List Sym) → All (IsNamed (length g)) q → CanGoOn g (after ++ q) t) → Follows g s t
    go (p, q, form) b =
        (p ++ before, after ++ q, moved p q form, b q (All-tail (IsNamed (length g)) (Rule r) q (all_back (IsNamed (length g)) p (Rule r ∷ q) (forms_named g well form))))

    past : Follows g r t → CanBeEmpty g after → Follows g s t
    past (p, q, form, b) empty = (p ++ before, after ++ q, moved p q form, goes_on_past after q t empty b)

-- a marked token is in the choice set
pub choice_sound : (g : Grammar) (nullable first follow : Marks) (t : Next) (r a : ℕ) (chosen : List Sym) → IsWellFormed g → EmptySound g nullable → FirstSound g first t → FollowSound g follow t →
    alternative_of g r a ≡ Some chosen → begins nullable first t (follow r) chosen ≡ true → IsChoice g r a t
choice_sound g nullable first follow t r a chosen well empty_sound first_sound follow_sound is e =
    elim (begins_sound g nullable first t (follow r) chosen well empty_sound first_sound (named_alternative g r a chosen well is) e) [
      | inl b ↦ (chosen, is, inl b)
      | inr b ↦ (chosen, is, inr (b.0, follow_sound r b.1))
    ]
