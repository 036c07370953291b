-- One turn of each pass.
use Rattle.std.proofs.Common.{◌≡◌, ℕ, ◌+◌, ◌<◌, Bool, true, false, List, [], ◌∷◌, ◌++◌, length, get_or, Some, is_some, All, slice_get, sym, ap, ◌∙◌, subst, arith}
use Rattle.std.specs.Int.Bits.{bit_and}
use Rattle.std.proofs.lemmas.Bool.{and_parts, and_from}
use Rattle.std.proofs.lemmas.List.Elements.{All-head, All-tail, All-get_or}
use Rattle.std.proofs.lemmas.Option.{slice_get_within, get_or_from_slice_get}
use Rattle.vital_ll.specs.declared.grammar.Sym.{Sym}
use Rattle.vital_ll.specs.declared.grammar.Sym.TheVariants.{Rule}
use Rattle.vital_ll.specs.declared.derivation.Step.{Step}
use Rattle.vital_ll.specs.declared.listing.Place.{Place}
use Rattle.vital_ll.specs.Grammar.{Grammar, alternative_of}
use Rattle.vital_ll.specs.Choice.{CanBegin, CanBeEmpty, Follows, IsNamed, IsWellFormed}
use Rattle.vital_ll.specs.Marks.{has, marked, empties, begins, IsAdded, IsTurn, IsReached, EmptySound}
use Rattle.vital_ll.specs.Masks.{token_at}
use Rattle.vital_ll.specs.Listing.{ListsPlaces, IsPlaceOf}
use Rattle.vital_ll.specs.Passes.{At, EachBit, EmptyAt, FirstAt, IsNamedAt, ReachAt, FollowAt, FollowsFrom}
use Rattle.vital_ll.proofs.Listings.{bounds_of}
use Rattle.vital_ll.proofs.Progress.{named_alternative}
use Rattle.vital_ll.proofs.Sound.{all_back, empty_justified, first_justified, reach_justified, follow_justified}
use Rattle.vital_ll.proofs.Bits.{has-and}
use Rattle.vital_ll.proofs.Turns.{turn_quiet, turn_add}

-- one alternative has one list of symbols
chosen_of : (g : Grammar) (s x : Step) (chosen found : List Sym) → alternative_of g s.rule s.alternative ≡ Some chosen → s ≡ x → alternative_of g x.rule x.alternative ≡ Some found → found ≡ chosen
chosen_of g s x chosen found is same found_is =
    let f : alternative_of g s.rule s.alternative ≡ alternative_of g x.rule x.alternative = ap (λ (y : Step). alternative_of g y.rule y.alternative) same in
    let t : found ≡ chosen = cc in t

module _ (g : Grammar) (steps : List Step) (k : ℕ) (s : Step) (chosen : List Sym) (at : slice_get steps k ≡ Some s) (is : alternative_of g s.rule s.alternative ≡ Some chosen) (old new : List ℕ) (bits : ℕ) (changed : Bool)
    (len : length old ≡ length g) (added : IsAdded old new s.rule bits changed) where
  inside : s.rule < length old
  inside = let b = bounds_of g s.rule s.alternative (ap is_some is) in omega arith

  pub empty_turn : EachBit (λ i. has bits i ≡ empties (marked old i) chosen) → IsTurn (λ i r. CanBeEmpty g (Rule r ∷ [])) (λ m. At steps k (λ x. EachBit (λ i. EmptyAt g (marked m i) x))) old new changed
  empty_turn bits_are =
      turn_add (λ i r. CanBeEmpty g (Rule r ∷ [])) (λ m. At steps k (λ x. EachBit (λ i. EmptyAt g (marked m i) x))) old new s.rule bits changed inside added
      (λ sound i low h. empty_justified g (marked old i) s.rule s.alternative chosen (λ r m. sound i r low m) is (sym (bits_are i low) ∙ h))
      (λ here x x_is i low found found_is e.
      let same : s ≡ x = cc in
      let whole : found ≡ chosen = chosen_of g s x chosen found is same found_is in
      subst (λ (y : Step). marked old i y.rule ≡ true) same (here i low (bits_are i low ∙ subst (λ (l : List Sym). empties (marked old i) l ≡ true) whole e)))

  pub first_turn : (nullable : List ℕ) (base : ℕ) → IsWellFormed g → EachBit (λ i. EmptySound g (marked nullable i)) →
      EachBit (λ i. has bits i ≡ begins (marked nullable i) (marked old i) (token_at (base + i)) false chosen) →
      IsTurn (λ i r. CanBegin g (Rule r ∷ []) (token_at (base + i))) (λ m. At steps k (λ x. EachBit (λ i. FirstAt g (marked nullable i) (token_at (base + i)) (marked m i) x))) old new changed
  first_turn nullable base well empty_sound bits_are =
      turn_add (λ i r. CanBegin g (Rule r ∷ []) (token_at (base + i))) (λ m. At steps k (λ x. EachBit (λ i. FirstAt g (marked nullable i) (token_at (base + i)) (marked m i) x))) old new s.rule bits changed inside added
      (λ sound i low h. first_justified g (marked nullable i) (marked old i) (token_at (base + i)) s.rule s.alternative chosen well (empty_sound i low) (λ r m. sound i r low m) is (sym (bits_are i low) ∙ h))
      (λ here x x_is i low found found_is e.
      let same : s ≡ x = cc in
      let whole : found ≡ chosen = chosen_of g s x chosen found is same found_is in
      subst (λ (y : Step). marked old i y.rule ≡ true) same
      (here i low (bits_are i low ∙ subst (λ (l : List Sym). begins (marked nullable i) (marked old i) (token_at (base + i)) false l ≡ true) whole e)))

-- the parts round a place are no others
same_split : (b1 b2 : List Sym) (x1 x2 : Sym) (a1 a2 : List Sym) → b1 ++ x1 ∷ a1 ≡ b2 ++ x2 ∷ a2 → length b1 ≡ length b2 → (x1 ≡ x2) × (a1 ≡ a2)
same_split [] [] x1 x2 a1 a2 e n = (cc, cc)
same_split [] (y ∷ b2) x1 x2 a1 a2 e n = absurd (omega arith)
same_split (y ∷ b1) [] x1 x2 a1 a2 e n = absurd (omega arith)
same_split (y ∷ b1) (z ∷ b2) x1 x2 a1 a2 e n = same_split b1 b2 x1 x2 a1 a2 (let t : b1 ++ x1 ∷ a1 ≡ b2 ++ x2 ∷ a2 = cc in t) (omega arith)

same_named : (g : Grammar) (p : Place) (r s : ℕ) (after later : List Sym) → IsNamedAt g p r after → IsNamedAt g p s later → (r ≡ s) × (after ≡ later)
same_named g p r s after later (b1, e1, n1) (b2, e2, n2) =
    let whole : b1 ++ Rule r ∷ after ≡ b2 ++ Rule s ∷ later = cc in
    let parts = same_split b1 b2 (Rule r) (Rule s) after later whole (n1 ∙ sym n2) in
    let heads : Rule r ≡ Rule s = parts.0 in
    (let t : r ≡ s = cc in t, parts.1)

at_one : {A : Type 0} (P : A → Type 0) (xs : List A) (k : ℕ) (x : A) → slice_get xs k ≡ Some x → P x → At xs k P
at_one P xs k x e p y f = let same : x ≡ y = cc in subst P same p

pub place_there : (g : Grammar) (steps : List Step) (places : List Place) (k : ℕ) (p : Place) → ListsPlaces g steps places → slice_get places k ≡ Some p → IsPlaceOf g p
place_there g steps places k p lists at =
    subst (IsPlaceOf g) (get_or_from_slice_get places k p p at) (All-get_or (IsPlaceOf g) places k p (slice_get_within places k p at) lists.there)

pub place_rule : (g : Grammar) (p : Place) → IsPlaceOf g p → p.step.rule < length g
place_rule g p (chosen, is, _) = (bounds_of g p.step.rule p.step.alternative (ap is_some is)).0

named_symbols : (g : Grammar) (p : Place) (r : ℕ) (after : List Sym) → IsWellFormed g → IsNamedAt g p r after → All (IsNamed (length g)) (Rule r ∷ after)
named_symbols g p r after well (before, is, n) = all_back (IsNamed (length g)) before (Rule r ∷ after) (named_alternative g p.step.rule p.step.alternative (before ++ Rule r ∷ after) well is)

pub named_rule : (g : Grammar) (p : Place) (r : ℕ) (after : List Sym) → IsWellFormed g → IsNamedAt g p r after → r < length g
named_rule g p r after well named = All-head (IsNamed (length g)) (Rule r) after (named_symbols g p r after well named)

pub named_after : (g : Grammar) (p : Place) (r : ℕ) (after : List Sym) → IsWellFormed g → IsNamedAt g p r after → All (IsNamed (length g)) after
named_after g p r after well named = All-tail (IsNamed (length g)) (Rule r) after (named_symbols g p r after well named)

pub reach_token : (g : Grammar) (places : List Place) (k : ℕ) (p : Place) (masks : List ℕ) → slice_get places k ≡ Some p → ((r : ℕ) (after : List Sym) → IsNamedAt g p r after → ⊥) →
    IsTurn (λ i r. IsReached g r) (λ m. At places k (λ x. EachBit (λ i. ReachAt g (marked m i) x))) masks masks false
reach_token g places k p masks at none =
    turn_quiet (λ i r. IsReached g r) (λ m. At places k (λ x. EachBit (λ i. ReachAt g (marked m i) x))) masks
    (at_one (λ x. EachBit (λ i. ReachAt g (marked masks i) x)) places k p at (λ i low r after named on. absurd (none r after named)))

pub reach_turn : (g : Grammar) (places : List Place) (k : ℕ) (p : Place) (r : ℕ) (after : List Sym) (old new : List ℕ) (bits : ℕ) (changed : Bool) → IsWellFormed g → length old ≡ length g →
    slice_get places k ≡ Some p → IsNamedAt g p r after → bits ≡ get_or old p.step.rule 0 → IsAdded old new r bits changed →
    IsTurn (λ i q. IsReached g q) (λ m. At places k (λ x. EachBit (λ i. ReachAt g (marked m i) x))) old new changed
reach_turn g places k p r after old new bits changed well len at named bits_are added =
    turn_add (λ i q. IsReached g q) (λ m. At places k (λ x. EachBit (λ i. ReachAt g (marked m i) x))) old new r bits changed (let low = named_rule g p r after well named in omega arith) added
    (λ sound i low h. reach_justified g p.step.rule p.step.alternative r named.0 after named.1 (sound i p.step.rule low (ap (λ (x : ℕ). has x i) (sym bits_are) ∙ h)))
    (λ on. at_one (λ x. EachBit (λ i. ReachAt g (marked old i) x)) places k p at (λ i low q later other on_here.
    subst (λ (x : ℕ). marked old i x ≡ true) (same_named g p r q after later named other).0 (on i low (ap (λ (x : ℕ). has x i) bits_are ∙ on_here))))

module _ (g : Grammar) (places : List Place) (base : ℕ) (nullable first reached : List ℕ) (k : ℕ) (p : Place) (at : slice_get places k ≡ Some p) where
  abbrev Settled : List ℕ → Type 0
  Settled m = At places k (λ x. EachBit (λ i. FollowAt g (marked nullable i) (marked first i) (marked reached i) (token_at (base + i)) (marked m i) x))

  pub follow_token : (masks : List ℕ) → ((r : ℕ) (after : List Sym) → IsNamedAt g p r after → ⊥) → IsTurn (λ i r. Follows g r (token_at (base + i))) Settled masks masks false
  follow_token masks none =
      turn_quiet (λ i r. Follows g r (token_at (base + i))) Settled masks
      (at_one (λ x. EachBit (λ i. FollowAt g (marked nullable i) (marked first i) (marked reached i) (token_at (base + i)) (marked masks i) x)) places k p at (λ i low r after named on e. absurd (none r after named)))

  pub follow_turn : (steps : List Step) (r : ℕ) (after : List Sym) (old new : List ℕ) (begin bits : ℕ) (changed : Bool) → FollowsFrom g steps places base nullable first reached → length old ≡ length g →
      IsNamedAt g p r after → bits ≡ bit_and (get_or reached p.step.rule 0) begin →
      EachBit (λ i. has begin i ≡ begins (marked nullable i) (marked first i) (token_at (base + i)) (marked old i p.step.rule) after) →
      IsAdded old new r bits changed → IsTurn (λ i r. Follows g r (token_at (base + i))) Settled old new changed
  follow_turn steps r after old new begin bits changed from len named bits_are begin_is added =
      turn_add (λ i r. Follows g r (token_at (base + i))) Settled old new r bits changed
      (let low = named_rule g p r after from.well_formed named in omega arith) added
      (λ sound i low h.
      let both = and_parts (marked reached i p.step.rule) (has begin i) (sym (has-and (get_or reached p.step.rule 0) begin i) ∙ ap (λ (x : ℕ). has x i) (sym bits_are) ∙ h) in
      follow_justified g (marked nullable i) (marked first i) (marked old i) (token_at (base + i)) p.step.rule p.step.alternative r named.0 after from.well_formed
      (from.empty_sound i low) (from.first_sound i low) (λ q m. sound i q low m) named.1 (from.reach_sound i low p.step.rule both.0) (sym (begin_is i low) ∙ both.1))
      (λ on. at_one (λ x. EachBit (λ i. FollowAt g (marked nullable i) (marked first i) (marked reached i) (token_at (base + i)) (marked old i) x)) places k p at (λ i low q later other on_here e.
      let same = same_named g p r q after later named other in
      let begin_on : has begin i ≡ true = begin_is i low ∙ subst (λ (l : List Sym). begins (marked nullable i) (marked first i) (token_at (base + i)) (marked old i p.step.rule) l ≡ true) (sym same.1) e in
      let bits_on : has bits i ≡ true = ap (λ (x : ℕ). has x i) bits_are ∙ has-and (get_or reached p.step.rule 0) begin i ∙ and_from (marked reached i p.step.rule) (has begin i) on_here begin_on in
      subst (λ (x : ℕ). marked old i x ≡ true) same.0 (on i low bits_on)))
