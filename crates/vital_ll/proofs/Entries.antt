-- The rows of a rule: the alternatives that tokens decide for.
use Rattle.std.proofs.Common.{◌≡◌, ℕ, zero, suc, ◌+◌, ◌*◌, ◌/◌, ◌%◌, ◌^◌, ◌<◌, ◌≤◌, Bool, true, false, not, ◌||◌, ◌&&◌, cond, eqb, List, [], ◌∷◌, ◌++◌, length, get_or, set, replicate, Option, Some, None, IsSome, is_some, refl, sym, ap, ◌∙◌, subst, arith, inl, inr, slice_get, ◌⊎◌}
use mir.Syntax.{w128}
use Rattle.std.specs.Int.{trailing_zeros}
use Rattle.std.specs.Int.Bits.{bit_or, bit_and}
use Rattle.std.proofs.lemmas.Bool.{cases_eq, cases_lt, cases_Bool, eq-eqb, ne_eqb, and_parts, and_from, and_right, or_right, cond-true, cond-false}
use Rattle.std.proofs.lemmas.List.{get_or-set_same, get_or-set_other, get_or_append_left, get_or-append-add, length-append, length-set, get_or_past}
use Rattle.vital_ll.specs.declared.prediction.RulesError.{RulesError}
use Rattle.vital_ll.specs.declared.prediction.RulesError.TheVariants.{NotPredictive, NoMemory}
use Rattle.vital_ll.specs.declared.blocks.Block.{Block}
use Rattle.vital_ll.specs.declared.derivation.Step.{Step}
use Rattle.vital_ll.specs.declared.grammar.Sym.{Sym}
use Rattle.vital_ll.specs.declared.listing.Place.{Place}
use Rattle.vital_ll.specs.Grammar.{Grammar, alternative_of}
use Rattle.vital_ll.specs.Sentence.{Next}
use Rattle.vital_ll.specs.Choice.{IsChoice, HasConflict, IsPredictive, IsWellFormed}
use Rattle.vital_ll.specs.Conflict.{IsConflict, IsConflictAt}
use Rattle.vital_ll.specs.Marks.{Marks, has, marked, begins, FirstClosed, FollowClosed}
use Rattle.vital_ll.specs.Masks.{bit_of, token_at}
use Rattle.vital_ll.specs.Passes.{EachBit, AreSets, IsAnalysis, FirstMasks, FollowsFrom, FollowMasks, IsBlock, AreBlocks}
use Rattle.vital_ll.specs.Table.{IsChoiceMask, IsRow, IsPartOfRow, AreRows, HasRows, entry_at}
use Rattle.vital_ll.proofs.Bits.{has-or, has-and, has_none, lowest, token_at-bit}
use Rattle.vital_ll.proofs.Complete.{AreClosed, choice_marked}
use Rattle.vital_ll.proofs.Sound.{choice_sound}
use Rattle.vital_ll.proofs.Listings.{bounds_of, there_at}

-- the bits that are left have no entry of the alternative yet
pub record IsChosen (old : List (Option ℕ)) (mask a left : ℕ) (choices : List (Option ℕ)) : Type 0 where
  pub size : length choices ≡ 128
  pub entries : EachBit (λ i. get_or choices i None ≡ cond (has mask i && not (has left i)) (Some a) (get_or old i None))
  pub left_is : EachBit (λ i. has left i ≡ true → has mask i ≡ true)

and_true : (b : Bool) → (b && true) ≡ b
and_true true = refl
and_true false = refl

pub chosen_more : (old : List (Option ℕ)) (mask a left k later : ℕ) (choices : List (Option ℕ)) → k < 128 → has left k ≡ true → EachBit (λ i. has later i ≡ (has left i && not (eqb i k))) →
    IsChosen old mask a left choices → IsChosen old mask a later (set choices k (Some a))
chosen_more old mask a left k later choices low on later_is c = record {
  size = length-set choices k (Some a) ∙ c.size;
  entries = λ i inside. elim (cases_eq i k) [
    | inl e ↦
        let here : get_or (set choices k (Some a)) k None ≡ Some a = get_or-set_same choices k (Some a) None (let s = c.size in omega arith) in
        let gone : has later k ≡ false = later_is k low ∙ ap (λ (b : Bool). has left k && not b) (eq-eqb k k refl) ∙ and_right (has left k) false refl in
        let test : (has mask k && not (has later k)) ≡ true = and_from (has mask k) (not (has later k)) (c.left_is k low on) (ap not gone) in
        subst (λ (x : ℕ). get_or (set choices k (Some a)) x None ≡ cond (has mask x && not (has later x)) (Some a) (get_or old x None)) (sym e)
        (here ∙ sym (cond-true (has mask k && not (has later k)) (Some a) (get_or old k None) test))
    | inr n ↦
        let same : has later i ≡ has left i = later_is i inside ∙ ap (λ (b : Bool). has left i && not b) (ne_eqb i k n) ∙ and_true (has left i) in
        get_or-set_other choices k i (Some a) None n ∙ c.entries i inside ∙ ap (λ (b : Bool). cond (has mask i && not b) (Some a) (get_or old i None)) (sym same)
  ];
  left_is = λ i inside h. c.left_is i inside (and_parts (has left i) (not (eqb i k)) (sym (later_is i inside) ∙ h)).0;
}

pub none_entered : (A : Type 0) (n i : ℕ) → let row : List (Option A) = replicate n None in get_or row i None ≡ None
none_entered A zero i = refl
none_entered A (suc n) zero = refl
none_entered A (suc n) (suc i) = none_entered A n i

pub row_none : (g : Grammar) (r base : ℕ) → IsPartOfRow g r base 0 (replicate 128 None) 0
row_none g r base = record {
  size = refl;
  sound = λ i a low h. absurd (let none = none_entered ℕ 128 i in cc);
  entered = λ i low. has_none i ∙ ap is_some (sym (none_entered ℕ 128 i));
  only = λ i a t low e inside chosen. absurd (omega arith);
}

-- where one more alternative shares no token with those before
pub row_more : (g : Grammar) (r base n : ℕ) (old new : List (Option ℕ)) (seen mask : ℕ) → length new ≡ 128 → IsChoiceMask g r n base mask → bit_and seen mask ≡ 0 →
    EachBit (λ i. get_or new i None ≡ cond (has mask i) (Some n) (get_or old i None)) → IsPartOfRow g r base n old seen → IsPartOfRow g r base (n + 1) new (bit_or seen mask)
row_more g r base n old new seen mask size mask_is apart new_is p = record {
  size = size;
  sound = λ i a low h. elim (cases_Bool (has mask i)) [
    | inl on ↦
        let same : Some n ≡ Some a = sym (entered_on i low on) ∙ h in
        let a_is : n ≡ a = cc in
        (omega arith, subst (λ (x : ℕ). IsChoice g r x (token_at (base + i))) a_is (mask_is.sound i low on))
    | inr off ↦ let q = p.sound i a low (sym (entered_off i low off) ∙ h) in (let before : a < n = q.0 in omega arith, q.1)
  ];
  entered = λ i low. has-or seen mask i ∙ elim (cases_Bool (has mask i)) [
    | inl on ↦ or_right (has seen i) (has mask i) on ∙ ap is_some (sym (entered_on i low on))
    | inr off ↦ ap (λ (b : Bool). has seen i || b) off ∙ or_none (has seen i) ∙ p.entered i low ∙ ap is_some (sym (entered_off i low off))
  ];
  only = λ i a t low e inside chosen. elim (cases_eq a n) [
    | inl same ↦ entered_on i low (mask_is.complete i t low e (subst (λ (x : ℕ). IsChoice g r x t) same chosen)) ∙ ap Some (sym same)
    | inr other ↦
        let was : get_or old i None ≡ Some a = p.only i a t low e (omega arith) chosen in
        let on : has seen i ≡ true = p.entered i low ∙ ap is_some was in
        entered_off i low (elim (cases_Bool (has mask i)) [
          | inl both ↦ absurd (shared i on both)
          | inr off ↦ off
        ]) ∙ was
  ];
}
  where
    or_none : (b : Bool) → (b || false) ≡ b
    or_none true = refl
    or_none false = refl

    entered_on : (i : ℕ) → i < 128 → has mask i ≡ true → get_or new i None ≡ Some n
    entered_on i low on = new_is i low ∙ cond-true (has mask i) (Some n) (get_or old i None) on

    entered_off : (i : ℕ) → i < 128 → has mask i ≡ false → get_or new i None ≡ get_or old i None
    entered_off i low off = new_is i low ∙ cond-false (has mask i) (Some n) (get_or old i None) off

    shared : (i : ℕ) → has seen i ≡ true → has mask i ≡ true → ⊥
    shared i on both =
        let e : has (bit_and seen mask) i ≡ true = has-and seen mask i ∙ and_from (has seen i) (has mask i) on both in
        let none : has (bit_and seen mask) i ≡ false = ap (λ (x : ℕ). has x i) apart ∙ has_none i in cc

some_entry : (o : Option ℕ) → is_some o ≡ true → (a : ℕ) × (o ≡ Some a)
some_entry None e = absurd (cc)
some_entry (Some a) e = (a, refl)

-- where it shares a token with one of them
pub row_conflict : (g : Grammar) (r base n : ℕ) (choices : List (Option ℕ)) (seen mask : ℕ) → IsChoiceMask g r n base mask → (bit_and seen mask ≡ 0 → ⊥) → bit_and seen mask < 2 ^ 128 →
    IsPartOfRow g r base n choices seen → HasConflict g r
row_conflict g r base n choices seen mask mask_is some fits p =
    let i : ℕ = trailing_zeros w128 (bit_and seen mask) in
    let at = lowest (bit_and seen mask) some fits in
    let low : i < 128 = at.0 in
    let both = and_parts (has seen i) (has mask i) (sym (has-and seen mask i) ∙ at.1) in
    let entry = some_entry (get_or choices i None) (sym (p.entered i low) ∙ both.0) in
    let old = p.sound i entry.0 low entry.1 in
    (entry.0, n, token_at (base + i), (λ (e : entry.0 ≡ n). let before : entry.0 < n = old.0 in omega arith), old.1, mask_is.sound i low both.1)

-- the row of all alternatives
pub row_done : (g : Grammar) (r base n seen : ℕ) (choices : List (Option ℕ)) → r < length g → n ≡ length (get_or g r []) → IsPartOfRow g r base n choices seen → IsRow g r base choices
row_done g r base n seen choices inside n_is p = record {
  size = p.size;
  there = λ i a low h. there_at g r a inside (let q = p.sound i a low h in let before : a < n = q.0 in omega arith);
  only = λ i a t low e chosen. p.only i a t low e (let b = bounds_of g r a (ap is_some chosen.1) in omega arith) chosen;
}

pub get_or_last : {A : Type 0} (xs : List A) (x d : A) (k : ℕ) → k ≡ length xs → get_or (xs ++ x ∷ []) k d ≡ x
get_or_last xs x d k e = subst (λ (j : ℕ). get_or (xs ++ x ∷ []) j d ≡ x) (let f : length xs + 0 ≡ k = omega arith in f) (get_or-append-add xs (x ∷ []) 0 d)

-- one more row
pub rows_more : (g : Grammar) (r k : ℕ) (rows : List (List (Option ℕ))) (row : List (Option ℕ)) → IsRow g r (128 * k) row → AreRows g r k rows → AreRows g r (k + 1) (rows ++ row ∷ [])
rows_more g r k rows row row_is rows_are = record {
  size = length-append rows (row ∷ []) ∙ (let s = rows_are.size in omega arith);
  each = λ j low. elim (cases_eq j k) [
    | inl e ↦ subst (λ (x : ℕ). IsRow g r (128 * x) (get_or (rows ++ row ∷ []) x [])) (sym e)
        (subst (IsRow g r (128 * k)) (sym (get_or_last rows row [] k (sym rows_are.size))) row_is)
    | inr n ↦
        subst (IsRow g r (128 * j)) (sym (get_or_append_left rows (row ∷ []) [] j (let s = rows_are.size in omega arith)))
        (rows_are.each j (omega arith))
  ];
}

-- the entry of a token is the alternative that it decides for
pub entry_decides : (g : Grammar) (r blocks bit : ℕ) (t : Next) (a : ℕ) (rows : List (List (Option ℕ))) → AreRows g r blocks rows → bit ≡ bit_of t → bit < 128 * blocks → IsChoice g r a t → entry_at rows bit ≡ Some a
entry_decides g r blocks bit t a rows rows_are bit_is inside chosen =
    (rows_are.each (bit / 128) (omega arith)).only (bit % 128) a t (omega arith) (let e : 128 * (bit / 128) + bit % 128 ≡ bit = omega arith in sym bit_is ∙ sym e) chosen

-- and one that is there
pub entry_there : (g : Grammar) (r blocks bit a : ℕ) (rows : List (List (Option ℕ))) → AreRows g r blocks rows → entry_at rows bit ≡ Some a → IsSome (alternative_of g r a)
entry_there g r blocks bit a rows rows_are e =
    elim (cases_lt (bit / 128) blocks) [
      | inl inside ↦ (rows_are.each (bit / 128) inside).there (bit % 128) a (omega arith) e
      | inr past ↦
          let none : get_or (get_or rows (bit / 128) []) (bit % 128) None ≡ None = ap (λ (l : List (Option ℕ)). get_or l (bit % 128) None) (get_or_past rows (bit / 128) [] (let s = rows_are.size in omega arith)) in
          absurd (cc)
    ]

-- a rule that has its rows has no conflict
pub no_conflict : (g : Grammar) (r blocks : ℕ) (rows : List (List (Option ℕ))) → ((a : ℕ) (t : Next) → IsChoice g r a t → bit_of t < 128 * blocks) → AreRows g r blocks rows → HasConflict g r → ⊥
no_conflict g r blocks rows within rows_are (a, b, t, other, has_a, has_b) =
    let at_a = entry_decides g r blocks (bit_of t) t a rows rows_are refl (within a t has_a) has_a in
    let at_b = entry_decides g r blocks (bit_of t) t b rows rows_are refl (within a t has_a) has_b in
    other (let both : Some a ≡ Some b = sym at_a ∙ at_b in cc)

-- the rows of the first n rules
pub record AreTableRows (g : Grammar) (blocks n : ℕ) (table : List (List (List (Option ℕ)))) : Type 0 where
  pub size : length table ≡ n
  pub each : (r : ℕ) → r < n → AreRows g r blocks (get_or table r [])

pub table_more : (g : Grammar) (blocks n : ℕ) (table : List (List (List (Option ℕ)))) (rows : List (List (Option ℕ))) → AreRows g n blocks rows → AreTableRows g blocks n table → AreTableRows g blocks (n + 1) (table ++ rows ∷ [])
table_more g blocks n table rows rows_are t = record {
  size = length-append table (rows ∷ []) ∙ (let s = t.size in omega arith);
  each = λ r low. elim (cases_eq r n) [
    | inl e ↦ subst (λ (x : ℕ). AreRows g x blocks (get_or (table ++ rows ∷ []) x [])) (sym e)
        (subst (AreRows g n blocks) (sym (get_or_last table rows [] n (sym t.size))) rows_are)
    | inr d ↦
        subst (AreRows g r blocks) (sym (get_or_append_left table (rows ∷ []) [] r (let s = t.size in omega arith)))
        (t.each r (omega arith))
  ];
}

-- the first conflict is that of the rule after those that have rows
pub conflict_first : (g : Grammar) (blocks n : ℕ) (table : List (List (List (Option ℕ)))) (e : RulesError) → ((r a : ℕ) (t : Next) → IsChoice g r a t → bit_of t < 128 * blocks) → AreTableRows g blocks n table →
    IsConflictAt g n e → IsConflict g e
conflict_first g blocks n table (NotPredictive c) within t (same, conflict) = record {
  meets = subst (HasConflict g) (sym same) conflict;
  least = λ s low. no_conflict g s blocks (get_or table s []) (within s) (t.each s (omega arith));
}
conflict_first g blocks n table NoMemory within t h = tt

-- rows of all rules show that the grammar is predictive
pub predictive : (g : Grammar) (blocks n : ℕ) (rows : List (List (List (Option ℕ)))) → ((r a : ℕ) (t : Next) → IsChoice g r a t → bit_of t < 128 * blocks) → length g ≤ n → AreTableRows g blocks n rows → IsPredictive g
predictive g blocks n rows within past t r (a, b, u, other, has_a, has_b) =
    let inside = (bounds_of g r a (ap is_some has_a.1)).0 in
    no_conflict g r blocks (get_or rows r []) (within r) (t.each r (omega arith)) (a, b, u, other, has_a, has_b)

-- and have an entry for each token of a choice set
pub has_rows : (g : Grammar) (blocks n : ℕ) (rows : List (List (List (Option ℕ)))) → ((r a : ℕ) (t : Next) → IsChoice g r a t → bit_of t < 128 * blocks) → n ≡ length g → AreTableRows g blocks n rows → HasRows g (128 * blocks) rows
has_rows g blocks n rows within n_is t = record {
  size = t.size ∙ n_is;
  sizes = λ r inside. ap (λ k. 128 * k) (sym (t.each r (omega arith)).size);
  there = λ r bit a inside e. entry_there g r blocks bit a (get_or rows r []) (t.each r (omega arith)) e;
  only = λ r a u chosen.
      let inside = (bounds_of g r a (ap is_some chosen.1)).0 in
      let low = within r a u chosen in
      (low, entry_decides g r blocks (bit_of u) u a (get_or rows r []) (t.each r (omega arith)) refl low chosen);
}

-- the marks of a token are those that hold its choice sets
closed_sets : (g : Grammar) (bit : ℕ) (nullable first reached follow : Marks) → (t : Next) → bit_of t ≡ bit → AreSets g bit nullable first reached follow → AreClosed g nullable first reached follow t
closed_sets g bit nullable first reached follow t e s =
    let same : token_at bit ≡ t = ap token_at (sym e) ∙ token_at-bit t in
    record {
      empty_closed = s.nullable_is.closed;
      first_closed = subst (λ (x : Next). FirstClosed g nullable first x) same s.first_is.closed;
      reach_closed = s.reached_is.closed;
      follow_closed = subst (λ (x : Next). FollowClosed g nullable first reached follow x) same s.follow_is.closed;
      at_first = s.reached_is.at_first;
      at_end = λ f. s.follow_is.at_end (sym e ∙ ap bit_of f);
    }

-- the tokens with which an alternative can begin, or that follow its rule where it can be empty, are its choice set
pub choice_mask_is : (g : Grammar) (r a : ℕ) (nullable : List ℕ) (base : ℕ) (block : Block) (chosen : List Sym) (mask : ℕ) → IsWellFormed g → IsBlock g nullable base block → alternative_of g r a ≡ Some chosen →
    EachBit (λ i. has mask i ≡ begins (marked nullable i) (marked block.first.items i) (token_at (base + i)) (marked block.follow.items i r) chosen) → IsChoiceMask g r a base mask
choice_mask_is g r a nullable base block chosen mask well block_is is mask_is = record {
  sound = λ i low h.
      let s = block_is.each i low in
      choice_sound g (marked nullable i) (marked block.first.items i) (marked block.follow.items i) (token_at (base + i)) r a chosen well s.1.nullable_is.sound s.1.first_is.sound s.1.follow_is.sound is (sym (mask_is i low) ∙ h);
  complete = λ i t low e h.
      let s = block_is.each i low in
      let same : token_at (base + i) ≡ t = ap token_at (sym e) ∙ token_at-bit t in
      mask_is i low ∙ subst (λ (x : Next). begins (marked nullable i) (marked block.first.items i) x (marked block.follow.items i r) chosen ≡ true) (sym same)
      (choice_marked g (marked nullable i) (marked block.first.items i) s.0 (marked block.follow.items i) t r a chosen (closed_sets g (base + i) (marked nullable i) (marked block.first.items i) s.0 (marked block.follow.items i) t e s.1) is h);
}

-- what the masks for what follows are found from
pub follows_from : (g : Grammar) (steps : List Step) (places : List Place) (base : ℕ) (nullable first reached : List ℕ) → IsAnalysis g steps places nullable reached → FirstMasks g nullable base first →
    FollowsFrom g steps places base nullable first reached
follows_from g steps places base nullable first reached a f = record {
  well_formed = a.well_formed;
  lists = a.lists_places;
  nullable_len = a.nullable_is.len;
  first_len = f.len;
  reached_len = a.reached_is.len;
  empty_sound = λ i low. (a.nullable_is.each i low).sound;
  first_sound = λ i low. (f.each i low).sound;
  reach_sound = λ i low. (a.reached_is.each i low).sound;
}

-- the masks of a block
pub block_made : (g : Grammar) (steps : List Step) (places : List Place) (base : ℕ) (nullable reached : List ℕ) (block : Block) → IsAnalysis g steps places nullable reached → block.base ≡ base →
    FirstMasks g nullable base block.first.items → FollowMasks g nullable block.first.items reached base block.follow.items → IsBlock g nullable base block
block_made g steps places base nullable reached block a base_is f h = record {
  base_is = base_is;
  nullable_len = a.nullable_is.len;
  first_len = f.len;
  follow_len = h.len;
  each = λ i low. (marked reached i, record { nullable_is = a.nullable_is.each i low; first_is = f.each i low; reached_is = a.reached_is.each i low; follow_is = h.each i low });
}

pub at_push_cases : {A : Type 0} (xs : List A) (y : A) (k : ℕ) (x : A) → slice_get (xs ++ y ∷ []) k ≡ Some x → (slice_get xs k ≡ Some x) ⊎ ((k ≡ length xs) × (y ≡ x))
at_push_cases [] y zero x e = inr (refl, cc)
at_push_cases [] y (suc k) x e = absurd (cc)
at_push_cases (z ∷ xs) y zero x e = inl e
at_push_cases (z ∷ xs) y (suc k) x e =
    elim (at_push_cases xs y k x e) [ inl old ↦ inl old | inr p ↦ inr (let f : k ≡ length xs = p.0 in omega arith, p.1) ]

-- one block more
pub blocks_more : (g : Grammar) (nullable : List ℕ) (n : ℕ) (blocks : List Block) (block : Block) → length blocks ≡ n → AreBlocks g nullable blocks → IsBlock g nullable (128 * n) block → AreBlocks g nullable (blocks ++ block ∷ [])
blocks_more g nullable n blocks block size before here k x at =
    elim (at_push_cases blocks block k x at) [
      | inl old ↦ before k x old
      | inr (place, same) ↦ subst (λ (b : Block). IsBlock g nullable (128 * k) b) same (subst (λ (j : ℕ). IsBlock g nullable (128 * j) block) (sym (place ∙ size)) here)
    ]
