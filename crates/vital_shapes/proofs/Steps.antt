-- Readers of single steps and tokens take what a rule or a token derives.
use Rattle.std.proofs.Common.{◌≡◌, ℕ, zero, suc, ◌≤◌, List, [], ◌∷◌, ◌++◌, length, drop, Some, slice_get, true, refl, sym, ap, ◌∙◌, subst, append_assoc, le_refl, arith}
use Rattle.std.specs.Option.{option_and_then}
use Rattle.vital_base.specs.declared.place.Place.{Place}
use Rattle.vital_grammar.specs.Grammar.{grammar}
use Rattle.vital_ll.specs.Grammar.{alternative_of}
use Rattle.vital_ll.specs.declared.grammar.Sym.{Sym}
use Rattle.vital_ll.specs.declared.grammar.Sym.TheVariants.{Token as Word, Rule}
use Rattle.vital_lex.specs.declared.token_list.Token.{Token}
use Rattle.vital_shapes.specs.Reading.{Reader, ◌>>=◌, ◌>>◌, alternative, past_step, choice, left, first_token, next_token, past_token, skip, next_place, place_at, place, next_spelling, spelling}
use Rattle.vital_shapes.proofs.Along.{Source, Along, Stands, past_first}
use Rattle.vital_shapes.proofs.Filled.{has_token, token_left_for}
use Rattle.vital_shapes.proofs.FromTheLeft.{Reads, rule_read, token_read}
use Rattle.vital_shapes.proofs.Takes.{Takes, fewer, followed}

-- each alternative of a list, by its number
abbrev pub Each : (ℕ → List Sym → Type 0) → List (List Sym) → Type 0
Each F [] = Unit {0}
Each F (x ∷ xs) = F zero x × Each (λ c. F (suc c)) xs

-- one alternative, and those after it
infixr 2 ◌&◌
abbrev pub ◌&◌ : {A B : Type 0} → A → B → A × B
a & b = (a, b)

nth_of : (F : ℕ → List Sym → Type 0) (alternatives : List (List Sym)) (c : ℕ) {chosen : List Sym} →
    Each F alternatives → slice_get alternatives c ≡ Some chosen → F c chosen
nth_of F [] c all e = absurd (cc)
nth_of F (x ∷ xs) zero {chosen} all e = let same : x ≡ chosen = cc in subst (F zero) same all.0
nth_of F (x ∷ xs) (suc c) all e = nth_of (λ n. F (suc n)) xs c all.1 e

pub each_of : (F G : ℕ → List Sym → Type 0) (alternatives : List (List Sym)) →
    ((c : ℕ) (chosen : List Sym) → F c chosen → G c chosen) → Each F alternatives → Each G alternatives
each_of F G [] f all = tt
each_of F G (x ∷ xs) f all = (f zero x all.0, each_of (λ n. F (suc n)) (λ n. G (suc n)) xs (λ c chosen a. f (suc c) chosen a) all.1)

-- the alternatives of a rule whose list is known
alternative_in : (r c : ℕ) {alternatives : List (List Sym)} {chosen : List Sym} → slice_get grammar r ≡ Some alternatives →
    alternative_of grammar r c ≡ Some chosen → slice_get alternatives c ≡ Some chosen
alternative_in r c known e = ap (λ l. option_and_then (λ alternatives. slice_get alternatives c) l) (sym known) ∙ e

-- a step, and what each alternative goes on with; of the steps that may be left one is taken
pub choose_down : {A : Type 0} {o : Source} {n : ℕ} {ts : List Token} {Q : A → List Token → Type 0} (r : ℕ) (q : ℕ → Reader A) {alternatives : List (List Sym)} →
    slice_get grammar r ≡ Some alternatives → Each (λ c chosen. Takes o n chosen ts (q c) Q) alternatives → Takes o (suc n) (Rule r ∷ []) ts (choice >>= q) Q
unfolding left alternative past_step
choose_down {o = o} {n = n} {ts = ts} {Q = Q} r q {alternatives = alternatives} known all = record {
  run = λ ending i rest fits d at.
      let s = rule_read d.reads in
      let taken = nth_of (λ c chosen. Takes o n chosen ts (q c) Q) alternatives (alternative i) all (alternative_in r (alternative i) known s.is_chosen) in
      let shorter : length i.steps ≡ suc (length (drop 1 i.steps)) = s.shorter in
      let a = taken.run ending (past_step i) rest (omega arith) (record { reads = s.after; text_is = d.text_is; file_is = d.file_is }) at in
      let within : left a.next ≤ length (drop 1 i.steps) = a.within in
      record { value = a.value; next = a.next; answers = a.answers; ready = a.ready; within = omega arith; good = a.good };
}

pub choose : {A : Type 0} {o : Source} {n : ℕ} {ts : List Token} {Q : A → List Token → Type 0} (r : ℕ) (q : ℕ → Reader A) {alternatives : List (List Sym)} →
    slice_get grammar r ≡ Some alternatives → Each (λ c chosen. Takes o n chosen ts (q c) Q) alternatives → Takes o n (Rule r ∷ []) ts (choice >>= q) Q
choose {n = n} r q known all = fewer (omega arith) (choose_down r q known all)

-- the same of a rule with one alternative
pub step_down : {A : Type 0} {o : Source} {n : ℕ} {ts : List Token} {Q : A → List Token → Type 0} (r : ℕ) {xs : List Sym} {q : Reader A} →
    slice_get grammar r ≡ Some (xs ∷ []) → Takes o n xs ts q Q → Takes o (suc n) (Rule r ∷ []) ts (choice >> q) Q
step_down r {q = q} known takes = choose_down r (λ c. q) known (takes, tt)

pub step : {A : Type 0} {o : Source} {n : ℕ} {ts : List Token} {Q : A → List Token → Type 0} (r : ℕ) {xs : List Sym} {q : Reader A} →
    slice_get grammar r ≡ Some (xs ∷ []) → Takes o n xs ts q Q → Takes o n (Rule r ∷ []) ts (choice >> q) Q
step {n = n} r known takes = fewer (omega arith) (step_down r known takes)

-- the same where the reader goes on behind the rule
pub step_before : {A : Type 0} {o : Source} {n : ℕ} {ts : List Token} {Q : A → List Token → Type 0} (r : ℕ) {xs ys : List Sym} {q : Reader A} →
    slice_get grammar r ≡ Some (xs ∷ []) → Takes o n (xs ++ ys) ts q Q → Takes o n (Rule r ∷ ys) ts (choice >> q) Q
unfolding left alternative past_step
step_before r {xs = xs} {ys = ys} known takes = record {
  run = λ ending i rest fits d at.
      let s = rule_read d.reads in
      let only : xs ≡ s.chosen = nth_of (λ c chosen. xs ≡ chosen) (xs ∷ []) (alternative i) (refl, tt) (alternative_in r (alternative i) known s.is_chosen) in
      let after : Reads ending ((xs ++ ys) ++ rest) i.tokens (drop 1 i.steps) =
      subst (λ (l : List Sym). Reads ending l i.tokens (drop 1 i.steps)) (ap (λ (l : List Sym). l ++ (ys ++ rest)) (sym only) ∙ sym (append_assoc xs ys rest)) s.after in
      let shorter : length i.steps ≡ suc (length (drop 1 i.steps)) = s.shorter in
      let a = takes.run ending (past_step i) rest (omega arith) (record { reads = after; text_is = d.text_is; file_is = d.file_is }) at in
      let within : left a.next ≤ length (drop 1 i.steps) = a.within in
      record { value = a.value; next = a.next; answers = a.answers; ready = a.ready; within = omega arith; good = a.good };
}

-- where no step may be left no rule is read
pub none_left : {A : Type 0} {o : Source} {r : ℕ} {xs : List Sym} {ts : List Token} {p : Reader A} {Q : A → List Token → Type 0} → Takes o zero (Rule r ∷ xs) ts p Q
unfolding left
none_left = record {
  run = λ ending i rest fits d at.
      let s = rule_read d.reads in
      let shorter : length i.steps ≡ suc (length (drop 1 i.steps)) = s.shorter in
      absurd (omega arith);
}

-- a reader that is told how many steps are left
pub told_left : {A : Type 0} {o : Source} {n : ℕ} {xs : List Sym} {ts : List Token} {q : ℕ → Reader A} {Q : A → List Token → Type 0} →
    ((m : ℕ) → m ≤ n → Takes o m xs ts (q m) Q) → Takes o n xs ts (λ i. q (left i) i) Q
told_left all = record {
  run = λ ending i rest fits d at.
      let a = (all (left i) fits).run ending i rest (le_refl (left i)) d at in
      record { value = a.value; next = a.next; answers = a.answers; ready = a.ready; within = a.within; good = a.good };
}

-- a place takes nothing: where a token at least is read it is that of the next one
pub placed : {A : Type 0} {o : Source} {n : ℕ} {xs : List Sym} {ts : List Token} {q : Place → Reader A} {Q : A → List Token → Type 0} → has_token xs ≡ true →
    ((p : Place) → Stands o ts p → Takes o n xs ts (q p) Q) → Takes o n xs ts (place >>= q) Q
unfolding next_place next_token
placed {o = o} {xs = xs} {ts = ts} filled all = record {
  run = λ ending i rest fits d at.
      let there : ts ≡ first_token ts ∷ drop 1 ts = subst (λ (l : List Token). l ≡ first_token l ∷ drop 1 l) at (token_left_for xs rest d.reads filled) in
      let is_place : next_place i ≡ place_at o.file o.text (first_token ts).start = λ j. place_at (d.file_is j) (d.text_is j) (first_token (at j)).start in
      let a = (all (next_place i) (record { there = there; is_place = is_place })).run ending i rest fits d at in
      record { value = a.value; next = a.next; answers = a.answers; ready = a.ready; within = a.within; good = a.good };
}

-- a token is passed over, and taken for its bytes
pub skipped : {o : Source} {n k : ℕ} {ts : List Token} → Takes o n (Word k ∷ []) ts skip (λ _ us. Along o ts [] us)
unfolding left past_token
skipped {o = o} {ts = ts} = record {
  run = λ ending i rest fits d at.
      let t = token_read d.reads in
      record {
        value = tt;
        next = past_token i;
        answers = refl;
        ready = record { reads = t.after; text_is = d.text_is; file_is = d.file_is };
        within = le_refl (left i);
        good = subst (λ (l : List Token). Along o l [] (drop 1 i.tokens)) at (past_first t.there);
      };
}

pub spelled : {o : Source} {n k : ℕ} {ts : List Token} → Takes o n (Word k ∷ []) ts spelling (λ _ us. Along o ts [] us)
unfolding left past_token
spelled {o = o} {ts = ts} = record {
  run = λ ending i rest fits d at.
      let t = token_read d.reads in
      record {
        value = next_spelling i;
        next = past_token i;
        answers = refl;
        ready = record { reads = t.after; text_is = d.text_is; file_is = d.file_is };
        within = le_refl (left i);
        good = subst (λ (l : List Token). Along o l [] (drop 1 i.tokens)) at (past_first t.there);
      };
}

-- a token, and what comes after it
pub token_first : {A : Type 0} {o : Source} {n k : ℕ} {ys : List Sym} {ts : List Token} {q : Reader A} {R : A → List Token → Type 0} →
    ((us : List Token) → Along o ts [] us → Takes o n ys us q R) → Takes o n (Word k ∷ ys) ts (skip >> q) R
token_first second = followed skipped (λ _ us a. second us a)
