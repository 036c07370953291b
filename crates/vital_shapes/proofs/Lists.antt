-- Readers of lists take what a rule of lists derives, whose first alternative is empty, and each other one ends in the rule.
use Rattle.std.proofs.Common.{◌≡◌, ℕ, zero, suc, ◌==◌, Bool, false, if◌then◌else◌, List, [], ◌∷◌, ◌++◌, ◌≤◌, Some, slice_get, refl, sym, subst, subst₂, le_refl, append-nil, arith}
use Rattle.vital_grammar.specs.Grammar.{grammar}
use Rattle.vital_ll.specs.declared.grammar.Sym.{Sym}
use Rattle.vital_ll.specs.declared.grammar.Sym.TheVariants.{Token as Word, Rule}
use Rattle.vital_lex.specs.declared.token_list.Token.{Token}
use Rattle.vital_shapes.specs.Reading.{Reader, ◌>>=◌, pure, lists_from, more_lists, after, more, separated}
use Rattle.vital_shapes.proofs.Along.{Source, Along}
use Rattle.vital_shapes.proofs.Takes.{Takes, fewer, followed, gives, claiming}
use Rattle.vital_shapes.proofs.Steps.{◌&◌, Each, each_of, choose_down, none_left, told_left, token_first}

-- what is claimed of a list that is read from some tokens up to others, and of two lists, one after the other
abbrev pub Claim : Type 0 → Type 1
Claim A = List Token → List A → List Token → Type 0

abbrev pub Joins : {A : Type 0} → Claim A → Type 0
Joins {A} C = (ts us ws : List Token) (xs ys : List A) → C ts xs us → C us ys ws → C ts (xs ++ ys) ws

-- what a turn takes is what the alternative has in front of the rule
pub record Turn {A : Type 0} (o : Source) (n r : ℕ) (chosen : List Sym) (p : Reader (List A)) (C : Claim A) : Type 0 where
  pub front : List Sym
  pub takes : (ts : List Token) → Takes o n front ts p (C ts)
  pub is_front : chosen ≡ front ++ (Rule r ∷ [])

suc_is_not_zero : (c : ℕ) → (suc c == 0) ≡ false
suc_is_not_zero c = grind arith

turns_take : {A : Type 0} (o : Source) (n r : ℕ) (item : ℕ → Reader (List A)) (alternatives : List (List Sym)) (C : Claim A) → Joins C →
    slice_get grammar r ≡ Some ([] ∷ alternatives) → Each (λ c chosen. Turn o n r chosen (item (suc c)) C) alternatives →
    (start : List Token) (turns m : ℕ) (found : List A) (ts : List Token) → m ≤ turns → m ≤ suc n → C start found ts →
    Takes o m (Rule r ∷ []) ts (lists_from item turns found) (C start)
unfolding lists_from
turns_take o n r item alternatives C joins known all start turns zero found ts short few so_far = none_left
turns_take o n r item alternatives C joins known all start zero (suc m) found ts short few so_far = absurd (omega arith)
turns_take {A} o n r item alternatives C joins known all start (suc turns) (suc m) found ts short few so_far =
    choose_down r (λ c. if c == 0 then pure found else (item c >>= λ xs. lists_from item turns (found ++ xs))) known (
      gives found so_far,
      each_of
          (λ c chosen. Turn o n r chosen (item (suc c)) C)
          (λ c chosen. Takes o m chosen ts (if suc c == 0 then pure found else (item (suc c) >>= λ xs. lists_from item turns (found ++ xs))) (C start))
          alternatives
          (λ c chosen turn. subst₂ (λ (b : Bool) (l : List Sym). Takes o m l ts (if b then pure found else (item (suc c) >>= λ xs. lists_from item turns (found ++ xs))) (C start))
          (sym (suc_is_not_zero c)) (sym turn.is_front)
          (followed (fewer (omega arith) (turn.takes ts))
          (λ xs us good. turns_take o n r item alternatives C joins known all start turns m (found ++ xs) us (omega arith) (omega arith) (joins start ts us found xs so_far good))))
          all,
    )

-- where the lists of each alternative but the first are taken, all are; of the steps that may be left one is taken
pub lists_down : {A : Type 0} {o : Source} {n : ℕ} (r : ℕ) (item : ℕ → Reader (List A)) (found : List A) (C : Claim A) {start ts : List Token} {alternatives : List (List Sym)} →
    Joins C → C start found ts → slice_get grammar r ≡ Some ([] ∷ alternatives) → Each (λ c chosen. Turn o n r chosen (item (suc c)) C) alternatives →
    Takes o (suc n) (Rule r ∷ []) ts (more_lists item found) (C start)
lists_down {o = o} {n = n} r item found C {start = start} {ts = ts} {alternatives = alternatives} joins so_far known all =
    told_left (λ m few. turns_take o n r item alternatives C joins known all start m m found ts (le_refl m) few so_far)

pub lists : {A : Type 0} {o : Source} {n : ℕ} (r : ℕ) (item : ℕ → Reader (List A)) (found : List A) (C : Claim A) {start ts : List Token} {alternatives : List (List Sym)} →
    Joins C → C start found ts → slice_get grammar r ≡ Some ([] ∷ alternatives) → Each (λ c chosen. Turn o n r chosen (item (suc c)) C) alternatives →
    Takes o n (Rule r ∷ []) ts (more_lists item found) (C start)
lists {n = n} r item found C joins so_far known all = fewer (omega arith) (lists_down r item found C joins so_far known all)

-- a turn that gives several, and one that gives one
pub several : {A : Type 0} {o : Source} {n r : ℕ} {xs : List Sym} {p : Reader (List A)} {C : Claim A} →
    ((ts : List Token) → Takes o n xs ts p (C ts)) → Turn o n r (xs ++ (Rule r ∷ [])) p C
several {xs = xs} takes = record { front = xs; takes = takes; is_front = refl }

pub single : {A : Type 0} {o : Source} {n r : ℕ} {xs : List Sym} {p : Reader A} {C : Claim A} →
    ((ts : List Token) → Takes o n xs ts p (λ x us. C ts (x ∷ []) us)) → Turn o n r (xs ++ (Rule r ∷ [])) (p >>= λ x. pure (x ∷ [])) C
single {o = o} {n = n} {xs = xs} {p = p} {C = C} takes = record {
  front = xs;
  takes = λ ts. subst (λ (l : List Sym). Takes o n l ts (p >>= λ x. pure (x ∷ [])) (C ts)) (append-nil xs) (followed {ys = []} (takes ts) (λ x us good. gives (x ∷ []) good));
  is_front = refl;
}

-- one and more, each after a token
pub separated_take : {A : Type 0} {o : Source} {n k : ℕ} {s : Sym} {ts : List Token} (r : ℕ) {item : Reader A} (C : Claim A) → Joins C →
    ((us ws vs : List Token) (x : A) → Along o us [] ws → C ws (x ∷ []) vs → C us (x ∷ []) vs) →
    slice_get grammar r ≡ Some ([] ∷ (Word k ∷ s ∷ Rule r ∷ []) ∷ []) →
    ((us : List Token) → Takes o n (s ∷ []) us item (λ x ws. C us (x ∷ []) ws)) → Takes o n (s ∷ Rule r ∷ []) ts (separated item) (C ts)
separated_take {ts = ts} r C joins led known takes = followed (takes ts) (λ x us good. lists r _ _ C joins good known
    (single (λ bs. token_first (λ cs a. claiming (takes cs) (λ y ws b. led bs cs ws y a b))) & tt))

-- more, each after a token, behind any that were found
pub more_take : {A : Type 0} {o : Source} {n k : ℕ} {s : Sym} {ts : List Token} (r : ℕ) {item : Reader A} {Q : List Token → A → List Token → Type 0} (found : List A) →
    slice_get grammar r ≡ Some ([] ∷ (Word k ∷ s ∷ Rule r ∷ []) ∷ []) →
    ((us : List Token) → Takes o n (s ∷ []) us item (Q us)) → Takes o n (Rule r ∷ []) ts (more (λ _. after item) found) (λ _ _. Unit {0})
more_take {A} {ts = ts} r found known takes =
    let Any : Claim A = λ _ _ _. Unit {0} in
    lists r _ found Any {start = ts} (λ _ _ _ _ _ _ _. tt) tt known (single (λ bs. token_first (λ cs a. claiming (takes cs) (λ _ _ _. tt))) & tt)
