-- Reading a list turn by turn, as a loop does that counts the turns up.
use Rattle.std.proofs.Common.{◌≡◌, ◌≢◌, ℕ, suc, ◌+◌, ◌-◌, ◌<◌, ◌≤◌, eqb, cond, List, [], ◌++◌, Option, Some, None, Result, Err, refl, ap, sym, subst, ◌∙◌, arith}
use Rattle.std.proofs.lemmas.Bool.{ne_eqb}
use Rattle.vital_shapes.specs.Reading.{Input, Reader, ◌>>=◌, onward, pure, choice, lists_from}
use Rattle.vital_vhdl.specs.Reads.{Reads, adding}
use Rattle.vital_vhdl.specs.declared.shape_error.ShapeError.{ShapeError}
use Rattle.vital_vhdl.specs.declared.shape_error.ShapeError.TheVariants.{NoMemory, NoIdentifier}

-- what the turns from number `at` on give, of n turns in all
pub record IsRead {A : Type 0} (item : ℕ → Reader (List A)) (n at : ℕ) (found : List A) (i : Input) (read : Option (List A × Input)) : Type 0 where
  pub read_is : read ≡ lists_from item (n - at) found i

-- what one of them gives, after a step that chose alternative c, where m more may follow
abbrev turn_of : {A : Type 0} → (ℕ → Reader (List A)) → ℕ → List A → ℕ → Reader (List A)
turn_of {A} item m found c = cond {A = Reader (List A)} (eqb c 0) (pure found) (item c >>= λ xs. lists_from item m (found ++ xs))

one_turn : {A : Type 0} (item : ℕ → Reader (List A)) (n at : ℕ) (found : List A) (i j : Input) (c : ℕ) → at < n → choice i ≡ Some (c, j)
    → lists_from item (n - at) found i ≡ turn_of item (n - (at + 1)) found c j
unfolding lists_from
one_turn item n at found i j c below chose =
    let turn : n - at ≡ suc (n - (at + 1)) = omega arith in
    ap (λ (m : ℕ). lists_from item m found i) turn ∙ ap (λ (p : Option (ℕ × Input)). onward p (turn_of item (n - (at + 1)) found)) chose

-- a turn that ends the list
pub ends : {A : Type 0} {item : ℕ → Reader (List A)} {n at : ℕ} {found : List A} {i j : Input} {c : ℕ} {read : Option (List A × Input)} → IsRead item n at found i read
    → at < n → choice i ≡ Some (c, j) → c ≡ 0 → read ≡ Some (found, j)
ends {item = item} {n = n} {at = at} {found = found} {i = i} {j = j} {c = c} so_far below chose none =
    let last : turn_of item (n - (at + 1)) found c j ≡ Some (found, j) = rw none refl in
    so_far.read_is ∙ one_turn item n at found i j c below chose ∙ last

-- a turn that goes on
goes_on : {A : Type 0} {item : ℕ → Reader (List A)} {n at : ℕ} {found : List A} {i j : Input} {c : ℕ} {read : Option (List A × Input)} → IsRead item n at found i read
    → at < n → choice i ≡ Some (c, j) → c ≢ 0 → read ≡ onward (item c j) (λ xs. lists_from item (n - (at + 1)) (found ++ xs))
goes_on {item = item} {n = n} {at = at} {found = found} {i = i} {j = j} {c = c} so_far below chose some =
    let next : turn_of item (n - (at + 1)) found c j ≡ onward (item c j) (λ xs. lists_from item (n - (at + 1)) (found ++ xs)) = rw (ne_eqb c 0 some) refl in
    so_far.read_is ∙ one_turn item n at found i j c below chose ∙ next

-- what is there is one
pub inside : {B : Type 0} {x y : B} → Some x ≡ Some y → x ≡ y
inside e = cc

none_some : {B : Type 0} {y : B} → None ≡ Some y → ⊥
none_some e = cc

onward_added : {A : Type 0} (item : ℕ → Reader (List A)) (m : ℕ) (found new : List A) (k : Input) (r : Option (List A × Input)) → adding found r ≡ Some (new, k)
    → onward r (λ xs. lists_from item m (found ++ xs)) ≡ lists_from item m new k
onward_added {A} item m found new k None e = absurd (none_some {B = List A × Input} e)
onward_added {A} item m found new k (Some (xs, j)) e =
    let read : (found ++ xs, j) ≡ (new, k) = inside {B = List A × Input} e in
    ap (λ (p : List A × Input). lists_from item m p.0 p.1) read

onward_none : {A : Type 0} (item : ℕ → Reader (List A)) (m : ℕ) (found : List A) (r : Option (List A × Input)) → adding found r ≡ None
    → onward r (λ xs. lists_from item m (found ++ xs)) ≡ None
onward_none item m found None e = refl
onward_none {A} item m found (Some (xs, j)) e = absurd (none_some {B = List A × Input} (sym e))

-- a turn that adds to the list
pub adds : {A : Type 0} {item : ℕ → Reader (List A)} {n at : ℕ} {found new : List A} {i j k : Input} {c : ℕ} {read : Option (List A × Input)} → IsRead item n at found i read
    → at < n → choice i ≡ Some (c, j) → c ≢ 0 → adding found (item c j) ≡ Some (new, k) → IsRead item n (at + 1) new k read
adds {item = item} {n = n} {at = at} {found = found} {new = new} {j = j} {k = k} {c = c} so_far below chose some added =
    record { read_is = goes_on so_far below chose some ∙ onward_added item (n - (at + 1)) found new k (item c j) added }

-- a turn that reads nothing
pub fails : {A : Type 0} {item : ℕ → Reader (List A)} {n at : ℕ} {found : List A} {i j : Input} {c : ℕ} {read : Option (List A × Input)} → IsRead item n at found i read
    → at < n → choice i ≡ Some (c, j) → c ≢ 0 → adding found (item c j) ≡ None → read ≡ None
fails {item = item} {n = n} {at = at} {found = found} {j = j} {c = c} so_far below chose some nothing =
    goes_on so_far below chose some ∙ onward_none item (n - (at + 1)) found (item c j) nothing

-- what a turn's answer says, which is an error
pub fails_as : {A : Type 0} {item : ℕ → Reader (List A)} {n at : ℕ} {found : List A} {i j : Input} {c : ℕ} {read : Option (List A × Input)} (e : ShapeError) (k : Input)
    → IsRead item n at found i read → at < n → choice i ≡ Some (c, j) → c ≢ 0 → Reads {A = List A} (adding found (item c j)) (Err e) k → Reads read (Err e) k
fails_as NoMemory k so_far below chose some answered = tt
fails_as NoIdentifier k so_far below chose some answered = fails so_far below chose some answered

-- no turn is left
pub runs_out : {A : Type 0} {item : ℕ → Reader (List A)} {n at : ℕ} {found : List A} {i : Input} {read : Option (List A × Input)} → IsRead item n at found i read
    → n ≤ at → read ≡ Some (found, i)
unfolding lists_from
runs_out {item = item} {n = n} {at = at} {found = found} {i = i} so_far done =
    let turn : n - at ≡ 0 = omega arith in
    let last : lists_from item (n - at) found i ≡ Some (found, i) = rw turn refl in
    so_far.read_is ∙ last

-- one level less
pub deeper : {X : Type 0} (f : ℕ → X) (n : ℕ) → 0 < n → f n ≡ f (suc (n - 1))
deeper f n some = let e : n ≡ suc (n - 1) = omega arith in ap f e

-- what is added to none
pub added_to_none : {A : Type 0} (found : List A) (r : Option (List A × Input)) (xs : List A) (i : Input) → found ≡ [] → adding found r ≡ Some (xs, i) → r ≡ Some (xs, i)
added_to_none found None xs i none added = added
added_to_none {A} found (Some (ys, j)) xs i none added = subst (λ (f : List A). adding f (Some (ys, j)) ≡ Some (xs, i)) none added
