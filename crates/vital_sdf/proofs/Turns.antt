-- Reading items in parentheses turn by turn, as a loop does that counts the turns up.
use Rattle.std.proofs.Common.{◌≡◌, ◌≢◌, ℕ, suc, ◌+◌, ◌-◌, ◌<◌, ◌≤◌, eqb, cond, Result, Ok, Err, refl, ap, ◌∙◌, arith}
use Rattle.std.proofs.lemmas.Bool.{ne_eqb}
use Rattle.vital_sdf.specs.Reading.{Input, Reader, Failure, ◌>>=◌, ◌>>◌, onward, pure, skip, next_token, past_token, repeated_from}
use Rattle.vital_sdf.specs.Reads.{Reads}
use Rattle.vital_sdf.specs.declared.read_error.ReadError.{ReadError}
use Rattle.vital_sdf.specs.declared.read_error.ReadError.TheVariants.{Fault, NoMemory}

-- what the turns from number `at` on make, of n turns in all
pub record IsRead {A : Type 0} (item : A → Reader A) (n at : ℕ) (a : A) (i : Input) (read : Result (A × Input) Failure) : Type 0 where
  pub read_is : read ≡ repeated_from item (n - at) a i

-- what is behind an item, where m more turns may follow
abbrev behind : {A : Type 0} → (A → Reader A) → ℕ → A → Reader A
behind item m b = skip >> repeated_from item m b

-- what a turn makes where the next token is of kind k
abbrev turn_of : {A : Type 0} → (A → Reader A) → ℕ → A → ℕ → Reader A
turn_of {A} item m a k = cond {A = Reader A} (eqb k 0) (skip >> (item a >>= behind item m)) (pure a)

one_turn : {A : Type 0} (item : A → Reader A) (n at : ℕ) (a : A) (i : Input) → at < n → repeated_from item (n - at) a i ≡ turn_of item (n - (at + 1)) a (next_token i).kind i
unfolding repeated_from
one_turn item n at a i below =
    let turn : n - at ≡ suc (n - (at + 1)) = omega arith in
    ap (λ (m : ℕ). repeated_from item m a i) turn

abbrev the_ok : {B : Type 0} → B → Result B Failure
the_ok b = Ok b

-- what is there is one
pub inside : {B : Type 0} {x y : B} → the_ok x ≡ the_ok y → x ≡ y
inside e = cc

past : (i j : Input) → skip i ≡ Ok (tt, j) → past_token i ≡ j
past i j skipped = ap (λ (read : Unit {0} × Input). read.1) (inside {B = Unit {0} × Input} skipped)

-- no parenthesis opens
pub ends : {A : Type 0} {item : A → Reader A} {n at : ℕ} {a : A} {i : Input} {read : Result (A × Input) Failure} → IsRead item n at a i read
    → at < n → (next_token i).kind ≢ 0 → read ≡ Ok (a, i)
ends {item = item} {n = n} {at = at} {a = a} {i = i} so_far below other =
    let last : turn_of item (n - (at + 1)) a (next_token i).kind i ≡ Ok (a, i) = rw (ne_eqb (next_token i).kind 0 other) refl in
    so_far.read_is ∙ one_turn item n at a i below ∙ last

-- a turn that goes on
goes_on : {A : Type 0} {item : A → Reader A} {n at : ℕ} {a : A} {i j : Input} {read : Result (A × Input) Failure} → IsRead item n at a i read
    → at < n → (next_token i).kind ≡ 0 → skip i ≡ Ok (tt, j) → read ≡ onward (item a j) (behind item (n - (at + 1)))
goes_on {item = item} {n = n} {at = at} {a = a} {i = i} {j = j} so_far below opens skipped =
    let next : turn_of item (n - (at + 1)) a (next_token i).kind i ≡ onward (item a (past_token i)) (behind item (n - (at + 1))) = rw opens refl in
    so_far.read_is ∙ one_turn item n at a i below ∙ next ∙ ap (λ (k : Input). onward (item a k) (behind item (n - (at + 1)))) (past i j skipped)

-- a turn that makes something
pub makes : {A : Type 0} {item : A → Reader A} {n at : ℕ} {a b : A} {i j k l : Input} {read : Result (A × Input) Failure} → IsRead item n at a i read
    → at < n → (next_token i).kind ≡ 0 → skip i ≡ Ok (tt, j) → item a j ≡ Ok (b, k) → skip k ≡ Ok (tt, l) → IsRead item n (at + 1) b l read
makes {A} {item = item} {n = n} {at = at} {b = b} {k = k} {l = l} so_far below opens skipped made closed = record {
  read_is =
      goes_on so_far below opens skipped
      ∙ ap (λ (read : Result (A × Input) Failure). onward read (behind item (n - (at + 1)))) made
      ∙ ap (λ (m : Input). repeated_from item (n - (at + 1)) b m) (past k l closed);
}

fails : {A : Type 0} {item : A → Reader A} {n at : ℕ} {a : A} {i j : Input} {failure : Failure} {read : Result (A × Input) Failure} → IsRead item n at a i read
    → at < n → (next_token i).kind ≡ 0 → skip i ≡ Ok (tt, j) → item a j ≡ Err failure → read ≡ Err failure
fails {A} {item = item} {n = n} {at = at} so_far below opens skipped failed =
    goes_on so_far below opens skipped ∙ ap (λ (read : Result (A × Input) Failure). onward read (behind item (n - (at + 1)))) failed

-- what a turn's answer says, which is an error
pub fails_as : {A : Type 0} {item : A → Reader A} {n at : ℕ} {a : A} {i j : Input} {read : Result (A × Input) Failure} (e : ReadError) (k : Input)
    → IsRead item n at a i read → at < n → (next_token i).kind ≡ 0 → skip i ≡ Ok (tt, j) → Reads {A = A} (item a j) (Err e) k → Reads {A = A} read (Err e) k
fails_as NoMemory k so_far below opens skipped answered = tt
fails_as (Fault fault p) k so_far below opens skipped answered = fails so_far below opens skipped answered

-- no turn is left
pub runs_out : {A : Type 0} {item : A → Reader A} {n at : ℕ} {a : A} {i : Input} {read : Result (A × Input) Failure} → IsRead item n at a i read
    → n ≤ at → read ≡ Ok (a, i)
unfolding repeated_from
runs_out {item = item} {n = n} {at = at} {a = a} {i = i} so_far done =
    let turn : n - at ≡ 0 = omega arith in
    let last : repeated_from item (n - at) a i ≡ Ok (a, i) = rw turn refl in
    so_far.read_is ∙ last
