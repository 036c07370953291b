-- What it means that a reader takes what symbols derive, and how readers that do are put together.
use Rattle.std.proofs.Common.{◌≡◌, ℕ, ◌≤◌, List, [], ◌++◌, Some, refl, sym, ap, ◌∙◌, subst, append_assoc, le_trans, le_refl}
use Rattle.vital_ll.specs.declared.grammar.Sym.{Sym}
use Rattle.vital_lex.specs.declared.token_list.Token.{Token}
use Rattle.vital_shapes.specs.Reading.{Input, Reader, onward, ◌>>=◌, ◌>>◌, pure, left}
use Rattle.vital_shapes.proofs.Along.{Source}
use Rattle.vital_shapes.proofs.FromTheLeft.{Reads}

-- an input of the file from which the symbols lead to the other one
pub record Ready (o : Source) (ending : Input) (symbols : List Sym) (i : Input) : Type 0 where
  pub reads : Reads ending symbols i.tokens i.steps
  pub text_is : i.text ≡ o.text
  pub file_is : i.file ≡ o.file

-- the answer of a reader, of which Q holds with the tokens that are left, and after which the rest is read
pub record Answer {A : Type 0} (o : Source) (ending : Input) (rest : List Sym) (i : Input) (p : Reader A) (Q : A → List Token → Type 0) : Type 0 where
  pub value : A
  pub next : Input
  pub answers : p i ≡ Some (value, next)
  pub ready : Ready o ending rest next
  pub within : left next ≤ left i
  pub good : Q value next.tokens

-- From these tokens on, where no more than n steps are left, the reader takes just what the symbols derive, and Q holds of what it
-- answers and the tokens that are left.
pub record Takes {A : Type 0} (o : Source) (n : ℕ) (symbols : List Sym) (ts : List Token) (p : Reader A) (Q : A → List Token → Type 0) : Type 0 where
  pub run : (ending i : Input) (rest : List Sym) → left i ≤ n → Ready o ending (symbols ++ rest) i → i.tokens ≡ ts → Answer o ending rest i p Q

ready_for : {o : Source} {ending i : Input} {xs ys : List Sym} → xs ≡ ys → Ready o ending xs i → Ready o ending ys i
ready_for {o} {ending} {i} e d = subst (λ (l : List Sym). Ready o ending l i) e d

-- with fewer steps
pub fewer : {A : Type 0} {o : Source} {n m : ℕ} {xs : List Sym} {ts : List Token} {p : Reader A} {Q : A → List Token → Type 0} →
    m ≤ n → Takes o n xs ts p Q → Takes o m xs ts p Q
fewer few takes = record { run = λ ending i rest fits d at. takes.run ending i rest (le_trans fits few) d at }

-- nothing is taken
pub gives : {A : Type 0} {o : Source} {n : ℕ} {ts : List Token} {Q : A → List Token → Type 0} (a : A) → Q a ts → Takes o n [] ts (pure a) Q
gives {ts = ts} {Q = Q} a good = record {
  run = λ ending i rest fits d at.
      record { value = a; next = i; answers = refl; ready = d; within = le_refl (left i); good = subst (λ (l : List Token). Q a l) (sym at) good };
}

-- one after the other
pub followed : {A B : Type 0} {o : Source} {n : ℕ} {xs ys : List Sym} {ts : List Token} {p : Reader A} {q : A → Reader B}
    {Q : A → List Token → Type 0} {R : B → List Token → Type 0} →
    Takes o n xs ts p Q → ((a : A) (us : List Token) → Q a us → Takes o n ys us (q a) R) → Takes o n (xs ++ ys) ts (p >>= q) R
followed {xs = xs} {ys = ys} {p = p} {q = q} first second = record {
  run = λ ending i rest fits d at.
      let a = first.run ending i (ys ++ rest) fits (ready_for (append_assoc xs ys rest) d) at in
      let b = (second a.value a.next.tokens a.good).run ending a.next rest (le_trans a.within fits) a.ready refl in
      record { value = b.value; next = b.next; answers = ◌∙◌ {c = Some (b.value, b.next)} (ap (λ r. onward r q) a.answers) b.answers; ready = b.ready; within = le_trans b.within a.within; good = b.good };
}

-- the same where what the first one gives is not asked for
pub passed : {A B : Type 0} {o : Source} {n : ℕ} {xs ys : List Sym} {ts : List Token} {p : Reader A} {q : Reader B}
    {Q : A → List Token → Type 0} {R : B → List Token → Type 0} →
    Takes o n xs ts p Q → ((a : A) (us : List Token) → Q a us → Takes o n ys us q R) → Takes o n (xs ++ ys) ts (p >> q) R
passed first second = followed first second

-- with another claim
pub claiming : {A : Type 0} {o : Source} {n : ℕ} {xs : List Sym} {ts : List Token} {p : Reader A} {Q R : A → List Token → Type 0} →
    Takes o n xs ts p Q → ((a : A) (us : List Token) → Q a us → R a us) → Takes o n xs ts p R
claiming takes from = record {
  run = λ ending i rest fits d at.
      let a = takes.run ending i rest fits d at in
      record { value = a.value; next = a.next; answers = a.answers; ready = a.ready; within = a.within; good = from a.value a.next.tokens a.good };
}
