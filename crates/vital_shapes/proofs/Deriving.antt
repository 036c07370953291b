-- What derives is read from the left; so a reader takes all that its symbols derive.
use Rattle.std.proofs.Common.{◌≡◌, ◌≤◌, ℕ, List, [], ◌∷◌, ◌++◌, length, Some, refl, sym, ap, ◌∙◌, subst, append_assoc, le_refl}
use Rattle.vital_grammar.specs.Grammar.{grammar}
use Rattle.vital_ll.specs.Grammar.{Derives, nothing, token, rule}
use Rattle.vital_ll.specs.declared.derivation.Step.{Step}
use Rattle.vital_ll.specs.declared.grammar.Sym.{Sym}
use Rattle.vital_ll.specs.declared.grammar.Sym.TheVariants.{Token as Word}
use Rattle.vital_lex.specs.declared.token_list.Token.{Token}
use Rattle.vital_shapes.specs.Reading.{Input, Reader, left, kinds_of}
use Rattle.vital_shapes.specs.Taking.{TakesAll, TakesWithin}
use Rattle.vital_shapes.proofs.Along.{Source}
use Rattle.vital_shapes.proofs.FromTheLeft.{Reads, over, take, expand}
use Rattle.vital_shapes.proofs.Takes.{Answer, Takes}

-- tokens of two lists of kinds, one after the other
record Split (us vs : List ℕ) (tokens : List Token) : Type 0 where
  front : List Token
  back : List Token
  is_all : tokens ≡ front ++ back
  front_kinds : kinds_of front ≡ us
  back_kinds : kinds_of back ≡ vs

split_at : (us vs : List ℕ) (tokens : List Token) → kinds_of tokens ≡ us ++ vs → Split us vs tokens
split_at [] vs tokens e = record { front = []; back = tokens; is_all = refl; front_kinds = refl; back_kinds = e }
split_at (u ∷ us) vs [] e = absurd (cc)
split_at (u ∷ us) vs (t ∷ tokens) e =
    let s = split_at us vs tokens (let tails : kinds_of tokens ≡ us ++ vs = cc in tails) in
    let same : t.kind ≡ u = cc in
    record {
      front = t ∷ s.front;
      back = s.back;
      is_all = ap (λ (l : List Token). t ∷ l) s.is_all;
      front_kinds = cc (s.front_kinds, same);
      back_kinds = s.back_kinds;
    }

reads_at : {ending : Input} {xs ys : List Sym} {us vs : List Token} {bs cs : List Step} → xs ≡ ys → us ≡ vs → bs ≡ cs → Reads ending xs us bs → Reads ending ys vs cs
reads_at {ending} {xs} {ys} {us} {vs} {bs} {cs} e f g d =
    subst (λ (l : List Step). Reads ending ys vs l) g (subst (λ (l : List Token). Reads ending ys l bs) f (subst (λ (l : List Sym). Reads ending l us bs) e d))

-- what derives is read before what is read
pub reads_derived : {ending : Input} {xs rest : List Sym} {kinds : List ℕ} {steps : List Step} {behind : List Token} {more : List Step} →
    Derives grammar xs kinds steps → (tokens : List Token) → kinds_of tokens ≡ kinds → Reads ending rest behind more →
    Reads ending (xs ++ rest) (tokens ++ behind) (steps ++ more)
reads_derived nothing [] e d = d
reads_derived nothing (t ∷ tokens) e d = absurd (cc)
reads_derived (token {t = k} here) [] e d = absurd (cc)
reads_derived {ending} {rest = rest} {behind = behind} {more = more} (token {t = k} {rest = xs} {tree = tree} here) (t ∷ tokens) e d =
    let same : t.kind ≡ k = cc in
    subst (λ (n : ℕ). Reads ending (Word n ∷ (xs ++ rest)) (t ∷ (tokens ++ behind)) (tree ++ more)) same
    (take (reads_derived here tokens (let tails : kinds_of tokens ≡ _ = cc in tails) d))
reads_derived {ending} {rest = rest} {behind = behind} {more = more} (rule {r = r} {a = a} {chosen = chosen} {rest = xs} {us = us} {vs = vs} {below = below} {after = after} is here later) tokens e d =
    let s = split_at us vs tokens e in
    expand is (reads_at refl (sym (ap (λ (l : List Token). l ++ behind) s.is_all ∙ append_assoc s.front s.back behind)) (sym (append_assoc below after more))
    (reads_derived here s.front s.front_kinds (reads_derived later s.back s.back_kinds d)))

-- where no symbol is left
at_end : {ending : Input} {symbols : List Sym} {tokens : List Token} {steps : List Step} → Reads ending symbols tokens steps → symbols ≡ [] →
    (tokens ≡ ending.tokens) × (steps ≡ ending.steps)
at_end over e = (refl, refl)
at_end (take d) e = absurd (cc)
at_end (expand is d) e = absurd (cc)

-- what a reader answers that takes what its symbols derive: it leaves what stands behind it
pub record Taken {A : Type 0} (reader : Reader A) (i ending : Input) (Q : A → List Token → Type 0) : Type 0 where
  pub answer : A
  pub answers : reader i ≡ Some (answer, ending)
  pub good : Q answer ending.tokens

pub taken : {A : Type 0} {xs : List Sym} {reader : Reader A} (levels file : ℕ) (text : List ℕ) (tokens more_tokens : List Token) (steps more_steps : List Step) {Q : A → List Token → Type 0} →
    length (steps ++ more_steps) ≤ levels → Takes (record { file = file; text = text }) levels xs (tokens ++ more_tokens) reader Q → Derives grammar xs (kinds_of tokens) steps →
    Taken reader (record { steps = steps ++ more_steps; tokens = tokens ++ more_tokens; text = text; file = file }) (record { steps = more_steps; tokens = more_tokens; text = text; file = file }) Q
unfolding left
taken {xs = xs} {reader = reader} levels file text tokens more_tokens steps more_steps {Q = Q} fits takes d =
    let i : Input = record { steps = steps ++ more_steps; tokens = tokens ++ more_tokens; text = text; file = file } in
    let ending : Input = record { steps = more_steps; tokens = more_tokens; text = text; file = file } in
    let o : Source = record { file = file; text = text } in
    let reads : Reads ending (xs ++ []) (tokens ++ more_tokens) (steps ++ more_steps) = reads_derived d tokens refl over in
    let a : Answer o ending [] i reader Q = takes.run ending i [] fits (record { reads = reads; text_is = refl; file_is = refl }) refl in
    let is_end = at_end a.ready.reads refl in
    let same : a.next ≡ ending = λ j. record { steps = is_end.1 j; tokens = is_end.0 j; text = a.ready.text_is j; file = a.ready.file_is j } in
    record { answer = a.value; answers = a.answers ∙ ap (λ (n : Input). Some (a.value, n)) same; good = subst (λ (l : List Token). Q a.value l) is_end.0 a.good }

pub taken_all : {A : Type 0} {xs : List Sym} {reader : Reader A} {Q : Source → List Token → A → List Token → Type 0} →
    ((o : Source) (n : ℕ) (ts : List Token) → Takes o n xs ts reader (Q o ts)) → TakesAll xs reader
taken_all {Q = Q} takes file text tokens more_tokens steps more_steps d =
    let o : Source = record { file = file; text = text } in
    let levels = length (steps ++ more_steps) in
    let t = taken levels file text tokens more_tokens steps more_steps {Q = Q o (tokens ++ more_tokens)} (le_refl levels) (takes o levels (tokens ++ more_tokens)) d in
    (t.answer, t.answers)

pub taken_within : {A : Type 0} {xs : List Sym} {reader : ℕ → Reader A} {Q : Source → List Token → A → List Token → Type 0} →
    ((o : Source) (n : ℕ) (ts : List Token) → Takes o n xs ts (reader n) (Q o ts)) → TakesWithin xs reader
taken_within {Q = Q} takes levels file text tokens more_tokens steps more_steps fits d =
    let o : Source = record { file = file; text = text } in
    let t = taken levels file text tokens more_tokens steps more_steps {Q = Q o (tokens ++ more_tokens)} fits (takes o levels (tokens ++ more_tokens)) d in
    (t.answer, t.answers)
