-- Derivations as they are read, from the left.
use Rattle.std.proofs.Common.{◌≡◌, ℕ, suc, List, [], ◌∷◌, ◌++◌, length, drop, Some, refl, subst}
use Rattle.vital_grammar.specs.Grammar.{grammar}
use Rattle.vital_ll.specs.Grammar.{alternative_of}
use Rattle.vital_ll.specs.declared.derivation.Step.{Step}
use Rattle.vital_ll.specs.declared.grammar.Sym.{Sym}
use Rattle.vital_ll.specs.declared.grammar.Sym.TheVariants.{Token as Word, Rule}
use Rattle.vital_lex.specs.declared.token_list.Token.{Token}
use Rattle.vital_shapes.specs.Reading.{Input, first_alternative, first_token}

-- From these tokens and steps the symbols lead to those where they end: the first one is a token, which is taken, or a rule,
-- which the alternative of the next step replaces.
pub data Reads (ending : Input) : List Sym → List Token → List Step → Type 0 where
  over : Reads ending [] ending.tokens ending.steps
  take : {t : Token} {rest : List Sym} {tokens : List Token} {steps : List Step} →
      Reads ending rest tokens steps → Reads ending (Word t.kind ∷ rest) (t ∷ tokens) steps
  expand : {r a : ℕ} {chosen rest : List Sym} {tokens : List Token} {steps : List Step} →
      alternative_of grammar r a ≡ Some chosen → Reads ending (chosen ++ rest) tokens steps →
      Reads ending (Rule r ∷ rest) tokens (record { rule = r; alternative = a } ∷ steps)

-- what stands behind a rule that is read
pub record RuleRead (ending : Input) (r : ℕ) (rest : List Sym) (tokens : List Token) (steps : List Step) : Type 0 where
  pub chosen : List Sym
  pub is_chosen : alternative_of grammar r (first_alternative steps) ≡ Some chosen
  pub after : Reads ending (chosen ++ rest) tokens (drop 1 steps)
  pub shorter : length steps ≡ suc (length (drop 1 steps))

rule_read_at : {ending : Input} {symbols : List Sym} {tokens : List Token} {steps : List Step} → Reads ending symbols tokens steps →
    (r : ℕ) (rest : List Sym) → symbols ≡ Rule r ∷ rest → RuleRead ending r rest tokens steps
rule_read_at over r rest e = absurd (cc)
rule_read_at (take d) r rest e = absurd (cc)
rule_read_at {ending = ending} (expand {r = s} {a = a} {chosen = chosen} {rest = found} {tokens = tokens} {steps = steps} is d) r rest e =
    let same : s ≡ r = cc in
    let tails : found ≡ rest = cc in
    record {
      chosen = chosen;
      is_chosen = subst (λ (n : ℕ). alternative_of grammar n a ≡ Some chosen) same is;
      after = subst (λ (l : List Sym). Reads ending (chosen ++ l) tokens steps) tails d;
      shorter = refl;
    }

pub rule_read : {ending : Input} {r : ℕ} {rest : List Sym} {tokens : List Token} {steps : List Step} →
    Reads ending (Rule r ∷ rest) tokens steps → RuleRead ending r rest tokens steps
rule_read {r = r} {rest = rest} d = rule_read_at d r rest refl

-- what stands behind a token that is read
pub record TokenRead (ending : Input) (k : ℕ) (rest : List Sym) (tokens : List Token) (steps : List Step) : Type 0 where
  pub kind_is : (first_token tokens).kind ≡ k
  pub after : Reads ending rest (drop 1 tokens) steps
  pub there : tokens ≡ first_token tokens ∷ drop 1 tokens

token_read_at : {ending : Input} {symbols : List Sym} {tokens : List Token} {steps : List Step} → Reads ending symbols tokens steps →
    (k : ℕ) (rest : List Sym) → symbols ≡ Word k ∷ rest → TokenRead ending k rest tokens steps
token_read_at over k rest e = absurd (cc)
token_read_at {ending = ending} (take {t = t} {rest = found} {tokens = tokens} {steps = steps} d) k rest e =
    let same : t.kind ≡ k = cc in
    let tails : found ≡ rest = cc in
    record { kind_is = same; after = subst (λ (l : List Sym). Reads ending l tokens steps) tails d; there = refl }
token_read_at (expand is d) k rest e = absurd (cc)

pub token_read : {ending : Input} {k : ℕ} {rest : List Sym} {tokens : List Token} {steps : List Step} →
    Reads ending (Word k ∷ rest) tokens steps → TokenRead ending k rest tokens steps
token_read {k = k} {rest = rest} d = token_read_at d k rest refl
