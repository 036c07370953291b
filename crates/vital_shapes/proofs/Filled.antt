-- Symbols of which one derives a token at least are read where a token is left.
use Rattle.std.proofs.Common.{◌≡◌, ℕ, zero, suc, ◌==◌, ◌+◌, arith, ◌||◌, ◌&&◌, not, Bool, true, false, List, [], ◌∷◌, ◌++◌, drop, Some, slice_get, refl, subst}
use Rattle.std.proofs.lemmas.Bool.{and_parts, or_right}
use Rattle.vital_grammar.specs.Grammar.{grammar}
use Rattle.vital_grammar.specs.DeclarationRules.{declaration_rules}
use Rattle.vital_grammar.specs.ExpressionRules.{expression_rules}
use Rattle.vital_grammar.specs.StatementRules.{statement_rules}
use Rattle.vital_grammar.specs.UnitRules.{unit_rules}
use Rattle.vital_ll.specs.Grammar.{alternative_of}
use Rattle.vital_ll.specs.declared.derivation.Step.{Step}
use Rattle.vital_ll.specs.declared.grammar.Sym.{Sym}
use Rattle.vital_ll.specs.declared.grammar.Sym.TheVariants.{Token as Word, Rule}
use Rattle.vital_lex.specs.declared.token_list.Token.{Token}
use Rattle.vital_shapes.specs.Reading.{Input, first_token}
use Rattle.vital_shapes.proofs.FromTheLeft.{Reads, over, take, expand}

-- rules that derive a token at least: conc, process, seq, name, item, actual, expr, rel, sum, term, factor, prim and id
abbrev pub is_filled : ℕ → Bool
is_filled r =
    (r == 32) || (r == 40) || (r == 43) || (r == 47) || (r == 53) || (r == 56) || (r == 57) || (r == 63) || (r == 65) || (r == 68) || (r == 70) || (r == 71) || (r == 72)

abbrev pub has_token : List Sym → Bool
has_token [] = false
has_token (Word k ∷ rest) = true
has_token (Rule r ∷ rest) = is_filled r || has_token rest

all_have : List (List Sym) → Bool
all_have [] = true
all_have (xs ∷ alternatives) = has_token xs && all_have alternatives

keeps_from : ℕ → List (List (List Sym)) → Bool
keeps_from r [] = true
keeps_from r (alternatives ∷ rules) = (not (is_filled r) || all_have alternatives) && keeps_from (suc r) rules

grammar_keeps : keeps_from 0 grammar ≡ true
unfolding keeps_from all_have unit_rules declaration_rules statement_rules expression_rules
grammar_keeps = refl

or_not : (x y : Bool) → not x || y ≡ true → x ≡ true → y ≡ true
or_not true y e f = e
or_not false y e f = absurd (cc)

one_has : (alternatives : List (List Sym)) (a : ℕ) {chosen : List Sym} → all_have alternatives ≡ true → slice_get alternatives a ≡ Some chosen → has_token chosen ≡ true
unfolding all_have
one_has [] a have e = absurd (cc)
one_has (xs ∷ alternatives) zero {chosen} have e =
    let same : xs ≡ chosen = cc in
    subst (λ (l : List Sym). has_token l ≡ true) same (and_parts (has_token xs) (all_have alternatives) have).0
one_has (xs ∷ alternatives) (suc a) have e = one_has alternatives a (and_parts (has_token xs) (all_have alternatives) have).1 e

rule_has : (rules : List (List (List Sym))) (start r a k : ℕ) {chosen : List Sym} → keeps_from start rules ≡ true → k ≡ start + r → is_filled k ≡ true →
    alternative_of rules r a ≡ Some chosen → has_token chosen ≡ true
unfolding keeps_from
rule_has [] start r a k keeps at filled e = absurd (cc)
rule_has (alternatives ∷ rules) start zero a k keeps at filled e =
    let p = and_parts (not (is_filled start) || all_have alternatives) (keeps_from (suc start) rules) keeps in
    let same : k ≡ start = omega arith in
    one_has alternatives a (or_not (is_filled start) (all_have alternatives) p.0 (subst (λ (n : ℕ). is_filled n ≡ true) same filled)) e
rule_has (alternatives ∷ rules) start (suc r) a k keeps at filled e =
    let p = and_parts (not (is_filled start) || all_have alternatives) (keeps_from (suc start) rules) keeps in
    rule_has rules (suc start) r a k p.1 (omega arith) filled e

-- ---- lists of symbols

has-front : (xs ys : List Sym) → has_token xs ≡ true → has_token (xs ++ ys) ≡ true
has-front [] ys e = absurd (cc)
has-front (Word k ∷ xs) ys e = refl
has-front (Rule r ∷ xs) ys e = or_onwards (is_filled r) (has_token xs) (has_token (xs ++ ys)) e (λ f. has-front xs ys f)
  where
    or_onwards : (x y z : Bool) → x || y ≡ true → (y ≡ true → z ≡ true) → x || z ≡ true
    or_onwards true y z e f = refl
    or_onwards false y z e f = f e

has-back : (xs ys : List Sym) → has_token ys ≡ true → has_token (xs ++ ys) ≡ true
has-back [] ys e = e
has-back (Word k ∷ xs) ys e = refl
has-back (Rule r ∷ xs) ys e = or_right (is_filled r) (has_token (xs ++ ys)) (has-back xs ys e)

expanded_has : (r a : ℕ) (chosen rest : List Sym) → alternative_of grammar r a ≡ Some chosen → (b : Bool) → is_filled r ≡ b → b || has_token rest ≡ true →
    has_token (chosen ++ rest) ≡ true
expanded_has r a chosen rest is true filled e = has-front chosen rest (rule_has grammar 0 r a r grammar_keeps (omega arith) filled is)
expanded_has r a chosen rest is false filled e = has-back chosen rest e

-- where they are read a token is left
pub token_left : {ending : Input} {symbols : List Sym} {tokens : List Token} {steps : List Step} → Reads ending symbols tokens steps → has_token symbols ≡ true →
    tokens ≡ first_token tokens ∷ drop 1 tokens
token_left over e = absurd (cc)
token_left (take d) e = refl
token_left (expand {r = r} {a = a} {chosen = chosen} {rest = rest} is d) e = token_left d (expanded_has r a chosen rest is (is_filled r) refl e)

pub token_left_for : {ending : Input} (xs rest : List Sym) {tokens : List Token} {steps : List Step} → Reads ending (xs ++ rest) tokens steps → has_token xs ≡ true →
    tokens ≡ first_token tokens ∷ drop 1 tokens
token_left_for xs rest d e = token_left d (has-front xs rest e)
