-- Readers of identifiers and of options without a value.
use Rattle.std.proofs.Common.{◌≡◌, ℕ, ◌==◌, false, true, if◌then◌else◌, List, [], ◌∷◌, ◌++◌, map, drop, Some, slice_get, refl, ap, ◌∙◌, subst, le_refl}
use Rattle.vital_grammar.specs.Grammar.{grammar}
use Rattle.vital_grammar.specs.RuleNumbers
use Rattle.vital_ll.specs.declared.grammar.Sym.TheVariants.{Token as Word, Rule}
use Rattle.vital_vhdl_lexemes.specs.Bytes.{lower_case}
use Rattle.vital_lex.specs.declared.token_list.Token.{Token}
use Rattle.vital_nodes.specs.IdentifierNames.{name_of}
use Rattle.vital_nodes.specs.declared.identifier.Identifier.{Identifier}
use Rattle.vital_shapes.specs.Reading.{◌>>=◌, ◌>>◌, pure, choice, skip, place, given, left, next_token, past_token, next_spelling, next_name, name_of_next, identifier, identifiers, is_written, closing}
use Rattle.vital_shapes.proofs.Along.{Source, Stands, Along, stay, led, past_first}
use Rattle.vital_shapes.proofs.FromTheLeft.{token_read}
use Rattle.vital_shapes.proofs.Lists.{separated_take}
use Rattle.vital_shapes.proofs.Rules as rules
use Rattle.vital_shapes.proofs.Steps.{◌&◌, choose, placed, skipped, token_first}
use Rattle.vital_shapes.proofs.Takes.{Takes, followed, gives, claiming}

-- a token of a kind that names
named : {o : Source} {n : ℕ} {ts : List Token} (k : ℕ) → ((bytes : List ℕ) → (name : List ℕ) × (name_of k bytes ≡ Some name)) →
    Takes o n (Word k ∷ []) ts name_of_next (λ _ us. Along o ts [] us)
unfolding left past_token next_name next_token
named {o} {ts = ts} k names = record {
  run = λ ending i rest fits d at.
      let t = token_read d.reads in
      let it = names (next_spelling i) in
      record {
        value = it.0;
        next = past_token i;
        answers = ap (λ answer. given answer (past_token i)) (ap (λ kind. name_of kind (next_spelling i)) t.kind_is ∙ it.1);
        ready = record { reads = t.after; text_is = d.text_is; file_is = d.file_is };
        within = le_refl (left i);
        good = subst (λ (l : List Token). Along o l [] (drop 1 i.tokens)) at (past_first t.there);
      };
}

basic_name : (bytes : List ℕ) → (name : List ℕ) × (name_of 0 bytes ≡ Some name)
unfolding name_of
basic_name bytes = (map lower_case bytes, refl)

extended_name : (bytes : List ℕ) → (name : List ℕ) × (name_of 1 bytes ≡ Some name)
unfolding name_of
extended_name bytes = (bytes, refl)

-- an identifier that stands at the first of the tokens
pub record Named (o : Source) (ts : List Token) (x : Identifier) (us : List Token) : Type 0 where
  pub stands : Stands o ts x.place
  pub inside : Along o ts [] us

pub identifier_takes : {o : Source} {n : ℕ} {ts : List Token} → Takes o n (RuleNumbers.id ∷ []) ts identifier (Named o ts)
unfolding identifier
identifier_takes = choose 72 (λ c. place >>= λ at. name_of_next >>= λ called. pure (record { place = at; name = called })) rules.id_is
    (placed refl (λ at here. followed (named 0 basic_name) (λ called us a. gives (record { place = at; name = called }) (record { stands = here; inside = a })))
    & placed refl (λ at here. followed (named 1 extended_name) (λ called us a. gives (record { place = at; name = called }) (record { stands = here; inside = a })))
    & tt)

-- identifiers that stand along the tokens
pub data Identifiers (o : Source) : List Token → List Identifier → List Token → Type 0 where
  none : {ts us : List Token} → Along o ts [] us → Identifiers o ts [] us
  next : {ts us ws : List Token} {x : Identifier} {xs : List Identifier} →
      Along o ts [] us → Stands o us x.place → Identifiers o us xs ws → Identifiers o ts (x ∷ xs) ws

pub identifiers_led : {o : Source} {ts us ws : List Token} {xs : List Identifier} → Along o ts [] us → Identifiers o us xs ws → Identifiers o ts xs ws
identifiers_led a (none b) = none (led a b)
identifiers_led a (next b here r) = next (led a b) here r

identifiers_joined : {o : Source} (ts us ws : List Token) (xs ys : List Identifier) → Identifiers o ts xs us → Identifiers o us ys ws → Identifiers o ts (xs ++ ys) ws
identifiers_joined ts us ws xs ys a b = joins a b
  where
    joins : {o : Source} {ts us ws : List Token} {xs ys : List Identifier} → Identifiers o ts xs us → Identifiers o us ys ws → Identifiers o ts (xs ++ ys) ws
    joins (none a) b = identifiers_led a b
    joins (next a here r) b = next a here (joins r b)

one_identifier : {o : Source} {ts us : List Token} {x : Identifier} → Named o ts x us → Identifiers o ts (x ∷ []) us
one_identifier x = next stay x.stands (none x.inside)

pub identifiers_take : {o : Source} {n : ℕ} {ts : List Token} → Takes o n (RuleNumbers.id ∷ RuleNumbers.more_ids ∷ []) ts identifiers (Identifiers o ts)
unfolding identifiers
identifiers_take {o} = separated_take 1 (Identifiers o) identifiers_joined (λ us ws vs x a b. identifiers_led a b) rules.more_ids_is
    (λ us. claiming identifier_takes (λ x ws a. one_identifier a))

-- without the identifiers
pub only_passed : {o : Source} {ts us : List Token} {xs : List Identifier} → Identifiers o ts xs us → Along o ts [] us
only_passed (none a) = a
only_passed (next a here r) = led a (only_passed r)

-- [ word ]
pub written_takes : {o : Source} {n k : ℕ} {ts : List Token} (r : ℕ) → slice_get grammar r ≡ Some ([] ∷ (Word k ∷ []) ∷ []) →
    Takes o n (Rule r ∷ []) ts is_written (λ _ us. Along o ts [] us)
unfolding is_written
written_takes r known = choose r (λ c. if c == 0 then pure false else (skip >> pure true)) known (gives false stay & token_first (λ us a. gives true a) & tt)

-- [ id ]
pub closing_takes : {o : Source} {n : ℕ} {ts : List Token} → Takes o n (RuleNumbers.optional_id ∷ []) ts closing (λ _ us. Along o ts [] us)
unfolding closing
closing_takes = choose 3 (λ c. if c == 0 then pure tt else (choice >> skip)) rules.optional_id_is
    (gives tt stay
    & choose 72 (λ c. skip) rules.id_is (skipped & skipped & tt)
    & tt)
