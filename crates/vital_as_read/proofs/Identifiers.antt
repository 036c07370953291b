-- Readers of identifiers take one token for each.
use Rattle.std.proofs.Common.{◌≡◌, ℕ, List, [], ◌∷◌, map, drop, slice_range, Option, Some, refl, sym, ap, ◌∙◌, subst, subst₂, le_refl}
use Rattle.vital_base.specs.declared.place.Place.{Place}
use Rattle.vital_grammar.specs.RuleNumbers
use Rattle.vital_ll.specs.declared.grammar.Sym.TheVariants.{Token as Word}
use Rattle.vital_vhdl_lexemes.specs.Bytes.{lower_case}
use Rattle.vital_lex.specs.declared.token_list.Token.{Token}
use Rattle.vital_nodes.specs.IdentifierNames.{name_of}
use Rattle.vital_nodes.specs.declared.identifier.Identifier.{Identifier}
use Rattle.vital_shapes.specs.Reading.{◌>>=◌, pure, place, given, left, first_token, next_token, past_token, next_spelling, next_name, name_of_next, identifier, identifiers}
use Rattle.vital_shapes.proofs.Along.{Source, Stands}
use Rattle.vital_shapes.proofs.FromTheLeft.{token_read}
use Rattle.vital_shapes.proofs.Lists.{separated_take}
use Rattle.vital_shapes.proofs.Rules as rules
use Rattle.vital_shapes.proofs.Steps.{◌&◌, choose, placed}
use Rattle.vital_shapes.proofs.Takes.{Takes, followed, gives, claiming}
use Rattle.vital_as_read.proofs.Each.{Each, IsToken, each_joined, each_led, ends, here}

abbrev name_at : List ℕ → Token → Option (List ℕ)
name_at text t = name_of t.kind (slice_range text t.start t.end)

-- the name of the first of the tokens, and those behind it
record Called (o : Source) (ts : List Token) (name : List ℕ) (us : List Token) : Type 0 where
  there : ts ≡ first_token ts ∷ drop 1 ts
  rest : us ≡ drop 1 ts
  is_name : name_at o.text (first_token ts) ≡ Some name

-- a token of a kind that names
called : {o : Source} {n : ℕ} {ts : List Token} (k : ℕ) → ((bytes : List ℕ) → (name : List ℕ) × (name_of k bytes ≡ Some name)) → Takes o n (Word k ∷ []) ts name_of_next (Called o ts)
unfolding left past_token next_name next_token next_spelling
called {o} {ts = ts} k names = record {
  run = λ ending i rest fits d at.
      let t = token_read d.reads in
      let it = names (next_spelling i) in
      let is : name_at i.text (first_token i.tokens) ≡ Some it.0 = ap (λ kind. name_of kind (next_spelling i)) t.kind_is ∙ it.1 in
      record {
        value = it.0;
        next = past_token i;
        answers = ap (λ answer. given answer (past_token i)) is;
        ready = record { reads = t.after; text_is = d.text_is; file_is = d.file_is };
        within = le_refl (left i);
        good = record {
          there = subst (λ (l : List Token). l ≡ first_token l ∷ drop 1 l) at t.there;
          rest = ap (λ (l : List Token). drop 1 l) at;
          is_name = subst₂ (λ (text : List ℕ) (l : List Token). name_at text (first_token l) ≡ Some it.0) d.text_is at is;
        };
      };
}

basic_name : (bytes : List ℕ) → (name : List ℕ) × (name_of 0 bytes ≡ Some name)
unfolding name_of
basic_name bytes = (map lower_case bytes, refl)

extended_name : (bytes : List ℕ) → (name : List ℕ) × (name_of 1 bytes ≡ Some name)
unfolding name_of
extended_name bytes = (bytes, refl)

-- an identifier that the first of the tokens is, and those behind it
pub record IsFirst (o : Source) (ts : List Token) (x : Identifier) (us : List Token) : Type 0 where
  pub there : ts ≡ first_token ts ∷ us
  pub is : IsToken o (first_token ts) x

first_is : {o : Source} {ts us : List Token} (at : Place) (name : List ℕ) → Stands o ts at → Called o ts name us → IsFirst o ts (record { place = at; name = name }) us
first_is {ts = ts} at name stands called =
    record { there = called.there ∙ ap (λ l. first_token ts ∷ l) (sym called.rest); is = record { is_place = stands.is_place; is_name = called.is_name } }

pub one_each : {o : Source} {ts us : List Token} {x : Identifier} → IsFirst o ts x us → Each o (λ y. y) ts (x ∷ []) us
one_each {o} {ts} {us} {x} first = subst (λ (l : List Token). Each o (λ y. y) l (x ∷ []) us) (sym first.there) (here first.is ends)

-- where it stands
pub stands_first : {o : Source} {ts us : List Token} {x : Identifier} → IsFirst o ts x us → Stands o ts x.place
stands_first {ts = ts} first = record { there = first.there ∙ ap (λ l. first_token ts ∷ l) (sym (ap (λ (l : List Token). drop 1 l) first.there)); is_place = first.is.is_place }

pub identifier_is : {o : Source} {n : ℕ} {ts : List Token} → Takes o n (RuleNumbers.id ∷ []) ts identifier (IsFirst o ts)
unfolding identifier
identifier_is = choose 72 (λ c. place >>= λ at. name_of_next >>= λ called. pure (record { place = at; name = called })) rules.id_is
    (placed refl (λ at stands. followed (called 0 basic_name) (λ name us it. gives (record { place = at; name = name }) (first_is at name stands it)))
    & placed refl (λ at stands. followed (called 1 extended_name) (λ name us it. gives (record { place = at; name = name }) (first_is at name stands it)))
    & tt)

pub identifiers_are : {o : Source} {n : ℕ} {ts : List Token} → Takes o n (RuleNumbers.id ∷ RuleNumbers.more_ids ∷ []) ts identifiers (Each o (λ x. x) ts)
unfolding identifiers
identifiers_are {o} = separated_take 1 (Each o (λ x. x)) (λ ts us ws xs ys a b. each_joined a b) (λ us ws vs x a b. each_led a b) rules.more_ids_is
    (λ us. claiming identifier_is (λ x ws a. one_each a))
