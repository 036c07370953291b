-- Readers of units take what their rules derive, and what they give stands along it; and so the reader of a file.
use Rattle.std.proofs.Common.{◌≡◌, ℕ, ◌==◌, if◌then◌else◌, List, [], ◌∷◌, slice_get, Some, refl}
use Rattle.vital_grammar.specs.Grammar.{grammar}
use Rattle.vital_grammar.specs.RuleNumbers as s
use Rattle.vital_ll.specs.declared.grammar.Sym.TheVariants.{Token as Word, Rule}
use Rattle.vital_vhdl_lexemes.specs.declared.kinds.Kind.TheVariants as kind
use Rattle.vital_lex.specs.declared.token_list.Token.{Token}
use Rattle.vital_nodes.specs.Nodes as nodes
use Rattle.vital_nodes.specs.declared.unit.Unit.TheVariants as u
use Rattle.vital_shapes.specs.Reading.{◌>>◌, pure, skip}
use Rattle.vital_shapes.specs.Statements.{concs}
use Rattle.vital_shapes.specs.Shapes.{entity_statements, ending, entity, arch, pack, config, library_clause, use_clause, unit, file_part, file_units}
use Rattle.vital_shapes.proofs.Along.{Source, Along, stay, joined, led, ended, passing}
use Rattle.vital_shapes.proofs.Concurrent.{concs_take}
use Rattle.vital_shapes.proofs.Declarations.{interfaces_take, declarations_take}
use Rattle.vital_shapes.proofs.Identifiers.{identifier_takes, identifiers_take, only_passed, written_takes, closing_takes}
use Rattle.vital_shapes.proofs.Lists.{lists, several}
use Rattle.vital_shapes.proofs.Outermost.{names_take}
use Rattle.vital_shapes.proofs.Rules as rules
use Rattle.vital_shapes.proofs.Steps.{◌&◌, choose, step, placed, skipped, token_first}
use Rattle.vital_shapes.proofs.UnitsAlong.{head_ends, next_identifier, UnitAlong, UnitsAlong, no_unit, units_joined, one_unit}
use Rattle.vital_shapes.proofs.Takes.{Takes, followed, passed, gives, claiming}

pub entity_statements_take : {o : Source} {n : ℕ} {ts : List Token} → Takes o n (s.entity_statements ∷ []) ts entity_statements (λ found us. Along o ts (nodes.concurrents found) us)
unfolding entity_statements
entity_statements_take = choose 5 (λ c. if c == 0 then pure [] else (skip >> concs)) rules.entity_statements_is
    (gives [] stay
    & token_first (λ us a. claiming concs_take (λ found ws b. led a b))
    & tt)

ending_takes : {o : Source} {n k : ℕ} {ts : List Token} (r : ℕ) → slice_get grammar r ≡ Some ([] ∷ (Word k ∷ []) ∷ []) →
    Takes o n (s.word kind.End ∷ Rule r ∷ s.optional_id ∷ s.word kind.Semicolon ∷ []) ts ending (λ _ us. Along o ts [] us)
unfolding ending
ending_takes r known = token_first (λ us a. passed (written_takes r known) (λ _ ws b. passed closing_takes (λ _ vs c. claiming skipped (λ _ xs f. led a (led b (led c f))))))

pub entity_takes : {o : Source} {n : ℕ} {ts : List Token} → Takes o n (s.entity ∷ []) ts entity (UnitAlong o ts)
unfolding entity nodes.parts_of_unit
entity_takes = step 4 rules.entity_is (placed refl (λ p here. token_first (λ qs a. followed identifier_takes (λ id bs b. token_first (λ cs c.
    followed (interfaces_take 7 rules.generics_is) (λ generics ds f. followed (interfaces_take 8 rules.ports_is) (λ ports fs g.
    followed declarations_take (λ declared gs h. followed entity_statements_take (λ found hs k. passed (ending_takes 6 rules.entity_word_is) (λ _ ks l.
    gives (u.Entity (record { place = p; identifier = id; generics = generics; ports = ports; declarations = declared; statements = found }))
    (record { stands = here; behind = bs; head = next_identifier a b.stands (head_ends b.inside); inside = led c (joined (joined (joined f g) h) (ended k l)) })))))))))))

pub arch_takes : {o : Source} {n : ℕ} {ts : List Token} → Takes o n (s.arch ∷ []) ts arch (UnitAlong o ts)
unfolding arch nodes.parts_of_unit
arch_takes = step 18 rules.arch_is (placed refl (λ p here. token_first (λ qs a. followed identifier_takes (λ id bs b. token_first (λ cs c. followed identifier_takes (λ of_what ds f.
    token_first (λ fs g. followed declarations_take (λ declared gs h. token_first (λ hs k. followed concs_take (λ found ks l. passed (ending_takes 19 rules.arch_word_is) (λ _ ls m.
    gives (u.Arch (record { place = p; identifier = id; entity = of_what; declarations = declared; statements = found }))
    (record { stands = here; behind = ds; head = next_identifier a b.stands (next_identifier (led b.inside c) f.stands (head_ends f.inside)); inside = led g (joined h (led k (ended l m))) }))))))))))))

pub pack_takes : {o : Source} {n : ℕ} {ts : List Token} → Takes o n (s.pack ∷ []) ts pack (UnitAlong o ts)
unfolding pack nodes.parts_of_unit
pack_takes = step 20 rules.pack_is (placed refl (λ p here. token_first (λ qs a. followed identifier_takes (λ id bs b. token_first (λ cs c. followed declarations_take (λ declared ds f.
    passed (ending_takes 21 rules.pack_word_is) (λ _ fs g.
    gives (u.Pack (record { place = p; identifier = id; declarations = declared }))
    (record { stands = here; behind = bs; head = next_identifier a b.stands (head_ends b.inside); inside = led c (ended f g) }))))))))

pub config_takes : {o : Source} {n : ℕ} {ts : List Token} → Takes o n (s.config ∷ []) ts config (UnitAlong o ts)
unfolding config nodes.parts_of_unit
config_takes = step 22 rules.config_is (placed refl (λ p here. token_first (λ qs a. followed identifier_takes (λ id bs b. token_first (λ cs c. followed identifier_takes (λ of_what ds f.
    token_first (λ fs g. token_first (λ gs h. followed identifier_takes (λ for_what hs k. token_first (λ ks l. token_first (λ ls m. token_first (λ ms q.
    passed (ending_takes 23 rules.config_word_is) (λ _ ns r.
    gives (u.Config (record { place = p; identifier = id; entity = of_what; arch = for_what }))
    (record {
      stands = here;
      behind = hs;
      head = next_identifier a b.stands (next_identifier (led b.inside c) f.stands (next_identifier (led f.inside (led g h)) k.stands (head_ends k.inside)));
      inside = led l (led m (led q r));
    }))))))))))))))

library_clause_takes : {o : Source} {n : ℕ} {ts : List Token} → Takes o n (s.word kind.Library ∷ s.id ∷ s.more_ids ∷ s.word kind.Semicolon ∷ []) ts library_clause
    (UnitsAlong o ts)
unfolding library_clause
library_clause_takes = token_first (λ us a. passed identifiers_take (λ _ ws b. token_first (λ vs c. gives [] (no_unit (led a (led (only_passed b) c))))))

use_clause_takes : {o : Source} {n : ℕ} {ts : List Token} → Takes o n (s.word kind.Use ∷ s.name ∷ s.more_names ∷ s.word kind.Semicolon ∷ []) ts use_clause
    (UnitsAlong o ts)
unfolding use_clause
use_clause_takes = token_first (λ us a. passed names_take (λ _ ws b. token_first (λ vs c. gives [] (no_unit (led a (led (passing b) c))))))

pub file_units_take : {o : Source} {n : ℕ} {ts : List Token} → Takes o n (s.file ∷ []) ts file_units (UnitsAlong o ts)
unfolding file_part unit
file_units_take {o} = lists 0 _ _ (UnitsAlong o) units_joined (no_unit stay) rules.file_is
    (several (λ ts. library_clause_takes)
    & several (λ ts. use_clause_takes)
    & several (λ ts. followed entity_takes (λ x us a. gives (x ∷ []) (one_unit a)))
    & several (λ ts. followed arch_takes (λ x us a. gives (x ∷ []) (one_unit a)))
    & several (λ ts. followed pack_takes (λ x us a. gives (x ∷ []) (one_unit a)))
    & several (λ ts. followed config_takes (λ x us a. gives (x ∷ []) (one_unit a)))
    & tt)
