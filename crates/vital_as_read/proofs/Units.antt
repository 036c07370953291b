-- Readers of units give entities and architectures whose declarations stand along the tokens; and so the reader of a file.
use Rattle.std.proofs.Common.{◌≡◌, ℕ, List, [], ◌∷◌, ◌++◌, length, slice_get, Some, All, refl, ap, subst, le_refl, append-nil}
use Rattle.std.specs.Option.{option_map}
use Rattle.std.proofs.lemmas.List.Elements.{All-append, All-cons, All-nil}
use Rattle.vital_grammar.specs.Grammar.{grammar}
use Rattle.vital_grammar.specs.RuleNumbers as s
use Rattle.vital_ll.specs.Sentence.{IsTreeOf}
use Rattle.vital_ll.specs.declared.derivation.Step.{Step}
use Rattle.vital_ll.specs.declared.grammar.Sym.TheVariants.{Token as Word, Rule}
use Rattle.vital_vhdl_lexemes.specs.declared.kinds.Kind.TheVariants as kind
use Rattle.vital_lex.specs.declared.token_list.Token.{Token}
use Rattle.vital_names.specs.Declarations.{identifier_of}
use Rattle.vital_nodes.specs.declared.unit.Arch.{Arch}
use Rattle.vital_nodes.specs.declared.unit.Entity.{Entity}
use Rattle.vital_nodes.specs.declared.unit.Unit.{Unit as Unit'}
use Rattle.vital_nodes.specs.declared.unit.Unit.TheVariants as u
use Rattle.vital_shapes.specs.Reading.{kinds_of}
use Rattle.vital_shapes.specs.Shapes.{ending, entity, arch, pack, config, library_clause, use_clause, unit, file_part, file_units, shape}
use Rattle.vital_shapes.proofs.Along.{Source, Along, stay, led, passing}
use Rattle.vital_shapes.proofs.Declarations.{declarations_take}
use Rattle.vital_shapes.proofs.Deriving.{taken}
use Rattle.vital_shapes.proofs.Identifiers.{written_takes, closing_takes, identifiers_take, only_passed}
use Rattle.vital_shapes.proofs.Lists.{lists, several}
use Rattle.vital_shapes.proofs.Outermost.{names_take}
use Rattle.vital_shapes.proofs.Rules as rules
use Rattle.vital_shapes.proofs.Steps.{◌&◌, step, placed, skipped, token_first}
use Rattle.vital_shapes.proofs.Takes.{Takes, followed, passed, gives, claiming}
use Rattle.vital_shapes.proofs.Units.{entity_statements_take}
use Rattle.vital_nodes.proofs.Values.{WalkLaw}
use Rattle.vital_as_read.specs.AsRead.{AreTogether}
use Rattle.vital_as_read.proofs.Concurrent.{ProcessAlong, concs_along, processes_led}
use Rattle.vital_as_read.proofs.Declarations.{DeclarationsAlong, InterfacesAlong, declarations_along, interfaces_along}
use Rattle.vital_as_read.proofs.Each.{Each, each_led, each_passed}
use Rattle.vital_as_read.proofs.Identifiers.{identifier_is, one_each}
use Rattle.vital_as_read.proofs.Processes.{declared_within, processes_in}

-- an entity whose generics and then ports are declared along the tokens
pub record EntityAlong (o : Source) (ts : List Token) (e : Entity) : Type 0 where
  pub middle : List Token
  pub rest : List Token
  pub generics : InterfacesAlong o ts e.generics middle
  pub ports : InterfacesAlong o middle e.ports rest

-- an architecture whose declarations are declared along the tokens, and what its blocks and processes declare behind that
pub record ArchAlong (o : Source) (ts : List Token) (a : Arch) : Type 0 where
  pub rest : List Token
  pub declarations : DeclarationsAlong o ts a.declarations rest
  pub behind : List Token
  pub declared : Each o identifier_of rest (declared_within a.statements) behind
  pub processes : All (ProcessAlong o rest) (processes_in a.statements)

abbrev pub UnitAlong : Source → List Token → Unit' → Type 0
UnitAlong o ts (u.Entity e) = EntityAlong o ts e
UnitAlong o ts (u.Arch a) = ArchAlong o ts a
UnitAlong o ts (u.Pack p) = AreTogether p.declarations
UnitAlong o ts (u.Config c) = Unit {0}

unit_led : {o : Source} {ts us : List Token} (x : Unit') → Along o ts [] us → UnitAlong o us x → UnitAlong o ts x
unit_led (u.Entity e) a x =
    record { middle = x.middle; rest = x.rest; generics = record { each = each_led a x.generics.each; together = x.generics.together }; ports = x.ports }
unit_led (u.Arch b) a x = record {
  rest = x.rest;
  declarations = record { each = each_led a x.declarations.each; together = x.declarations.together };
  behind = x.behind;
  declared = x.declared;
  processes = x.processes;
}
unit_led (u.Pack p) a x = x
unit_led (u.Config c) a x = tt

-- units of which each is such a one
record UnitsAlong (o : Source) (ts : List Token) (found : List Unit') (us : List Token) : Type 0 where
  passed : Along o ts [] us
  units : All (UnitAlong o ts) found

units_joined : {o : Source} (ts us ws : List Token) (xs ys : List Unit') → UnitsAlong o ts xs us → UnitsAlong o us ys ws → UnitsAlong o ts (xs ++ ys) ws
units_joined {o} ts us ws xs ys a b =
    record { passed = led a.passed b.passed; units = All-append (UnitAlong o ts) xs ys a.units (λ k x inside. unit_led _ a.passed (b.units k x inside)) }

no_unit : {o : Source} {ts us : List Token} → Along o ts [] us → UnitsAlong o ts [] us
no_unit a = record { passed = a; units = All-nil _ }

one_unit : {o : Source} {ts us : List Token} (x : Unit') → UnitAlong o ts x → Along o ts [] us → UnitsAlong o ts (x ∷ []) us
one_unit {o} {ts} x read a = record { passed = a; units = All-cons (UnitAlong o ts) x [] read (All-nil _) }

-- ---- readers of units

ending_passes : {o : Source} {n k : ℕ} {ts : List Token} (r : ℕ) → slice_get grammar r ≡ Some ([] ∷ (Word k ∷ []) ∷ []) →
    Takes o n (s.word kind.End ∷ Rule r ∷ s.optional_id ∷ s.word kind.Semicolon ∷ []) ts ending (λ _ us. Along o ts [] us)
unfolding ending
ending_passes r known = token_first (λ us a. passed (written_takes r known) (λ _ ws b. passed closing_takes (λ _ vs c. claiming skipped (λ _ xs f. led a (led b (led c f))))))

entity_along : {o : Source} {n : ℕ} {ts : List Token} → Takes o n (s.entity ∷ []) ts entity (λ x us. UnitsAlong o ts (x ∷ []) us)
unfolding entity
entity_along = step 4 rules.entity_is (placed refl (λ p stands. token_first (λ qs a. followed identifier_is (λ id bs b. token_first (λ cs c.
    followed (interfaces_along 7 rules.generics_is) (λ generics ds f. followed (interfaces_along 8 rules.ports_is) (λ ports fs g.
    followed declarations_take (λ declared gs h. followed entity_statements_take (λ found hs k. passed (ending_passes 6 rules.entity_word_is) (λ _ ks l.
    let e : Entity = record { place = p; identifier = id; generics = generics; ports = ports; declarations = declared; statements = found } in
    let before = led a (led (each_passed (one_each b)) c) in
    gives (u.Entity e) (one_unit (u.Entity e)
    (record { middle = ds; rest = fs; generics = record { each = each_led before f.each; together = f.together }; ports = g })
    (led before (led (each_passed f.each) (led (each_passed g.each) (led (passing h) (led (passing k) l))))))))))))))))

arch_along : WalkLaw → {o : Source} {n : ℕ} {ts : List Token} → Takes o n (s.arch ∷ []) ts arch (λ x us. UnitsAlong o ts (x ∷ []) us)
unfolding arch
arch_along walked = step 18 rules.arch_is (placed refl (λ p stands. token_first (λ qs a. followed identifier_is (λ id bs b. token_first (λ cs c. followed identifier_is (λ of_what ds f.
    token_first (λ fs g. followed declarations_along (λ declared gs h. token_first (λ hs k. followed (concs_along walked) (λ found ks l. passed (ending_passes 19 rules.arch_word_is) (λ _ ls m.
    let x : Arch = record { place = p; identifier = id; entity = of_what; declarations = declared; statements = found } in
    let before = led a (led (each_passed (one_each b)) (led c (led (each_passed (one_each f)) g))) in
    gives (u.Arch x) (one_unit (u.Arch x)
    (record {
      rest = gs;
      declarations = record { each = each_led before h.each; together = h.together };
      behind = ks;
      declared = each_led k l.declared;
      processes = processes_led (processes_in found) k l.processes;
    })
    (led before (led (each_passed h.each) (led k (led (each_passed l.declared) m))))))))))))))))

pack_along : {o : Source} {n : ℕ} {ts : List Token} → Takes o n (s.pack ∷ []) ts pack (λ x us. UnitsAlong o ts (x ∷ []) us)
unfolding pack
pack_along = step 20 rules.pack_is (placed refl (λ p stands. token_first (λ qs a. followed identifier_is (λ id bs b. token_first (λ cs c. followed declarations_along (λ declared ds f.
    passed (ending_passes 21 rules.pack_word_is) (λ _ fs g.
    let x = u.Pack (record { place = p; identifier = id; declarations = declared }) in
    gives x (one_unit x f.together (led a (led (each_passed (one_each b)) (led c (led (each_passed f.each) g))))))))))))

config_along : {o : Source} {n : ℕ} {ts : List Token} → Takes o n (s.config ∷ []) ts config (λ x us. UnitsAlong o ts (x ∷ []) us)
unfolding config
config_along = step 22 rules.config_is (placed refl (λ p stands. token_first (λ qs a. followed identifier_is (λ id bs b. token_first (λ cs c. followed identifier_is (λ of_what ds f.
    token_first (λ fs g. token_first (λ gs h. followed identifier_is (λ for_what hs k. token_first (λ ks l. token_first (λ ls m. token_first (λ ms q.
    passed (ending_passes 23 rules.config_word_is) (λ _ ns r.
    let x = u.Config (record { place = p; identifier = id; entity = of_what; arch = for_what }) in
    gives x (one_unit x tt (led a (led (each_passed (one_each b)) (led c (led (each_passed (one_each f)) (led g (led h (led (each_passed (one_each k)) (led l (led m (led q r))))))))))))))))))))))))

library_clause_passes : {o : Source} {n : ℕ} {ts : List Token} → Takes o n (s.word kind.Library ∷ s.id ∷ s.more_ids ∷ s.word kind.Semicolon ∷ []) ts library_clause (UnitsAlong o ts)
unfolding library_clause
library_clause_passes = token_first (λ us a. passed identifiers_take (λ _ ws b. token_first (λ vs c. gives [] (no_unit (led a (led (only_passed b) c))))))

use_clause_passes : {o : Source} {n : ℕ} {ts : List Token} → Takes o n (s.word kind.Use ∷ s.name ∷ s.more_names ∷ s.word kind.Semicolon ∷ []) ts use_clause (UnitsAlong o ts)
unfolding use_clause
use_clause_passes = token_first (λ us a. passed names_take (λ _ ws b. token_first (λ vs c. gives [] (no_unit (led a (led (passing b) c))))))

file_units_along : WalkLaw → {o : Source} {n : ℕ} {ts : List Token} → Takes o n (s.file ∷ []) ts file_units (UnitsAlong o ts)
unfolding file_part unit
file_units_along walked {o} = lists 0 _ _ (UnitsAlong o) units_joined (no_unit stay) rules.file_is
    (several (λ ts. library_clause_passes)
    & several (λ ts. use_clause_passes)
    & several (λ ts. followed entity_along (λ x us a. gives (x ∷ []) a))
    & several (λ ts. followed (arch_along walked) (λ x us a. gives (x ∷ []) a))
    & several (λ ts. followed pack_along (λ x us a. gives (x ∷ []) a))
    & several (λ ts. followed config_along (λ x us a. gives (x ∷ []) a))
    & tt)

-- the units of the shape of a derivation
pub units_along : WalkLaw → (file : ℕ) (text : List ℕ) (tokens : List Token) (tree : List Step) (units : List Unit') → IsTreeOf grammar (kinds_of tokens) tree →
    shape file text tokens tree ≡ Some units → All (UnitAlong (record { file = file; text = text }) tokens) units
units_along walked file text tokens tree units d e =
    let o : Source = record { file = file; text = text } in
    let levels = length (tree ++ []) in
    let t = taken levels file text tokens [] tree [] (le_refl levels) (file_units_along walked) d in
    let shaped : shape file text (tokens ++ []) (tree ++ []) ≡ Some t.answer = ap (λ answer. option_map (λ read. read.0) answer) t.answers in
    let there : shape file text tokens tree ≡ Some t.answer =
    subst (λ (steps : List Step). shape file text tokens steps ≡ Some t.answer) (append-nil tree)
    (subst (λ (l : List Token). shape file text l (tree ++ []) ≡ Some t.answer) (append-nil tokens) shaped) in
    let same : t.answer ≡ units = cc (e, there) in
    subst (λ (found : List Unit'). All (UnitAlong o tokens) found) same (subst (λ (l : List Token). All (UnitAlong o l) t.answer) (append-nil tokens) t.good.units)
