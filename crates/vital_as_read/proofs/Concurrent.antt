-- Readers of concurrent statements give processes whose declarations stand along the tokens.
use Rattle.std.proofs.Common.{ℕ, zero, suc, ◌==◌, if◌then◌else◌, List, [], ◌∷◌, ◌++◌, Option, Some, None, All, refl, sym, subst}
use Rattle.std.specs.List.{cons_option, filter_map, flat_map}
use Rattle.std.proofs.lemmas.List.Elements.{All-append, All-cons, All-nil}
use Rattle.vital_base.specs.declared.place.Place.{Place}
use Rattle.vital_grammar.specs.RuleNumbers as s
use Rattle.vital_vhdl_lexemes.specs.declared.kinds.Kind.TheVariants as kind
use Rattle.vital_lex.specs.declared.token_list.Token.{Token}
use Rattle.vital_names.specs.Declarations.{Declared, declared_in, identifier_of}
use Rattle.vital_nodes.specs.Nodes as nodes
use Rattle.vital_nodes.specs.Places.{place_of}
use Rattle.vital_nodes.specs.declared.identifier.Identifier.{Identifier}
use Rattle.vital_nodes.specs.declared.expr.Reference.{Reference, roll-Reference}
use Rattle.vital_nodes.specs.declared.stmt.Block.{Block, roll-Block}
use Rattle.vital_nodes.specs.declared.stmt.Conc.{Conc}
use Rattle.vital_nodes.specs.declared.stmt.Conc.TheOpen.{Conc-F}
use Rattle.vital_nodes.specs.declared.stmt.Conc.TheVariants as c
use Rattle.vital_nodes.specs.declared.stmt.Conc.TheViews.{roll-Conc}
use Rattle.vital_nodes.specs.declared.stmt.Process.{Process}
use Rattle.vital_nodes.specs.Layers.{ConcLayer}
use Rattle.vital_shapes.specs.Reading.{Reader, ◌>>=◌, ◌>>◌, pure, skip, place, many}
use Rattle.vital_shapes.specs.Statements.{signal_assignment, process, after_target, unlabelled, instance, block, labelled, after_identifier, conc, concs_within, concs}
use Rattle.vital_shapes.proofs.Along.{Source, Along, stay, led, passing, Whole}
use Rattle.vital_shapes.proofs.Concurrent.{instance_takes, sensitivity_takes}
use Rattle.vital_shapes.proofs.Identifiers.{written_takes, closing_takes}
use Rattle.vital_shapes.proofs.Lists.{lists_down, single}
use Rattle.vital_shapes.proofs.Outermost.{suffix_list_takes}
use Rattle.vital_shapes.proofs.Rules as rules
use Rattle.vital_shapes.proofs.Statements.{signal_assignment_takes}
use Rattle.vital_shapes.proofs.Steps.{◌&◌, choose, step, none_left, told_left, placed, token_first}
use Rattle.vital_shapes.proofs.Takes.{Takes, followed, passed, gives}
use Rattle.vital_uses.specs.Nodes.{declarations_in}
use Rattle.vital_uses.specs.Statements.{process as process_of, process_in}
use Rattle.vital_nodes.specs.Statements.{in_conc_layer}
use Rattle.vital_nodes.proofs.Values.{WalkLaw}
use Rattle.vital_as_read.specs.AsRead.{AreTogether, declared_by_statement, names_among}
use Rattle.vital_as_read.proofs.Declarations.{declarations_along}
use Rattle.vital_as_read.proofs.Each.{Each, each_ended, each_joined, each_led, each_passed, ends, none_each}
use Rattle.vital_as_read.proofs.Identifiers.{IsFirst, identifier_is, one_each, stands_first}
use Rattle.vital_as_read.proofs.NamesAlong.{names_along}
use Rattle.vital_as_read.proofs.StatementsRead.{statements_take}
use Rattle.vital_as_read.proofs.Strictly.{passing as statements_passed}
use Rattle.vital_as_read.proofs.Processes.{declared_within, declared-append, declared-one, processes_in, processes-append, processes-one}
use denote.Hole.Carrier.{roll}

-- a process of which what it declares is declared along the tokens, and the names in its statements stand along those behind it
pub record ProcessAlong (o : Source) (ts : List Token) (p : Process) : Type 0 where
  pub rest : List Token
  pub each : Each o identifier_of ts (declared_in p.declarations) rest
  pub together : AreTogether p.declarations
  pub behind : List Token
  pub names : Each o (λ x. x) rest (names_among p.statements) behind

process_led : {o : Source} {ts us : List Token} {p : Process} → Along o ts [] us → ProcessAlong o us p → ProcessAlong o ts p
process_led a p = record { rest = p.rest; each = each_led a p.each; together = p.together; behind = p.behind; names = p.names }

pub processes_led : {o : Source} {ts us : List Token} (ps : List Process) → Along o ts [] us → All (ProcessAlong o us) ps → All (ProcessAlong o ts) ps
processes_led ps a all = λ k d inside. process_led a (all k d inside)

-- statements of which each process is such a one, and what they declare is declared along the tokens
pub record StatementsAlong (o : Source) (ts : List Token) (found : List Conc) (us : List Token) : Type 0 where
  pub declared : Each o identifier_of ts (declared_within found) us
  pub processes : All (ProcessAlong o ts) (processes_in found)

statements_joined : {o : Source} (ts us ws : List Token) (xs ys : List Conc) → StatementsAlong o ts xs us → StatementsAlong o us ys ws → StatementsAlong o ts (xs ++ ys) ws
statements_joined {o} ts us ws xs ys a b = record {
  declared = subst (λ (ds : List Declared). Each o identifier_of ts ds ws) (sym (declared-append xs ys)) (each_joined a.declared b.declared);
  processes = subst (λ (ps : List Process). All (ProcessAlong o ts) ps) (sym (processes-append xs ys))
      (All-append (ProcessAlong o ts) (processes_in xs) (processes_in ys) a.processes (processes_led (processes_in ys) (each_passed a.declared) b.processes));
}

-- a block, and what it and the statements in it declare
record BlockAlong (o : Source) (ts : List Token) (b : Block) (us : List Token) : Type 0 where
  declared : Each o identifier_of ts (declared_in b.declarations ++ declared_within b.statements) us
  processes : All (ProcessAlong o ts) (processes_in b.statements)

-- a process that is read, with the tokens behind it
record ProcessRead (o : Source) (ts : List Token) (p : Process) (us : List Token) : Type 0 where
  read : ProcessAlong o ts p
  declared : Each o identifier_of ts (declared_in p.declarations) us

process_along : WalkLaw → {o : Source} {n : ℕ} {ts : List Token} → Takes o n (s.process ∷ []) ts process (ProcessRead o ts)
unfolding process
process_along walked = step 40 rules.process_is (token_first (λ qs a. followed sensitivity_takes (λ signals bs b. passed (written_takes 30 rules.optional_is_is) (λ _ cs f.
    followed declarations_along (λ declared ds g. token_first (λ fs h. followed statements_take (λ found gs k. token_first (λ hs l. token_first (λ ks m.
    passed closing_takes (λ _ ls q. token_first (λ ms r. gives (record { sensitivity = signals; declarations = declared; statements = found })
    (let before = led a (led (passing b) f) in record {
      read = record { rest = ds; each = each_led before g.each; together = g.together; behind = gs; names = each_led h (names_along walked k) };
      declared = each_led before (each_ended g.each (led h (led (statements_passed k) (led l (led m (led q r))))));
    }))))))))))))

module _ (walked : WalkLaw) where
  -- what is made of one layer: a process that is such a one, or none, and those in a block
  made : {o : Source} {ts us : List Token} (l : ConcLayer) → All (ProcessAlong o ts) (cons_option (process_in l) (filter_map process_of (in_conc_layer l))) →
      Each o identifier_of ts (declared_in (declarations_in l) ++ flat_map declared_by_statement (in_conc_layer l)) us → StatementsAlong o ts (roll-Conc l ∷ []) us
  made {o} {ts} {us} l all each = record {
    declared = subst (λ (ds : List Declared). Each o identifier_of ts ds us) (sym (declared-one walked l)) each;
    processes = subst (λ (ps : List Process). All (ProcessAlong o ts) ps) (sym (processes-one walked l)) all;
  }

  one_process : {o : Source} {ts us ws : List Token} (at : Place) (label : Option Identifier) (p : Process) → Along o ts [] us → ProcessRead o us p ws →
      StatementsAlong o ts (roll-Conc (Conc-F.Process at label p) ∷ []) ws
  one_process {o} {ts} at label p a x = made (Conc-F.Process at label p) (All-cons (ProcessAlong o ts) p [] (process_led a x.read) (All-nil _)) (each_led a (each_joined x.declared ends))

  after_target_along : {o : Source} {n : ℕ} {ts us : List Token} (p : Place) (target : Reference) → Whole o ts (nodes.Name target) us →
      Takes o n (s.conc_end ∷ []) us (after_target p target) (λ x ws. StatementsAlong o ts (x ∷ []) ws)
  unfolding after_target roll-Conc roll
  after_target_along p target w = choose 34
      (λ form. if form == 0 then (skip >> pure (c.Call p target)) else (signal_assignment target >>= λ x. pure (c.SignalAssignment p x)))
      rules.conc_end_is
      (token_first (λ us a. gives (c.Call p target) (made (Conc-F.Call p target) (All-nil _) (none_each (led (passing w.inside) a))))
      & followed (signal_assignment_takes target w) (λ x us a. gives (c.SignalAssignment p x) (made (Conc-F.SignalAssignment p x) (All-nil _) (none_each (passing a))))
      & tt)

  unlabelled_along : {o : Source} {n : ℕ} {ts us : List Token} (p : Place) (first : Identifier) → IsFirst o ts first us →
      Takes o n (s.suffixes ∷ s.conc_end ∷ []) us (unlabelled p first) (λ x ws. StatementsAlong o ts (x ∷ []) ws)
  unfolding unlabelled nodes.parts_of place_of
  unlabelled_along p first x = followed suffix_list_takes (λ found us a.
      after_target_along p (roll-Reference (record { identifier = first; suffixes = found })) (record { stands = stands_first x; inside = led (each_passed (one_each x)) a }))

  module _ (o : Source) (n : ℕ) (inner : Reader (List Conc)) (inner_along : (ts : List Token) → Takes o n (s.concs ∷ []) ts inner (StatementsAlong o ts)) where
    block_along : {ts : List Token} →
        Takes o n (s.word kind.Block ∷ s.optional_is ∷ s.decls ∷ s.word kind.Begin ∷ s.concs ∷ s.word kind.End ∷ s.word kind.Block ∷ s.optional_id ∷ s.word kind.Semicolon ∷ []) ts (block inner)
        (BlockAlong o ts)
    unfolding block
    block_along = token_first (λ qs a. passed (written_takes 30 rules.optional_is_is) (λ _ bs b. followed declarations_along (λ declared ds f. token_first (λ fs g.
        followed (inner_along fs) (λ found gs h. token_first (λ hs k. token_first (λ ks l. passed closing_takes (λ _ ls m. token_first (λ ms q.
        gives (roll-Block (record { declarations = declared; statements = found })) (record {
          declared = each_led (led a b) (each_joined f.each (each_led g (each_ended h.declared (led k (led l (led m q))))));
          processes = processes_led (processes_in found) (led a (led b (led (each_passed f.each) g))) h.processes;
        }))))))))))

    labelled_along : {ts us : List Token} (p : Place) (label : Identifier) → Along o ts [] us → Takes o n (s.labelled ∷ []) us (labelled inner p label) (λ x ws. StatementsAlong o ts (x ∷ []) ws)
    unfolding labelled roll-Conc roll
    labelled_along p label x = choose 36
        (λ form. if form == 0 then (process >>= λ x. pure (c.Process p (Some label) x)) else (if form == 1 then (skip >> (instance label >>= λ x. pure (c.ComponentInstance p x)))
        else (if form == 2 then (instance label >>= λ x. pure (c.Instance p x)) else (block inner >>= λ x. pure (c.Block p label x)))))
        rules.labelled_is
        (followed (process_along walked) (λ y us a. gives (c.Process p (Some label) y) (one_process p (Some label) y x a))
        & token_first (λ us a. followed (instance_takes label) (λ y ws b. gives (c.ComponentInstance p y)
        (made (Conc-F.ComponentInstance p y) (All-nil _) (none_each (led x (led a (passing b)))))))
        & followed (instance_takes label) (λ y us a. gives (c.Instance p y) (made (Conc-F.Instance p y) (All-nil _) (none_each (led x (passing a)))))
        & followed block_along (λ y us a. gives (c.Block p label y)
        (made (Conc-F.Block p label y) (processes_led (processes_in y.statements) x a.processes) (each_led x a.declared)))
        & tt)

    after_identifier_along : {ts : List Token} (p : Place) → Takes o n (s.id ∷ s.conc_rest ∷ []) ts (after_identifier inner p) (λ x us. StatementsAlong o ts (x ∷ []) us)
    unfolding after_identifier
    after_identifier_along p = followed identifier_is (λ first us x. choose 33
        (λ next. if next == 0 then (skip >> labelled inner p first) else unlabelled p first)
        rules.conc_rest_is
        (token_first (λ ws a. labelled_along p first (led (each_passed (one_each x)) a))
        & unlabelled_along p first x
        & tt))

    conc_along : {ts : List Token} → Takes o n (s.conc ∷ []) ts (conc inner) (λ x us. StatementsAlong o ts (x ∷ []) us)
    unfolding conc roll-Conc roll
    conc_along = choose 32
        (λ form. place >>= λ p. if form == 0 then (process >>= λ x. pure (c.Process p None x)) else after_identifier inner p)
        rules.conc_is
        (placed refl (λ p stands. followed (process_along walked) (λ x us a. gives (c.Process p None x) (one_process p None x stay a)))
        & placed refl (λ p stands. after_identifier_along p)
        & tt)

    concs_down : {ts : List Token} → Takes o (suc n) (s.concs ∷ []) ts (many (λ _. conc inner)) (StatementsAlong o ts)
    concs_down = lists_down 31 _ _ (StatementsAlong o) statements_joined (record { declared = ends; processes = All-nil _ }) rules.concs_is (single (λ ts. conc_along) & tt)

  concs_within_along : (o : Source) (n : ℕ) (ts : List Token) → Takes o n (s.concs ∷ []) ts (concs_within n) (StatementsAlong o ts)
  unfolding concs_within
  concs_within_along o zero ts = none_left
  concs_within_along o (suc n) ts = concs_down o n (concs_within n) (concs_within_along o n)

  pub concs_along : {o : Source} {n : ℕ} {ts : List Token} → Takes o n (s.concs ∷ []) ts concs (StatementsAlong o ts)
  concs_along {o} {n} {ts} = told_left (λ m few. concs_within_along o m ts)
