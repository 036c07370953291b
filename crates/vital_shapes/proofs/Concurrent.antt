-- Readers of concurrent statements take what their rules derive, and what they give stands along it.
use Rattle.std.proofs.Common.{◌≡◌, ℕ, zero, suc, ◌==◌, if◌then◌else◌, List, [], ◌∷◌, ◌++◌, slice_get, Some, None, refl}
use Rattle.vital_base.specs.declared.place.Place.{Place}
use Rattle.vital_grammar.specs.Grammar.{grammar}
use Rattle.vital_grammar.specs.RuleNumbers as s
use Rattle.vital_ll.specs.declared.grammar.Sym.TheVariants.{Token as Word, Rule}
use Rattle.vital_vhdl_lexemes.specs.declared.kinds.Kind.TheVariants as kind
use Rattle.vital_lex.specs.declared.token_list.Token.{Token}
use Rattle.vital_nodes.specs.Nodes as nodes
use Rattle.vital_nodes.specs.Places.{place_of}
use Rattle.vital_nodes.specs.declared.identifier.Identifier.{Identifier}
use Rattle.vital_nodes.specs.declared.expr.Reference.{Reference, roll-Reference}
use Rattle.vital_nodes.specs.declared.stmt.Block.{Block, roll-Block}
use Rattle.vital_nodes.specs.declared.stmt.Conc.{Conc}
use Rattle.vital_nodes.specs.declared.stmt.Conc.TheOpen.{Conc-F}
use Rattle.vital_nodes.specs.declared.stmt.Conc.TheVariants as c
use Rattle.vital_nodes.specs.declared.stmt.Conc.TheViews.{out-Conc, roll-Conc}
use Rattle.vital_nodes.specs.declared.stmt.Process.{Process}
use Rattle.vital_shapes.specs.Reading.{Reader, ◌>>=◌, ◌>>◌, pure, skip, place, many}
use Rattle.vital_shapes.specs.Expressions.{names, items}
use Rattle.vital_shapes.specs.Statements.{signal_assignment, sensitivity, process, map_items, after_target, unlabelled, instance, block, labelled, after_identifier, conc, concs_within, concs}
use Rattle.vital_shapes.proofs.Along.{Source, Stands, Along, stay, joined, led, ended, Whole, one, before, Each-along, each_joined}
use Rattle.vital_shapes.proofs.Declarations.{declarations_take}
use Rattle.vital_shapes.proofs.Identifiers.{Named, identifier_takes, written_takes, closing_takes}
use Rattle.vital_shapes.proofs.Lists.{lists_down, single}
use Rattle.vital_shapes.proofs.Outermost.{name_takes, names_take, suffix_list_takes, items_take}
use Rattle.vital_shapes.proofs.Rules as rules
use Rattle.vital_shapes.proofs.Statements.{signal_assignment_takes, statements_take}
use Rattle.vital_shapes.proofs.Steps.{◌&◌, choose, step, step_before, none_left, told_left, placed, token_first}
use Rattle.vital_shapes.proofs.Takes.{Takes, followed, passed, gives, claiming}
use Rattle.vital_shapes.proofs.Views.{whole_conc}
use denote.Hole.Carrier.{roll}

pub sensitivity_takes : {o : Source} {n : ℕ} {ts : List Token} → Takes o n (s.sensitivity ∷ []) ts sensitivity (λ found us. Along o ts (nodes.names found) us)
unfolding sensitivity
sensitivity_takes = choose 41 (λ form. if form == 0 then pure [] else (skip >> (names >>= λ found. skip >> pure found))) rules.sensitivity_is
    (gives [] stay
    & token_first (λ us a. followed names_take (λ found ws b. token_first (λ vs f. gives found (led a (ended b f)))))
    & tt)

-- what a process holds
abbrev parts_of_process : Process → List nodes.Node
parts_of_process p = nodes.names p.sensitivity ++ nodes.declarations p.declarations ++ nodes.sequentials p.statements

pub process_takes : {o : Source} {n : ℕ} {ts : List Token} → Takes o n (s.process ∷ []) ts process (λ x us. Along o ts (parts_of_process x) us)
unfolding process
process_takes = step 40 rules.process_is (token_first (λ qs a. followed sensitivity_takes (λ signals bs b. passed (written_takes 30 rules.optional_is_is) (λ _ cs f.
    followed declarations_take (λ declared ds g. token_first (λ fs h. followed statements_take (λ found gs k. token_first (λ hs l. token_first (λ ks m.
    passed closing_takes (λ _ ls q. token_first (λ ms r. gives (record { sensitivity = signals; declarations = declared; statements = found })
    (led a (joined (joined b (led f g)) (led h (ended k (led l (led m (led q r))))))))))))))))))

pub map_items_take : {o : Source} {n k : ℕ} {ts : List Token} (r : ℕ) →
    slice_get grammar r ≡ Some ([] ∷ (Word k ∷ s.word kind.Map ∷ s.word kind.LeftParenthesis ∷ s.items ∷ s.word kind.RightParenthesis ∷ []) ∷ []) →
    Takes o n (Rule r ∷ []) ts map_items (λ found us. Along o ts (nodes.items found) us)
unfolding map_items
map_items_take r known = choose r (λ form. if form == 0 then pure [] else (skip >> (skip >> (skip >> (items >>= λ found. skip >> pure found))))) known
    (gives [] stay
    & token_first (λ us a. token_first (λ ws b. token_first (λ vs f. followed items_take (λ found xs g. token_first (λ ys h. gives found (led a (led b (led f (ended g h)))))))))
    & tt)

after_target_takes : {o : Source} {n : ℕ} {ts us : List Token} (p : Place) (target : Reference) → Stands o ts p → Whole o ts (nodes.Name target) us →
    Takes o n (s.conc_end ∷ []) us (after_target p target) (λ x ws. Whole o ts (nodes.Concurrent x) ws)
unfolding after_target roll-Conc roll out-Conc
after_target_takes p target here w = choose 34
    (λ form. if form == 0 then (skip >> pure (c.Call p target)) else (signal_assignment target >>= λ x. pure (c.SignalAssignment p x)))
    rules.conc_end_is
    (token_first (λ us a. gives (c.Call p target) (whole_conc (Conc-F.Call p target) here (before w a)))
    & followed (signal_assignment_takes target w) (λ x us a. gives (c.SignalAssignment p x) (whole_conc (Conc-F.SignalAssignment p x) here a))
    & tt)

pub unlabelled_takes : {o : Source} {n : ℕ} {ts us : List Token} (p : Place) (first : Identifier) → Stands o ts p → Named o ts first us →
    Takes o n (s.suffixes ∷ s.conc_end ∷ []) us (unlabelled p first) (λ x ws. Whole o ts (nodes.Concurrent x) ws)
unfolding unlabelled nodes.parts_of place_of
unlabelled_takes p first here x = followed suffix_list_takes (λ found us a.
    after_target_takes p (roll-Reference (record { identifier = first; suffixes = found })) here (record { stands = x.stands; inside = led x.inside a }))

pub instance_takes : {o : Source} {n : ℕ} {ts : List Token} (label : Identifier) →
    Takes o n (s.name ∷ s.maps ∷ s.word kind.Semicolon ∷ []) ts (instance label) (λ x us. Along o ts (nodes.parts_of_instance x) us)
unfolding instance
instance_takes label = followed name_takes (λ called us w. step_before 37 rules.maps_is (followed (map_items_take 38 rules.generic_map_is) (λ generics ws a.
    followed (map_items_take 39 rules.port_map_is) (λ ports vs b. token_first (λ xs f.
    gives (record { label = label; unit = called; generics = generics; ports = ports }) (before w (joined a (ended b f))))))))

-- what a block holds
abbrev parts_of_block : Block → List nodes.Node
parts_of_block b = nodes.declarations b.declarations ++ nodes.concurrents b.statements

module _ (o : Source) (n : ℕ) (inner : Reader (List Conc)) (inner_takes : (ts : List Token) → Takes o n (s.concs ∷ []) ts inner (λ found us. Along o ts (nodes.concurrents found) us)) where
  block_takes : {ts : List Token} →
      Takes o n (s.word kind.Block ∷ s.optional_is ∷ s.decls ∷ s.word kind.Begin ∷ s.concs ∷ s.word kind.End ∷ s.word kind.Block ∷ s.optional_id ∷ s.word kind.Semicolon ∷ []) ts (block inner)
      (λ x us. Along o ts (parts_of_block x) us)
  unfolding block
  block_takes = token_first (λ qs a. passed (written_takes 30 rules.optional_is_is) (λ _ bs b. followed declarations_take (λ declared ds f. token_first (λ fs g.
      followed (inner_takes fs) (λ found gs h. token_first (λ hs k. token_first (λ ks l. passed closing_takes (λ _ ls m. token_first (λ ms q.
      gives (roll-Block (record { declarations = declared; statements = found })) (led a (led b (joined f (led g (ended h (led k (led l (led m q)))))))))))))))))

  pub labelled_takes : {ts us : List Token} (p : Place) (label : Identifier) → Stands o ts p → Along o ts [] us →
      Takes o n (s.labelled ∷ []) us (labelled inner p label) (λ x ws. Whole o ts (nodes.Concurrent x) ws)
  unfolding labelled roll-Conc roll out-Conc
  labelled_takes p label here x = choose 36
      (λ form. if form == 0 then (process >>= λ x. pure (c.Process p (Some label) x)) else (if form == 1 then (skip >> (instance label >>= λ x. pure (c.ComponentInstance p x)))
      else (if form == 2 then (instance label >>= λ x. pure (c.Instance p x)) else (block inner >>= λ x. pure (c.Block p label x)))))
      rules.labelled_is
      (followed process_takes (λ y us a. gives (c.Process p (Some label) y) (whole_conc (Conc-F.Process p (Some label) y) here (led x a)))
      & token_first (λ us a. followed (instance_takes label) (λ y ws b. gives (c.ComponentInstance p y) (whole_conc (Conc-F.ComponentInstance p y) here (led x (led a b)))))
      & followed (instance_takes label) (λ y us a. gives (c.Instance p y) (whole_conc (Conc-F.Instance p y) here (led x a)))
      & followed block_takes (λ y us a. gives (c.Block p label y) (whole_conc (Conc-F.Block p label y) here (led x a)))
      & tt)

  pub after_identifier_takes : {ts : List Token} (p : Place) → Stands o ts p → Takes o n (s.id ∷ s.conc_rest ∷ []) ts (after_identifier inner p) (λ x us. Whole o ts (nodes.Concurrent x) us)
  unfolding after_identifier
  after_identifier_takes p here = followed identifier_takes (λ first us x. choose 33
      (λ next. if next == 0 then (skip >> labelled inner p first) else unlabelled p first)
      rules.conc_rest_is
      (token_first (λ ws a. labelled_takes p first here (led x.inside a))
      & unlabelled_takes p first here x
      & tt))

  pub conc_takes : {ts : List Token} → Takes o n (s.conc ∷ []) ts (conc inner) (λ x us. Whole o ts (nodes.Concurrent x) us)
  unfolding conc roll-Conc roll out-Conc
  conc_takes = choose 32
      (λ form. place >>= λ p. if form == 0 then (process >>= λ x. pure (c.Process p None x)) else after_identifier inner p)
      rules.conc_is
      (placed refl (λ p here. followed process_takes (λ x us a. gives (c.Process p None x) (whole_conc (Conc-F.Process p None x) here a)))
      & placed refl (λ p here. after_identifier_takes p here)
      & tt)

  concs_down : {ts : List Token} → Takes o (suc n) (s.concs ∷ []) ts (many (λ _. conc inner)) (λ found us. Along o ts (nodes.concurrents found) us)
  concs_down = lists_down 31 _ _ (Each-along o (λ x. nodes.Concurrent x)) (each_joined (λ x. nodes.Concurrent x)) stay rules.concs_is
      (single (λ ts. claiming conc_takes (λ x us w. one w)) & tt)

pub concs_within_take : (o : Source) (n : ℕ) (ts : List Token) → Takes o n (s.concs ∷ []) ts (concs_within n) (λ found us. Along o ts (nodes.concurrents found) us)
unfolding concs_within
concs_within_take o zero ts = none_left
concs_within_take o (suc n) ts = concs_down o n (concs_within n) (concs_within_take o n)

pub concs_take : {o : Source} {n : ℕ} {ts : List Token} → Takes o n (s.concs ∷ []) ts concs (λ found us. Along o ts (nodes.concurrents found) us)
concs_take {o} {n} {ts} = told_left (λ m few. concs_within_take o m ts)
