-- Readers of concurrent statements give instances whose labels stand along the tokens.
use Rattle.std.proofs.Common.{◌≡◌, ℕ, zero, suc, ◌==◌, if◌then◌else◌, List, [], ◌∷◌, ◌++◌, Option, Some, None, refl, sym, subst}
use Rattle.std.specs.List.{cons_option, filter_map}
use Rattle.std.proofs.lemmas.List.Elements.{filter_map-append}
use Rattle.vital_base.specs.declared.place.Place.{Place}
use Rattle.vital_grammar.specs.RuleNumbers as s
use Rattle.vital_vhdl_lexemes.specs.declared.kinds.Kind.TheVariants as kind
use Rattle.vital_lex.specs.declared.token_list.Token.{Token}
use Rattle.vital_nodes.specs.Nodes as nodes
use Rattle.vital_nodes.specs.Places.{place_of}
use Rattle.vital_nodes.specs.declared.identifier.Identifier.{Identifier}
use Rattle.vital_nodes.specs.declared.expr.Reference.{Reference, roll-Reference}
use Rattle.vital_nodes.specs.declared.stmt.Block.{roll-Block}
use Rattle.vital_nodes.specs.declared.stmt.Conc.{Conc}
use Rattle.vital_nodes.specs.declared.stmt.Conc.TheOpen.{Conc-F}
use Rattle.vital_nodes.specs.declared.stmt.Conc.TheVariants as c
use Rattle.vital_nodes.specs.declared.stmt.Conc.TheViews.{out-Conc, out-roll-Conc, roll-Conc}
use Rattle.vital_nodes.specs.Layers.{ConcLayer}
use Rattle.vital_shapes.specs.Reading.{Reader, ◌>>=◌, ◌>>◌, pure, skip, place, many}
use Rattle.vital_shapes.specs.Shapes.{entity_statements}
use Rattle.vital_shapes.specs.Statements.{signal_assignment, process, after_target, unlabelled, instance, block, labelled, after_identifier, conc, concs_within, concs}
use Rattle.vital_shapes.proofs.Along.{Source, Along, led, passing, Whole}
use Rattle.vital_shapes.proofs.Concurrent.{map_items_take, process_takes}
use Rattle.vital_shapes.proofs.Declarations.{declarations_take}
use Rattle.vital_shapes.proofs.Identifiers.{written_takes, closing_takes}
use Rattle.vital_shapes.proofs.Lists.{lists_down, single}
use Rattle.vital_shapes.proofs.Outermost.{name_takes, suffix_list_takes}
use Rattle.vital_shapes.proofs.Rules as rules
use Rattle.vital_shapes.proofs.Statements.{signal_assignment_takes}
use Rattle.vital_shapes.proofs.Steps.{◌&◌, choose, step_before, none_left, told_left, placed, token_first}
use Rattle.vital_shapes.proofs.Takes.{Takes, followed, passed, gives, claiming}
use Rattle.vital_as_read.proofs.Each.{Each, each_ended, each_joined, each_led, each_passed, ends, none_each}
use Rattle.vital_as_read.proofs.Identifiers.{IsFirst, identifier_is, one_each, stands_first}
use denote.Hole.Carrier.{roll}

abbrev pub label_in : ConcLayer → Option Identifier
label_in (Conc-F.Process _ _ _) = None
label_in (Conc-F.ComponentInstance _ i) = Some i.label
label_in (Conc-F.Instance _ i) = Some i.label
label_in (Conc-F.Block _ _ _) = None
label_in (Conc-F.Call _ _) = None
label_in (Conc-F.SignalAssignment _ _) = None

abbrev pub label_of : Conc → Option Identifier
label_of c = label_in (out-Conc c)

-- the labels of the instances among statements
abbrev pub labels : List Conc → List Identifier
labels found = filter_map label_of found

abbrev pub LabelsAlong : Source → List Token → List Conc → List Token → Type 0
LabelsAlong o ts found us = Each o (λ (x : Identifier). x) ts (labels found) us

labels_joined : {o : Source} (ts us ws : List Token) (xs ys : List Conc) → LabelsAlong o ts xs us → LabelsAlong o us ys ws → LabelsAlong o ts (xs ++ ys) ws
labels_joined {o} ts us ws xs ys a b = subst (λ (l : List Identifier). Each o (λ x. x) ts l ws) (sym (filter_map-append label_of xs ys)) (each_joined a b)

made : {o : Source} {ts us : List Token} (l : ConcLayer) → Each o (λ (x : Identifier). x) ts (cons_option (label_in l) []) us → LabelsAlong o ts (roll-Conc l ∷ []) us
made {o} {ts} {us} l a = subst (λ (m : ConcLayer). Each o (λ x. x) ts (cons_option (label_in m) []) us) (sym (out-roll-Conc l)) a

-- ---- an instance

instance_labelled : {o : Source} {n : ℕ} {ts : List Token} (label : Identifier) →
    Takes o n (s.name ∷ s.maps ∷ s.word kind.Semicolon ∷ []) ts (instance label) (λ x us. (x.label ≡ label) × Along o ts [] us)
unfolding instance
instance_labelled label = followed name_takes (λ called us w. step_before 37 rules.maps_is (followed (map_items_take 38 rules.generic_map_is) (λ generics ws a.
    followed (map_items_take 39 rules.port_map_is) (λ ports vs b. token_first (λ xs f.
    gives (record { label = label; unit = called; generics = generics; ports = ports }) (refl, led (passing w.inside) (led (passing a) (led (passing b) f))))))))

same_label : {o : Source} {ts us : List Token} (x y : Identifier) → x ≡ y → Each o (λ (z : Identifier). z) ts (y ∷ []) us → Each o (λ (z : Identifier). z) ts (x ∷ []) us
same_label {o} {ts} {us} x y same a = subst (λ (z : Identifier). Each o (λ (v : Identifier). v) ts (z ∷ []) us) (sym same) a

-- ---- other statements

after_target_along : {o : Source} {n : ℕ} {ts us : List Token} (p : Place) (target : Reference) → Whole o ts (nodes.Name target) us →
    Takes o n (s.conc_end ∷ []) us (after_target p target) (λ x ws. LabelsAlong o ts (x ∷ []) ws)
unfolding after_target roll-Conc roll
after_target_along p target w = choose 34
    (λ form. if form == 0 then (skip >> pure (c.Call p target)) else (signal_assignment target >>= λ x. pure (c.SignalAssignment p x)))
    rules.conc_end_is
    (token_first (λ us a. gives (c.Call p target) (made (Conc-F.Call p target) (none_each (led (passing w.inside) a))))
    & followed (signal_assignment_takes target w) (λ x us a. gives (c.SignalAssignment p x) (made (Conc-F.SignalAssignment p x) (none_each (passing a))))
    & tt)

unlabelled_along : {o : Source} {n : ℕ} {ts us : List Token} (p : Place) (first : Identifier) → IsFirst o ts first us →
    Takes o n (s.suffixes ∷ s.conc_end ∷ []) us (unlabelled p first) (λ x ws. LabelsAlong o ts (x ∷ []) ws)
unfolding unlabelled nodes.parts_of place_of
unlabelled_along p first x = followed suffix_list_takes (λ found us a.
    after_target_along p (roll-Reference (record { identifier = first; suffixes = found })) (record { stands = stands_first x; inside = led (each_passed (one_each x)) a }))

-- ---- statements

module _ (o : Source) (n : ℕ) (inner : Reader (List Conc)) (inner_along : (ts : List Token) → Takes o n (s.concs ∷ []) ts inner (LabelsAlong o ts)) where
  block_passes : {ts : List Token} →
      Takes o n (s.word kind.Block ∷ s.optional_is ∷ s.decls ∷ s.word kind.Begin ∷ s.concs ∷ s.word kind.End ∷ s.word kind.Block ∷ s.optional_id ∷ s.word kind.Semicolon ∷ []) ts (block inner)
      (λ _ us. Along o ts [] us)
  unfolding block
  block_passes = token_first (λ qs a. passed (written_takes 30 rules.optional_is_is) (λ _ bs b. followed declarations_take (λ declared ds f. token_first (λ fs g.
      followed (inner_along fs) (λ found gs h. token_first (λ hs k. token_first (λ ks l. passed closing_takes (λ _ ls m. token_first (λ ms q.
      gives (roll-Block (record { declarations = declared; statements = found }))
      (led a (led b (led (passing f) (led g (led (each_passed h) (led k (led l (led m q)))))))))))))))))

  labelled_along : {ts us : List Token} (p : Place) (label : Identifier) → Each o (λ (x : Identifier). x) ts (label ∷ []) us →
      Takes o n (s.labelled ∷ []) us (labelled inner p label) (λ x ws. LabelsAlong o ts (x ∷ []) ws)
  unfolding labelled roll-Conc roll
  labelled_along p label x = choose 36
      (λ form. if form == 0 then (process >>= λ x. pure (c.Process p (Some label) x)) else (if form == 1 then (skip >> (instance label >>= λ x. pure (c.ComponentInstance p x)))
      else (if form == 2 then (instance label >>= λ x. pure (c.Instance p x)) else (block inner >>= λ x. pure (c.Block p label x)))))
      rules.labelled_is
      (followed process_takes (λ y us a. gives (c.Process p (Some label) y) (made (Conc-F.Process p (Some label) y) (none_each (led (each_passed x) (passing a)))))
      & token_first (λ us a. followed (instance_labelled label) (λ y ws b. gives (c.ComponentInstance p y)
      (made (Conc-F.ComponentInstance p y) (same_label y.label label b.0 (each_ended x (led a b.1))))))
      & followed (instance_labelled label) (λ y us a. gives (c.Instance p y) (made (Conc-F.Instance p y) (same_label y.label label a.0 (each_ended x a.1))))
      & followed block_passes (λ y us a. gives (c.Block p label y) (made (Conc-F.Block p label y) (none_each (led (each_passed x) a))))
      & tt)

  after_identifier_along : {ts : List Token} (p : Place) → Takes o n (s.id ∷ s.conc_rest ∷ []) ts (after_identifier inner p) (λ x us. LabelsAlong o ts (x ∷ []) us)
  unfolding after_identifier
  after_identifier_along p = followed identifier_is (λ first us x. choose 33
      (λ next. if next == 0 then (skip >> labelled inner p first) else unlabelled p first)
      rules.conc_rest_is
      (token_first (λ ws a. labelled_along p first (each_ended (one_each x) a))
      & unlabelled_along p first x
      & tt))

  conc_along : {ts : List Token} → Takes o n (s.conc ∷ []) ts (conc inner) (λ x us. LabelsAlong o ts (x ∷ []) us)
  unfolding conc roll-Conc roll
  conc_along = choose 32
      (λ form. place >>= λ p. if form == 0 then (process >>= λ x. pure (c.Process p None x)) else after_identifier inner p)
      rules.conc_is
      (placed refl (λ p stands. followed process_takes (λ x us a. gives (c.Process p None x) (made (Conc-F.Process p None x) (none_each (passing a)))))
      & placed refl (λ p stands. after_identifier_along p)
      & tt)

  concs_down : {ts : List Token} → Takes o (suc n) (s.concs ∷ []) ts (many (λ _. conc inner)) (LabelsAlong o ts)
  concs_down = lists_down 31 _ _ (LabelsAlong o) labels_joined ends rules.concs_is (single (λ ts. conc_along) & tt)

concs_within_along : (o : Source) (n : ℕ) (ts : List Token) → Takes o n (s.concs ∷ []) ts (concs_within n) (LabelsAlong o ts)
unfolding concs_within
concs_within_along o zero ts = none_left
concs_within_along o (suc n) ts = concs_down o n (concs_within n) (concs_within_along o n)

pub labels_along : {o : Source} {n : ℕ} {ts : List Token} → Takes o n (s.concs ∷ []) ts concs (LabelsAlong o ts)
labels_along {o} {n} {ts} = told_left (λ m few. concs_within_along o m ts)

pub entity_labels_along : {o : Source} {n : ℕ} {ts : List Token} → Takes o n (s.entity_statements ∷ []) ts entity_statements (LabelsAlong o ts)
unfolding entity_statements
entity_labels_along = choose 5 (λ c. if c == 0 then pure [] else (skip >> concs)) rules.entity_statements_is
    (gives [] ends
    & token_first (λ us a. claiming labels_along (λ found ws b. each_led a b))
    & tt)
