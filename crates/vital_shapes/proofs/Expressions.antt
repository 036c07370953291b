-- Readers of names, expressions and items take what their rules derive, and what they give stands along it.
use Rattle.std.proofs.Common.{◌≡◌, ℕ, suc, ◌==◌, nat_lt, Bool, true, false, if◌then◌else◌, List, [], ◌∷◌, slice_get, slice_index, Some, None, Option, refl, sym, subst}
use Rattle.vital_base.specs.declared.place.Place.{Place}
use Rattle.vital_grammar.specs.Grammar.{grammar}
use Rattle.vital_grammar.specs.RuleNumbers as s
use Rattle.vital_ll.specs.declared.grammar.Sym.TheVariants.{Token as Word, Rule}
use Rattle.vital_vhdl_lexemes.specs.declared.kinds.Kind.TheVariants as kind
use Rattle.vital_lex.specs.declared.token_list.Token.{Token}
use Rattle.vital_nodes.specs.Nodes as nodes
use Rattle.vital_nodes.specs.Places.{place_of, place_of_expr}
use Rattle.vital_nodes.specs.declared.expr.Actual.TheOpen.{Actual-F, Choice-F, Expr-F, Item-F, Suffix-F}
use Rattle.vital_nodes.specs.declared.expr.Actual.TheViews.{out-Actual, out-Choice, out-Expr, out-Item, out-Suffix, roll-Actual, roll-Choice, roll-Expr, roll-Item, roll-Suffix}
use Rattle.vital_nodes.specs.declared.expr.Sign.{Sign}
use Rattle.vital_nodes.specs.declared.expr.Adding.{Adding}
use Rattle.vital_nodes.specs.declared.expr.Multiplying.{Multiplying}
use Rattle.vital_nodes.specs.declared.expr.Expr.{Expr}
use Rattle.vital_nodes.specs.declared.expr.Expr.TheVariants as e
use Rattle.vital_nodes.specs.declared.expr.Relation.{roll-Relation}
use Rattle.vital_nodes.specs.declared.expr.Sum.{roll-Sum}
use Rattle.vital_nodes.specs.declared.expr.Product.{roll-Product}
use Rattle.vital_nodes.specs.declared.expr.Range.{roll-Range}
use Rattle.vital_nodes.specs.declared.expr.Association.{roll-Association}
use Rattle.vital_nodes.specs.declared.expr.Reference.{roll-Reference}
use Rattle.vital_nodes.specs.declared.expr.Suffix.TheVariants as suffixes
use Rattle.vital_nodes.specs.declared.expr.Item.{Item}
use Rattle.vital_nodes.specs.declared.expr.Item.TheVariants as forms
use Rattle.vital_nodes.specs.declared.expr.Choice.TheVariants as choices
use Rattle.vital_nodes.specs.declared.expr.Actual.TheVariants as actuals
use Rattle.vital_shapes.specs.Reading.{Reader, ◌>>=◌, ◌>>◌, pure, skip, place, spelling, identifier, after, more, many}
use Rattle.vital_shapes.specs.Expressions.{logical_of, relational_of, sign_of, multiplying_of, adding_of, direction_of, direction, sum_of, product_of, sign_before, number, in_parentheses, selected, ticked, suffix, reference, primary, factor, next_factor, after_factor, term, next_term, after_term, simple, after_sum, relation, operands, after_relation, expr, range, value_or_range, actual, association, one_item, item_list}
use Rattle.vital_shapes.proofs.Along.{Source, Stands, Along, stay, joined, led, ended, passing, Whole, one, before, Each-along, each_joined, All-along, all_joined}
use Rattle.vital_shapes.proofs.Identifiers.{identifier_takes}
use Rattle.vital_shapes.proofs.Lists.{lists, single, separated_take}
use Rattle.vital_shapes.proofs.Rules as rules
use Rattle.vital_shapes.proofs.Steps.{◌&◌, choose, step, step_down, placed, spelled, token_first}
use Rattle.vital_shapes.proofs.Takes.{Takes, followed, gives, claiming}
use Rattle.vital_shapes.proofs.Views.{whole_expr, whole_item, WholeChoice, whole_choice, actual_along, suffix_along}
use denote.Hole.Carrier.{roll}

pub direction_takes : {o : Source} {n : ℕ} {ts : List Token} → Takes o n (s.dir ∷ []) ts direction (λ _ us. Along o ts [] us)
unfolding direction
direction_takes = choose 17 (λ c. skip >> pure (direction_of c)) rules.dir_is
    (token_first (λ us a. gives (direction_of 0) a)
    & token_first (λ us a. gives (direction_of 1) a)
    & tt)

-- where no sign is written nothing is read
pub record SignRead (o : Source) (ts : List Token) (sign : Option Sign) (us : List Token) : Type 0 where
  pub passed : Along o ts [] us
  pub unsigned : sign ≡ None → us ≡ ts

pub sign_takes : {o : Source} {n : ℕ} {ts : List Token} → Takes o n (s.sign ∷ []) ts sign_before (SignRead o ts)
unfolding sign_before
sign_takes = choose 66 (λ c. if c == 0 then pure None else (skip >> pure (Some (sign_of c)))) rules.sign_is
    (gives None (record { passed = stay; unsigned = λ _. refl })
    & token_first (λ us a. gives (Some (sign_of 1)) (record { passed = a; unsigned = λ f. absurd (cc) }))
    & token_first (λ us a. gives (Some (sign_of 2)) (record { passed = a; unsigned = λ f. absurd (cc) }))
    & tt)

number_takes : {o : Source} {n : ℕ} {ts : List Token} → Takes o n (s.word kind.Number ∷ s.optional_id ∷ []) ts number (λ x us. Whole o ts (nodes.Expression x) us)
unfolding number roll-Expr roll out-Expr
number_takes = placed refl (λ p here. followed spelled (λ digits us a. choose 3
    (λ c. if c == 0 then pure (e.Number p digits) else (identifier >>= λ unit. pure (e.Physical (record { place = p; number = digits; unit = unit }))))
    rules.optional_id_is
    (gives (e.Number p digits) (whole_expr (Expr-F.Number p digits) here a)
    & followed identifier_takes (λ unit ws x. gives (e.Physical (record { place = p; number = digits; unit = unit })) (whole_expr (Expr-F.Physical (record { place = p; number = digits; unit = unit })) here (led a x.inside)))
    & tt)))

-- ---- nodes of one operand or more

-- with tokens passed over behind it
further : {o : Source} {ts us ws : List Token} {v : nodes.Node} → Whole o ts v us → Along o us [] ws → Whole o ts v ws
further w a = record { stands = w.stands; inside = ended w.inside a }

product_whole : {o : Source} {ts us ws : List Token} (p : Place) (first : Expr) (others : List (Multiplying × Expr)) → Stands o ts p → Whole o ts (nodes.Expression first) us →
    Each-along o (λ f. nodes.Expression f.1) us others ws → Whole o ts (nodes.Expression (product_of p first others)) ws
unfolding product_of roll-Expr roll out-Expr
product_whole p first [] here w a = further w a
product_whole p first (second ∷ others) here w a =
    whole_expr (Expr-F.Product (roll-Product (record { place = p; first = first; others = second ∷ others }))) here (before w a)

sum_whole : {o : Source} {ts us ws vs : List Token} (p : Place) (sign : Option Sign) (first : Expr) (others : List (Adding × Expr)) → Stands o ts p → SignRead o ts sign us →
    Whole o us (nodes.Expression first) ws → Each-along o (λ f. nodes.Expression f.1) ws others vs → Whole o ts (nodes.Expression (sum_of p sign first others)) vs
unfolding sum_of roll-Expr roll out-Expr
sum_whole {o} {vs = vs} p None first [] here x w a = subst (λ (l : List Token). Whole o l (nodes.Expression first) vs) (x.unsigned refl) (further w a)
sum_whole p None first (second ∷ others) here x w a =
    whole_expr (Expr-F.Sum (roll-Sum (record { place = p; sign = None; first = first; others = second ∷ others }))) here (led x.passed (before w a))
sum_whole p (Some g) first others here x w a =
    whole_expr (Expr-F.Sum (roll-Sum (record { place = p; sign = Some g; first = first; others = others }))) here (led x.passed (before w a))

-- ---- with the reader of the items in parentheses

module _ (o : Source) (n : ℕ) (items : Reader (List Item)) (items_take : (ts : List Token) → Takes o n (s.items ∷ []) ts items (λ found us. Along o ts (nodes.items found) us)) where
  in_parentheses_takes : {ts : List Token} →
      Takes o n (s.word kind.LeftParenthesis ∷ s.items ∷ s.word kind.RightParenthesis ∷ []) ts (in_parentheses items) (λ found us. Along o ts (nodes.items found) us)
  unfolding in_parentheses
  in_parentheses_takes = token_first (λ us a. followed (items_take us) (λ found ws b. token_first (λ vs c. gives found (led a (ended b c)))))

  pub selected_takes : {ts : List Token} → Takes o n (s.word kind.Dot ∷ s.selected ∷ []) ts (selected items) (λ x us. Along o ts (nodes.parts_of_suffix x) us)
  unfolding selected roll-Suffix roll out-Suffix
  selected_takes = token_first (λ us a. choose 49
      (λ c. if c == 0 then (identifier >>= λ x. pure (suffixes.Selected x)) else (place >>= λ p. skip >> pure (suffixes.All p)))
      rules.selected_is
      (followed identifier_takes (λ x ws b. gives (suffixes.Selected x) (suffix_along (Suffix-F.Selected x) (led a b.inside)))
      & placed refl (λ p here. token_first (λ ws b. gives (suffixes.All p) (suffix_along (Suffix-F.All p) (led a b))))
      & tt))

  pub ticked_takes : {ts : List Token} → Takes o n (s.word kind.Tick ∷ s.ticked ∷ []) ts (ticked items) (λ x us. Along o ts (nodes.parts_of_suffix x) us)
  unfolding ticked roll-Suffix roll out-Suffix
  ticked_takes = token_first (λ us a. choose 50
      (λ c. if c == 0 then (identifier >>= λ x. pure (suffixes.Attribute x)) else (in_parentheses items >>= λ found. pure (suffixes.Qualified found)))
      rules.ticked_is
      (followed identifier_takes (λ x ws b. gives (suffixes.Attribute x) (suffix_along (Suffix-F.Attribute x) (led a b.inside)))
      & followed in_parentheses_takes (λ found ws b. gives (suffixes.Qualified found) (suffix_along (Suffix-F.Qualified found) (led a b)))
      & tt))

  items_suffix_takes : {ts : List Token} →
      Takes o n (s.word kind.LeftParenthesis ∷ s.items ∷ s.word kind.RightParenthesis ∷ []) ts (suffix items 3) (λ x us. Along o ts (nodes.parts_of_suffix x) us)
  unfolding suffix roll-Suffix roll out-Suffix
  items_suffix_takes = followed in_parentheses_takes (λ found us a. gives (suffixes.Items found) (suffix_along (Suffix-F.Items found) a))

  pub suffixes_take : {ts : List Token} → Takes o n (s.suffixes ∷ []) ts (many (suffix items)) (All-along o nodes.parts_of_suffix ts)
  unfolding suffix
  suffixes_take = lists 48 _ _ (All-along o nodes.parts_of_suffix) (all_joined nodes.parts_of_suffix) stay rules.suffixes_is
      (single (λ ts. claiming selected_takes (λ x us a. joined a stay))
      & single (λ ts. claiming ticked_takes (λ x us a. joined a stay))
      & single (λ ts. claiming items_suffix_takes (λ x us a. joined a stay))
      & tt)

  pub reference_takes : {ts : List Token} → Takes o n (s.name ∷ []) ts (reference items) (λ x us. Whole o ts (nodes.Name x) us)
  unfolding reference nodes.parts_of place_of
  reference_takes = step 47 rules.name_is (followed identifier_takes (λ first us x. followed suffixes_take (λ found ws a.
      gives (roll-Reference (record { identifier = first; suffixes = found })) (record { stands = x.stands; inside = led x.inside a }))))

  pub primary_takes : {ts : List Token} → Takes o n (s.prim ∷ []) ts (primary items) (λ x us. Whole o ts (nodes.Expression x) us)
  unfolding primary roll-Expr roll out-Expr place_of
  primary_takes = choose 71
      (λ c. if c == 0 then number else (if c == 3 then (reference items >>= λ x. pure (e.Reference x)) else (place >>= λ p.
      if c == 1 then (spelling >>= λ x. pure (e.Character p (slice_index x 1))) else (if c == 2 then (spelling >>= λ x. pure (e.StringLiteral p x)) else (in_parentheses items >>= λ x. pure (e.Parenthesized p x))))))
      rules.prim_is
      (number_takes
      & placed refl (λ p here. followed spelled (λ x us a. gives (e.Character p (slice_index x 1)) (whole_expr (Expr-F.Character p (slice_index x 1)) here a)))
      & placed refl (λ p here. followed spelled (λ x us a. gives (e.StringLiteral p x) (whole_expr (Expr-F.StringLiteral p x) here a)))
      & followed reference_takes (λ x us w. gives (e.Reference x) (whole_expr (Expr-F.Reference x) w.stands (one w)))
      & placed refl (λ p here. followed in_parentheses_takes (λ x us a. gives (e.Parenthesized p x) (whole_expr (Expr-F.Parenthesized p x) here a)))
      & tt)

  pub factor_takes : {ts : List Token} → Takes o n (s.factor ∷ []) ts (factor items) (λ x us. Whole o ts (nodes.Expression x) us)
  unfolding factor roll-Expr roll out-Expr
  factor_takes = choose 70
      (λ c. place >>= λ p. if c == 0 then (skip >> (primary items >>= λ x. pure (e.Not p x))) else primary items)
      rules.factor_is
      (placed refl (λ p here. token_first (λ us a. followed primary_takes (λ x ws w. gives (e.Not p x) (whole_expr (Expr-F.Not p x) here (led a (one w))))))
      & placed refl (λ p here. primary_takes)
      & tt)

  next_factor_takes : {ts : List Token} (c k : ℕ) → Takes o n (Word k ∷ s.factor ∷ []) ts (next_factor items c) (λ x us. Along o ts (nodes.Expression x.1 ∷ []) us)
  unfolding next_factor
  next_factor_takes c k = token_first (λ us a. followed factor_takes (λ x ws w. gives (multiplying_of c, x) (led a (one w))))

  pub more_factors_take : {ts : List Token} → Takes o n (s.more_factors ∷ []) ts (many (next_factor items)) (Each-along o (λ f. nodes.Expression f.1) ts)
  more_factors_take = lists 69 _ _ (Each-along o (λ f. nodes.Expression f.1)) (each_joined (λ f. nodes.Expression f.1)) stay rules.more_factors_is
      (single (λ ts. next_factor_takes 1 _)
      & single (λ ts. next_factor_takes 2 _)
      & tt)

  after_factor_takes : {ts us : List Token} (p : Place) (first : Expr) → Stands o ts p → Whole o ts (nodes.Expression first) us →
      Takes o n (s.more_factors ∷ []) us (after_factor items p first) (λ x ws. Whole o ts (nodes.Expression x) ws)
  unfolding after_factor
  after_factor_takes p first here w = followed more_factors_take (λ others ws a. gives (product_of p first others) (product_whole p first others here w a))

  pub term_takes : {ts : List Token} → Takes o n (s.term ∷ []) ts (term items) (λ x us. Whole o ts (nodes.Expression x) us)
  unfolding term
  term_takes = step 68 rules.term_is (placed refl (λ p here. followed factor_takes (λ first us w. after_factor_takes p first here w)))

  next_term_takes : {ts : List Token} (c k : ℕ) → Takes o n (Word k ∷ s.term ∷ []) ts (next_term items c) (λ x us. Along o ts (nodes.Expression x.1 ∷ []) us)
  unfolding next_term
  next_term_takes c k = token_first (λ us a. followed term_takes (λ x ws w. gives (adding_of c, x) (led a (one w))))

  pub more_terms_take : {ts : List Token} → Takes o n (s.more_terms ∷ []) ts (many (next_term items)) (Each-along o (λ f. nodes.Expression f.1) ts)
  more_terms_take = lists 67 _ _ (Each-along o (λ f. nodes.Expression f.1)) (each_joined (λ f. nodes.Expression f.1)) stay rules.more_terms_is
      (single (λ ts. next_term_takes 1 _)
      & single (λ ts. next_term_takes 2 _)
      & single (λ ts. next_term_takes 3 _)
      & tt)

  after_term_takes : {ts us ws : List Token} (p : Place) (sign : Option Sign) (first : Expr) → Stands o ts p → SignRead o ts sign us → Whole o us (nodes.Expression first) ws →
      Takes o n (s.more_terms ∷ []) ws (after_term items p sign first) (λ x vs. Whole o ts (nodes.Expression x) vs)
  unfolding after_term
  after_term_takes p sign first here x w = followed more_terms_take (λ others vs a. gives (sum_of p sign first others) (sum_whole p sign first others here x w a))

  pub simple_takes : {ts : List Token} → Takes o n (s.sum ∷ []) ts (simple items) (λ x us. Whole o ts (nodes.Expression x) us)
  unfolding simple
  simple_takes = step 65 rules.sum_is (placed refl (λ p here. followed sign_takes (λ sign us x. followed term_takes (λ first ws w. after_term_takes p sign first here x w))))

  compared_takes : {ts us : List Token} (c k : ℕ) (p : Place) (first : Expr) → Stands o ts p → Whole o ts (nodes.Expression first) us →
      Takes o n (Word k ∷ s.sum ∷ []) us
      (skip >> (simple items >>= λ second. pure (e.Relation (roll-Relation (record { place = p; operator = relational_of c; left = first; right = second })))))
      (λ x ws. Whole o ts (nodes.Expression x) ws)
  unfolding roll-Expr roll out-Expr
  compared_takes c k p first here w = token_first (λ ws a. followed simple_takes (λ second vs x.
      gives (e.Relation (roll-Relation (record { place = p; operator = relational_of c; left = first; right = second })))
      (whole_expr (Expr-F.Relation (roll-Relation (record { place = p; operator = relational_of c; left = first; right = second }))) here (before w (led a (one x))))))

  pub after_sum_takes : {ts us : List Token} (p : Place) (first : Expr) → Stands o ts p → Whole o ts (nodes.Expression first) us →
      Takes o n (s.rel_rest ∷ []) us (after_sum items p first) (λ x ws. Whole o ts (nodes.Expression x) ws)
  unfolding after_sum
  after_sum_takes p first here w = choose 64
      (λ c. if c == 0 then pure first else (skip >> (simple items >>= λ second. pure (e.Relation (roll-Relation (record { place = p; operator = relational_of c; left = first; right = second }))))))
      rules.rel_rest_is
      (gives first w
      & compared_takes 1 _ p first here w
      & compared_takes 2 _ p first here w
      & compared_takes 3 _ p first here w
      & compared_takes 4 _ p first here w
      & compared_takes 5 _ p first here w
      & compared_takes 6 _ p first here w
      & tt)

  pub relation_takes : {ts : List Token} → Takes o n (s.rel ∷ []) ts (relation items) (λ x us. Whole o ts (nodes.Expression x) us)
  unfolding relation
  relation_takes = step 63 rules.rel_is (placed refl (λ p here. followed simple_takes (λ first us w. after_sum_takes p first here w)))

  more_operands_take : {ts us : List Token} {k : ℕ} (r : ℕ) (found : List Expr) → slice_get grammar r ≡ Some ([] ∷ (Word k ∷ s.rel ∷ Rule r ∷ []) ∷ []) →
      Along o ts (nodes.expressions found) us →
      Takes o n (Rule r ∷ []) us (more (λ _. after (relation items)) found) (λ all ws. Along o ts (nodes.expressions all) ws)
  more_operands_take {k = k} r found known a = lists r _ _ (Each-along o (λ y. nodes.Expression y)) (each_joined (λ y. nodes.Expression y)) a known
      (single (λ ts. token_first {k = k} (λ us b. claiming relation_takes (λ y ws w. led b (one w)))) & tt)

  -- operands of an operator that may be repeated, and of one that may not
  chain_takes : {ts us : List Token} {k : ℕ} (r : ℕ) (first : Expr) (c : ℕ) → nat_lt 4 c ≡ false → slice_get grammar r ≡ Some ([] ∷ (Word k ∷ s.rel ∷ Rule r ∷ []) ∷ []) →
      Whole o ts (nodes.Expression first) us → Takes o n (Word k ∷ s.rel ∷ Rule r ∷ []) us (operands items first c) (λ found ws. Along o ts (nodes.expressions found) ws)
  unfolding operands
  chain_takes {ts} {us} {k} r first c few known w =
      subst (λ (b : Bool). Takes o n (Word k ∷ s.rel ∷ Rule r ∷ []) us
      (skip >> (relation items >>= λ second. if b then pure (first ∷ second ∷ []) else more (λ _. after (relation items)) (first ∷ second ∷ [])))
      (λ found ws. Along o ts (nodes.expressions found) ws)) (sym few)
      (token_first (λ bs a. followed relation_takes (λ second cs x. more_operands_take r (first ∷ second ∷ []) known (before w (led a (one x))))))

  pair_takes : {ts us : List Token} {k : ℕ} (first : Expr) (c : ℕ) → nat_lt 4 c ≡ true →
      Whole o ts (nodes.Expression first) us → Takes o n (Word k ∷ s.rel ∷ []) us (operands items first c) (λ found ws. Along o ts (nodes.expressions found) ws)
  unfolding operands
  pair_takes {ts} {us} {k} first c past_four w =
      subst (λ (b : Bool). Takes o n (Word k ∷ s.rel ∷ []) us
      (skip >> (relation items >>= λ second. if b then pure (first ∷ second ∷ []) else more (λ _. after (relation items)) (first ∷ second ∷ [])))
      (λ found ws. Along o ts (nodes.expressions found) ws)) (sym past_four)
      (token_first (λ bs a. followed relation_takes (λ second cs x. gives (first ∷ second ∷ []) (before w (led a (one x))))))

  logical_whole : {ts us : List Token} (p : Place) (c : ℕ) (found : List Expr) → Stands o ts p → Along o ts (nodes.expressions found) us →
      Whole o ts (nodes.Expression (e.Logical p (logical_of c) found)) us
  unfolding roll-Expr roll out-Expr
  logical_whole p c found here a = whole_expr (Expr-F.Logical p (logical_of c) found) here a

  pub after_relation_takes : {ts us : List Token} (p : Place) (first : Expr) → Stands o ts p → Whole o ts (nodes.Expression first) us →
      Takes o n (s.expr_rest ∷ []) us (after_relation items p first) (λ x ws. Whole o ts (nodes.Expression x) ws)
  unfolding after_relation
  after_relation_takes p first here w = choose 58
      (λ c. if c == 0 then pure first else (operands items first c >>= λ found. pure (e.Logical p (logical_of c) found)))
      rules.expr_rest_is
      (gives first w
      & followed (chain_takes 59 first 1 refl rules.more_ands_is w) (λ found ws a. gives (e.Logical p (logical_of 1) found) (logical_whole p 1 found here a))
      & followed (chain_takes 60 first 2 refl rules.more_ors_is w) (λ found ws a. gives (e.Logical p (logical_of 2) found) (logical_whole p 2 found here a))
      & followed (chain_takes 61 first 3 refl rules.more_xors_is w) (λ found ws a. gives (e.Logical p (logical_of 3) found) (logical_whole p 3 found here a))
      & followed (chain_takes 62 first 4 refl rules.more_xnors_is w) (λ found ws a. gives (e.Logical p (logical_of 4) found) (logical_whole p 4 found here a))
      & followed (pair_takes first 5 refl w) (λ found ws a. gives (e.Logical p (logical_of 5) found) (logical_whole p 5 found here a))
      & followed (pair_takes first 6 refl w) (λ found ws a. gives (e.Logical p (logical_of 6) found) (logical_whole p 6 found here a))
      & tt)

  pub expr_takes : {ts : List Token} → Takes o n (s.expr ∷ []) ts (expr items) (λ x us. Whole o ts (nodes.Expression x) us)
  unfolding expr
  expr_takes = step 57 rules.expr_is (placed refl (λ p here. followed relation_takes (λ first us w. after_relation_takes p first here w)))

  -- ---- ranges and items

  range_takes : {ts us : List Token} (l : Expr) → Whole o ts (nodes.Expression l) us →
      Takes o n (s.dir ∷ s.expr ∷ []) us (range items l) (λ r ws. Along o ts (nodes.parts_of_range r) ws × (r.left ≡ l))
  unfolding range
  range_takes l w = followed direction_takes (λ d ws a. followed expr_takes (λ r vs x.
      gives (roll-Range (record { left = l; direction = d; right = r })) (before w (led a (one x)), refl)))

  pub value_or_range_takes : {ts : List Token} → Takes o n (s.expr ∷ s.item_range ∷ []) ts (value_or_range items) (WholeChoice o ts)
  unfolding value_or_range place_of roll-Choice roll out-Choice
  value_or_range_takes {ts} = followed expr_takes (λ l us w. choose 54
      (λ c. if c == 0 then pure (choices.Value l) else (range items l >>= λ x. pure (choices.Range x)))
      rules.item_range_is
      (gives (choices.Value l) (whole_choice (Choice-F.Choice::Value l) w.stands (one w))
      & followed (range_takes l w) (λ x ws a. gives (choices.Range x) (whole_choice (Choice-F.Range x) (subst (λ (y : Expr). Stands o ts (place_of_expr y)) (sym a.1) w.stands) a.0))
      & tt))

  pub actual_takes : {ts : List Token} → Takes o n (s.actual ∷ []) ts (actual items) (λ x us. Along o ts (nodes.parts_in_actual (out-Actual x)) us)
  unfolding actual roll-Actual roll out-Actual
  actual_takes = choose 56
      (λ c. place >>= λ p. if c == 0 then (expr items >>= λ x. pure (actuals.Value x)) else (skip >> pure (actuals.Open p)))
      rules.actual_is
      (placed refl (λ p here. followed expr_takes (λ x us w. gives (actuals.Value x) (actual_along (Actual-F.Actual::Value x) (one w))))
      & placed refl (λ p here. token_first (λ us a. gives (actuals.Open p) (actual_along (Actual-F.Actual::Open p) a)))
      & tt)

  pub association_takes : {ts : List Token} → Takes o n (s.expr ∷ s.item_range ∷ s.item_actual ∷ []) ts (association items) (λ x us. Whole o ts (nodes.Item x) us)
  unfolding association roll-Item roll out-Item
  association_takes = followed value_or_range_takes (λ first us w. choose 55
      (λ c. if c == 0 then pure (forms.Positional first) else (skip >> (actual items >>= λ x. pure (forms.Named (roll-Association (record { formal = first; actual = x }))))))
      rules.item_actual_is
      (gives (forms.Positional first) (whole_item (Item-F.Positional first) w.stands w.inside)
      & token_first (λ ws a. followed actual_takes (λ x vs b. gives (forms.Named (roll-Association (record { formal = first; actual = x }))) (whole_item (Item-F.Named (roll-Association (record { formal = first; actual = x }))) w.stands (led (passing w.inside) (led a b)))))
      & tt))

  pub one_item_takes : {ts : List Token} → Takes o n (s.item ∷ []) ts (one_item items) (λ x us. Whole o ts (nodes.Item x) us)
  unfolding one_item roll-Item roll out-Item
  one_item_takes = choose 53
      (λ c. place >>= λ p. if c == 0 then (skip >> (skip >> (expr items >>= λ x. pure (forms.Others p x)))) else (if c == 1 then skip >> pure (forms.Open p) else association items))
      rules.item_is
      (placed refl (λ p here. token_first (λ us a. token_first (λ ws b. followed expr_takes (λ x vs w. gives (forms.Others p x) (whole_item (Item-F.Others p x) here (led a (led b (one w))))))))
      & placed refl (λ p here. token_first (λ us a. gives (forms.Open p) (whole_item (Item-F.Item::Open p) here a)))
      & placed refl (λ p here. association_takes)
      & tt)

  pub item_list_takes : {ts : List Token} → Takes o (suc n) (s.items ∷ []) ts (item_list items) (λ found us. Along o ts (nodes.items found) us)
  unfolding item_list
  item_list_takes = step_down 51 rules.items_is (separated_take 52 (Each-along o (λ x. nodes.Item x)) (each_joined (λ x. nodes.Item x)) (λ us ws vs x a b. led a b) rules.more_items_is
      (λ us. claiming one_item_takes (λ x ws w. one w)))
