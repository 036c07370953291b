-- Readers of statements give nodes of which each name has its identifier at a token of its own.
use Rattle.std.proofs.Common.{◌≡◌, ℕ, zero, suc, ◌==◌, if◌then◌else◌, List, [], ◌∷◌, ◌++◌, slice_get, Option, Some, None, refl, sym, ap}
use Rattle.std.specs.List.{flat_map}
use Rattle.vital_base.specs.declared.place.Place.{Place}
use Rattle.vital_grammar.specs.Grammar.{grammar}
use Rattle.vital_grammar.specs.RuleNumbers as s
use Rattle.vital_ll.specs.declared.grammar.Sym.TheVariants.{Token as Word, Rule}
use Rattle.vital_vhdl_lexemes.specs.declared.kinds.Kind.TheVariants as kind
use Rattle.vital_lex.specs.declared.token_list.Token.{Token}
use Rattle.vital_nodes.specs.Nodes as nodes
use Rattle.vital_nodes.specs.declared.expr.Reference.{Reference}
use Rattle.vital_nodes.specs.declared.stmt.Branch.{Branch, roll-Branch}
use Rattle.vital_nodes.specs.declared.stmt.If.{roll-If}
use Rattle.vital_nodes.specs.declared.stmt.Stmt.{Stmt}
use Rattle.vital_nodes.specs.declared.stmt.Stmt.TheOpen.{Stmt-F}
use Rattle.vital_nodes.specs.declared.stmt.Stmt.TheVariants as st
use Rattle.vital_nodes.specs.declared.stmt.Stmt.TheViews.{out-roll-If, out-Stmt, roll-Stmt}
use Rattle.vital_shapes.specs.Reading.{Reader, ◌>>=◌, ◌>>◌, pure, skip, place, after, more}
use Rattle.vital_shapes.specs.Expressions.{expression, items_within, name, optional_value}
use Rattle.vital_shapes.specs.Statements.{signal_assignment, after_name, branch, otherwise, branches, if_statement, statement, statements_within, statements}
use Rattle.vital_shapes.proofs.Along.{Source, led as passed_over}
use Rattle.vital_shapes.proofs.Lists.{lists, lists_down, single}
use Rattle.vital_shapes.proofs.Rules as rules
use Rattle.vital_shapes.proofs.Steps.{◌&◌, choose, none_left, told_left, placed, token_first}
use Rattle.vital_shapes.proofs.Takes.{Takes, followed, gives, claiming}
use Rattle.vital_as_read.proofs.NamesRead.{expr_takes, item_list_takes, reference_takes}
use Rattle.vital_as_read.proofs.Strictly.{Strictly, stay, joined, quiet, led, ended, strictly_as, Whole, one, before, Each-along, each_joined, All-along, all_joined, whole_stmt}
use denote.Hole.Carrier.{roll}

-- ---- where they stand in no parentheses

items_within_take : (o : Source) (n : ℕ) (ts : List Token) → Takes o n (s.items ∷ []) ts (items_within n) (λ found us. Strictly o ts (nodes.items found) us)
unfolding items_within
items_within_take o zero ts = none_left
items_within_take o (suc n) ts = item_list_takes o n (items_within n) (items_within_take o n)

expression_takes : {o : Source} {n : ℕ} {ts : List Token} → Takes o n (s.expr ∷ []) ts expression (λ x us. Whole o ts (nodes.Expression x) us)
expression_takes {o} = told_left (λ m few. expr_takes o m (items_within m) (items_within_take o m))

name_takes : {o : Source} {n : ℕ} {ts : List Token} → Takes o n (s.name ∷ []) ts name (λ x us. Whole o ts (nodes.Name x) us)
name_takes {o} = told_left (λ m few. reference_takes o m (items_within m) (items_within_take o m))

optional_value_takes : {o : Source} {n k : ℕ} {ts : List Token} (r : ℕ) → slice_get grammar r ≡ Some ([] ∷ (Word k ∷ s.expr ∷ []) ∷ []) →
    Takes o n (Rule r ∷ []) ts optional_value (λ x us. Strictly o ts (nodes.expression_if_there x) us)
unfolding optional_value
optional_value_takes r known = choose r (λ c. if c == 0 then pure None else (skip >> (expression >>= λ x. pure (Some x)))) known
    (gives None stay
    & token_first (λ us a. followed expression_takes (λ x ws w. gives (Some x) (led a (one w))))
    & tt)

-- ---- statements

signal_assignment_takes : {o : Source} {n : ℕ} {ts us : List Token} (target : Reference) → Whole o ts (nodes.Name target) us →
    Takes o n (s.word kind.LessOrEqual ∷ s.expr ∷ s.delay ∷ s.word kind.Semicolon ∷ []) us (signal_assignment target) (λ x ws. Strictly o ts (nodes.parts_of_signal_assignment x) ws)
unfolding signal_assignment
signal_assignment_takes target w = token_first (λ us a. followed expression_takes (λ value ws x. followed (optional_value_takes 35 rules.delay_is) (λ delay vs b. token_first (λ xs c.
    gives (record { target = target; value = value; after = delay }) (before w (led a (before x (ended b c))))))))

after_name_takes : {o : Source} {n : ℕ} {ts us : List Token} (p : Place) (target : Reference) → Whole o ts (nodes.Name target) us →
    Takes o n (s.seq_end ∷ []) us (after_name p target) (λ x ws. Whole o ts (nodes.Sequential x) ws)
unfolding after_name roll-Stmt roll out-Stmt
after_name_takes p target w = choose 44
    (λ form. if form == 0 then (skip >> (expression >>= λ value. skip >> pure (st.VariableAssignment p (record { target = target; value = value }))))
    else (if form == 1 then (signal_assignment target >>= λ x. pure (st.SignalAssignment p x)) else (skip >> pure (st.Call p target))))
    rules.seq_end_is
    (token_first (λ us a. followed expression_takes (λ value ws x. token_first (λ vs b. gives (st.VariableAssignment p (record { target = target; value = value })) (whole_stmt (Stmt-F.VariableAssignment p (record { target = target; value = value })) (before w (led a (before x (quiet b))))))))
    & followed (signal_assignment_takes target w) (λ x us a. gives (st.SignalAssignment p x) (whole_stmt (Stmt-F.SignalAssignment p x) a))
    & token_first (λ us a. gives (st.Call p target) (whole_stmt (Stmt-F.Call p target) (before w (quiet a))))
    & tt)

module _ (o : Source) (n : ℕ) (inner : Reader (List Stmt)) (inner_takes : (ts : List Token) → Takes o n (s.seqs ∷ []) ts inner (λ found us. Strictly o ts (nodes.sequentials found) us)) where
  branch_takes : {ts : List Token} → Takes o n (s.expr ∷ s.word kind.Then ∷ s.seqs ∷ []) ts (branch inner) (λ x us. Strictly o ts (nodes.parts_of_branch x) us)
  unfolding branch
  branch_takes = followed expression_takes (λ condition us w. token_first (λ ws a. followed (inner_takes ws) (λ found vs b.
      gives (roll-Branch (record { condition = condition; statements = found })) (before w (led a b)))))

  otherwise_takes : {ts : List Token} → Takes o n (s.else_part ∷ []) ts (otherwise inner) (λ x us. Strictly o ts (nodes.statements_if_there x) us)
  unfolding otherwise
  otherwise_takes = choose 46 (λ form. if form == 0 then pure None else (skip >> (inner >>= λ found. pure (Some found)))) rules.else_part_is
      (gives None stay
      & token_first (λ us a. followed (inner_takes us) (λ found ws b. gives (Some found) (led a b)))
      & tt)

  more_branches_take : {ts us : List Token} (first : Branch) → Strictly o ts (nodes.parts_of_branch first) us →
      Takes o n (s.elsifs ∷ []) us (more (λ _. after (branch inner)) (first ∷ [])) (All-along o nodes.parts_of_branch ts)
  more_branches_take first a = lists 45 _ _ (All-along o nodes.parts_of_branch) (all_joined nodes.parts_of_branch) (joined a stay) rules.elsifs_is
      (single (λ ts. token_first (λ us b. claiming branch_takes (λ x ws c. led b (joined c stay)))) & tt)

  branches_take : {ts : List Token} → Takes o n (s.expr ∷ s.word kind.Then ∷ s.seqs ∷ s.elsifs ∷ []) ts (branches inner) (All-along o nodes.parts_of_branch ts)
  unfolding branches
  branches_take = followed branch_takes (λ first us a. more_branches_take first a)

  if_whole : {ts us : List Token} (p : Place) (found : List Branch) (last : Option (List Stmt)) →
      Strictly o ts (flat_map nodes.parts_of_branch found ++ nodes.statements_if_there last) us → Whole o ts (nodes.Sequential (st.If p (roll-If (record { branches = found; otherwise = last })))) us
  unfolding roll-Stmt roll out-Stmt
  if_whole p found last a = whole_stmt (Stmt-F.If p (roll-If (record { branches = found; otherwise = last })))
      (strictly_as (ap (λ parts. flat_map nodes.parts_of_branch parts.branches ++ nodes.statements_if_there parts.otherwise) (sym (out-roll-If (record { branches = found; otherwise = last })))) a)

  if_statement_takes : {ts : List Token} (p : Place) →
      Takes o n (s.word kind.If ∷ s.expr ∷ s.word kind.Then ∷ s.seqs ∷ s.elsifs ∷ s.else_part ∷ s.word kind.End ∷ s.word kind.If ∷ s.word kind.Semicolon ∷ []) ts (if_statement inner p)
      (λ x us. Whole o ts (nodes.Sequential x) us)
  unfolding if_statement
  if_statement_takes p = token_first (λ us a. followed branches_take (λ found ws b. followed otherwise_takes (λ last vs c.
      token_first (λ xs f. token_first (λ ys g. token_first (λ zs h. gives (st.If p (roll-If (record { branches = found; otherwise = last })))
      (if_whole p found last (led a (ended (joined b c) (passed_over f (passed_over g h)))))))))))

  statement_takes : {ts : List Token} → Takes o n (s.seq ∷ []) ts (statement inner) (λ x us. Whole o ts (nodes.Sequential x) us)
  unfolding statement roll-Stmt roll out-Stmt
  statement_takes = choose 43
      (λ form. place >>= λ p. if form == 0 then (name >>= λ target. after_name p target) else (if form == 1 then if_statement inner p else (skip >> (skip >> pure (st.Null p)))))
      rules.seq_is
      (placed refl (λ p stands. followed name_takes (λ target us w. after_name_takes p target w))
      & placed refl (λ p stands. if_statement_takes p)
      & placed refl (λ p stands. token_first (λ us a. token_first (λ ws b. gives (st.Null p) (whole_stmt (Stmt-F.Null p) (led a (quiet b))))))
      & tt)

  statements_down : {ts : List Token} → Takes o (suc n) (s.seqs ∷ []) ts (more (λ _. statement inner) []) (λ found us. Strictly o ts (nodes.sequentials found) us)
  statements_down = lists_down 42 _ _ (Each-along o (λ x. nodes.Sequential x)) (each_joined (λ x. nodes.Sequential x)) stay rules.seqs_is
      (single (λ ts. claiming statement_takes (λ x us w. one w)) & tt)

statements_within_take : (o : Source) (n : ℕ) (ts : List Token) → Takes o n (s.seqs ∷ []) ts (statements_within n) (λ found us. Strictly o ts (nodes.sequentials found) us)
unfolding statements_within
statements_within_take o zero ts = none_left
statements_within_take o (suc n) ts = statements_down o n (statements_within n) (statements_within_take o n)

pub statements_take : {o : Source} {n : ℕ} {ts : List Token} → Takes o n (s.seqs ∷ []) ts statements (λ found us. Strictly o ts (nodes.sequentials found) us)
statements_take {o} {n} {ts} = told_left (λ m few. statements_within_take o m ts)
