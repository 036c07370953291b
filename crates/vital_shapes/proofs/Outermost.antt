-- The same readers where they stand in no parentheses.
use Rattle.std.proofs.Common.{◌≡◌, ℕ, zero, suc, ◌==◌, if◌then◌else◌, List, [], ◌∷◌, Some, None, slice_get}
use Rattle.vital_grammar.specs.Grammar.{grammar}
use Rattle.vital_grammar.specs.RuleNumbers as s
use Rattle.vital_ll.specs.declared.grammar.Sym.TheVariants.{Token as Word, Rule}
use Rattle.vital_lex.specs.declared.token_list.Token.{Token}
use Rattle.vital_nodes.specs.Nodes as nodes
use Rattle.vital_shapes.specs.Reading.{◌>>=◌, ◌>>◌, pure, skip}
use Rattle.vital_shapes.specs.Expressions.{items_within, items, expression, name, suffix_list, names, optional_value}
use Rattle.vital_shapes.proofs.Along.{Source, Along, stay, led, Whole, one, Each-along, each_joined, All-along}
use Rattle.vital_shapes.proofs.Expressions.{item_list_takes, expr_takes, reference_takes, suffixes_take}
use Rattle.vital_shapes.proofs.Lists.{separated_take}
use Rattle.vital_shapes.proofs.Rules as rules
use Rattle.vital_shapes.proofs.Steps.{◌&◌, choose, none_left, told_left, token_first}
use Rattle.vital_shapes.proofs.Takes.{Takes, followed, gives, claiming}

pub items_within_take : (o : Source) (n : ℕ) (ts : List Token) → Takes o n (s.items ∷ []) ts (items_within n) (λ found us. Along o ts (nodes.items found) us)
unfolding items_within
items_within_take o zero ts = none_left
items_within_take o (suc n) ts = item_list_takes o n (items_within n) (items_within_take o n)

pub items_take : {o : Source} {n : ℕ} {ts : List Token} → Takes o n (s.items ∷ []) ts items (λ found us. Along o ts (nodes.items found) us)
items_take {o} {n} {ts} = told_left (λ m few. items_within_take o m ts)

pub expression_takes : {o : Source} {n : ℕ} {ts : List Token} → Takes o n (s.expr ∷ []) ts expression (λ x us. Whole o ts (nodes.Expression x) us)
expression_takes {o} = told_left (λ m few. expr_takes o m (items_within m) (items_within_take o m))

pub name_takes : {o : Source} {n : ℕ} {ts : List Token} → Takes o n (s.name ∷ []) ts name (λ x us. Whole o ts (nodes.Name x) us)
name_takes {o} = told_left (λ m few. reference_takes o m (items_within m) (items_within_take o m))

pub suffix_list_takes : {o : Source} {n : ℕ} {ts : List Token} → Takes o n (s.suffixes ∷ []) ts suffix_list (All-along o nodes.parts_of_suffix ts)
suffix_list_takes {o} = told_left (λ m few. suffixes_take o m (items_within m) (items_within_take o m))

pub names_take : {o : Source} {n : ℕ} {ts : List Token} → Takes o n (s.name ∷ s.more_names ∷ []) ts names (λ found us. Along o ts (nodes.names found) us)
unfolding names
names_take {o} = separated_take 2 (Each-along o (λ x. nodes.Name x)) (each_joined (λ x. nodes.Name x)) (λ us ws vs x a b. led a b) rules.more_names_is
    (λ us. claiming name_takes (λ x ws w. one w))

pub optional_value_takes : {o : Source} {n k : ℕ} {ts : List Token} (r : ℕ) → slice_get grammar r ≡ Some ([] ∷ (Word k ∷ s.expr ∷ []) ∷ []) →
    Takes o n (Rule r ∷ []) ts optional_value (λ x us. Along o ts (nodes.expression_if_there x) us)
unfolding optional_value
optional_value_takes r known = choose r (λ c. if c == 0 then pure None else (skip >> (expression >>= λ x. pure (Some x)))) known
    (gives None stay
    & token_first (λ us a. followed expression_takes (λ x ws w. gives (Some x) (led a (one w))))
    & tt)
