use Rattle.std.proofs.Common.{List, append_assoc, ◌≡◌, ◌++◌, ◌∷◌, [], get_or, slice_get, Some, None, true, false, sym, ◌∙◌, ap, subst, arith, rules}
use Rattle.std.proofs.lemmas.Option.{slice_get-get_or}
use Rattle.std.proofs.lemmas.List.Elements.{All-nil, All-same}
use Rattle.vital_ll.specs.declared.grammar.Sym.{Sym}
use Rattle.vital_ll.specs.declared.derivation.Step.{Step}
use Rattle.vital_ll.specs.Pending.{IsFilled, symbols_of}
use Rattle.vital_ll.specs.Sentence.{IsTreeOf}
use Rattle.vital_ll.specs.Expansion.{steps_in, symbols_in}
use Rattle.vital_ll.specs.Table.{IsColumn}
use Rattle.vital_ll.proofs.Columns.{column_size, expansion_is, no_expansion, same_bit}
use Rattle.vital_ll.proofs.Parsing.{parsing_start, rule_there, refused_token, take_token, refused_rule, expand_first, refused_end, all_read}
use Rattle.vital_ll.proofs.reading.parse.Goals as goal

pub loop-symbol-init : goal.loop-symbol-init
loop-symbol-init c = (
  parsing_start c.args.rules.now c.args.kinds.now (symbols_of c.as_slice-left.result.now c.new-stack.result.items) c.new-steps.result.items c.table-table.ensures.well_formed (search rules) c.new-steps.ensures.items,
  subst (λ t. IsColumn c.table-table.result.now.columns.items t c.column-column.result.now) c.token_at.ensures c.column-column.ensures,
  All-same IsFilled c.new-stack.result.items [] c.new-stack.ensures.items (All-nil IsFilled),
)

pub returns-then-not-is_kind-clause-refused : goal.returns-then-not-is_kind-clause-refused
returns-then-not-is_kind-clause-refused c =
    refused_token c.args.rules.now c.args.kinds.now c.loop-symbol.taken (symbols_of c.loop-symbol.left.now c.loop-symbol.stack.items) (symbols_of c.next.new.left.now c.next.new.stack.items) c.in-Token.kind c.loop-symbol.steps.items c.loop-symbol.invariant.0
    (c.in-Some.ensures.taken ∙ ap (λ (s : Sym). s ∷ symbols_of c.next.new.left.now c.next.new.stack.items) c.in-Token.is)
    (λ (e : slice_get c.args.kinds.now c.loop-symbol.taken ≡ Some c.in-Token.kind).
    let yes : c.is_kind.result ≡ true = c.is_kind.ensures.1 (c.token_at-in-Token.ensures ∙ e) in let no : c.is_kind.result ≡ false = c.if-not-is_kind.true in cc)

pub loop-symbol-preserved-in-Token : goal.loop-symbol-preserved-in-Token
loop-symbol-preserved-in-Token c = (
  take_token c.args.rules.now c.args.kinds.now c.loop-symbol.taken (symbols_of c.loop-symbol.left.now c.loop-symbol.stack.items) (symbols_of c.next.new.left.now c.next.new.stack.items) c.in-Token.kind c.loop-symbol.steps.items c.loop-symbol.invariant.0
      (c.in-Some.ensures.taken ∙ ap (λ (s : Sym). s ∷ symbols_of c.next.new.left.now c.next.new.stack.items) c.in-Token.is)
      (sym c.token_at-in-Token.ensures ∙ c.is_kind.ensures.0 c.if-not-is_kind.false),
  subst (λ t. IsColumn c.table-table.result.now.columns.items t c.column-column-in-Token.result.now) c.token_at-in-Token-2.ensures c.column-column-in-Token.ensures,
  c.in-Some.ensures.filled,
)

pub bounds : goal.bounds
bounds c =
    let there = rule_there c.args.rules.now c.args.kinds.now c.loop-symbol.taken (symbols_of c.loop-symbol.left.now c.loop-symbol.stack.items) (symbols_of c.next.new.left.now c.next.new.stack.items) c.in-Rule.rule c.loop-symbol.steps.items c.loop-symbol.invariant.0
    (c.in-Some.ensures.taken ∙ ap (λ (s : Sym). s ∷ symbols_of c.next.new.left.now c.next.new.stack.items) c.in-Rule.is) in
    let size = column_size c.args.rules.now c.table-table.result.now (slice_get c.args.kinds.now c.loop-symbol.taken) c.loop-symbol.column.now c.table-table.ensures c.loop-symbol.invariant.1 in
    omega (arith, c.from.ensures)

pub returns-in_default-column-clause-refused : goal.returns-in_default-column-clause-refused
returns-in_default-column-clause-refused c =
    let table = c.table-table.result.now in
    refused_rule c.args.rules.now c.args.kinds.now c.loop-symbol.taken (symbols_of c.loop-symbol.left.now c.loop-symbol.stack.items) (symbols_of c.next.new.left.now c.next.new.stack.items) c.in-Rule.rule c.loop-symbol.steps.items c.loop-symbol.invariant.0
    (c.in-Some.ensures.taken ∙ ap (λ (s : Sym). s ∷ symbols_of c.next.new.left.now c.next.new.stack.items) c.in-Rule.is)
    (no_expansion c.args.rules.now table (slice_get c.args.kinds.now c.loop-symbol.taken) c.in-Rule.rule c.loop-symbol.column.now (get_or c.loop-symbol.column.now c.from.result None) c.table-table.ensures c.loop-symbol.invariant.1
    (ap (λ k. get_or c.loop-symbol.column.now k None) c.from.ensures) (λ e h. c.in_default-column.not-Some e h))

pub more-requires : goal.more-requires
more-requires c =
    (expansion_is c.args.rules.now c.table-table.result.now (slice_get c.args.kinds.now c.loop-symbol.taken) c.in-Rule.rule c.loop-symbol.column.now c.in-Some-column.expansion c.table-table.ensures c.loop-symbol.invariant.1
    (ap (λ k. get_or c.loop-symbol.column.now k None) (sym c.from.ensures) ∙ c.in-Some-column.is)).inside

pub symbols-requires : goal.symbols-requires
symbols-requires c =
    (expansion_is c.args.rules.now c.table-table.result.now (slice_get c.args.kinds.now c.loop-symbol.taken) c.in-Rule.rule c.loop-symbol.column.now c.in-Some-column.expansion c.table-table.ensures c.loop-symbol.invariant.1
    (ap (λ k. get_or c.loop-symbol.column.now k None) (sym c.from.ensures) ∙ c.in-Some-column.is)).inside

pub loop-symbol-preserved : goal.loop-symbol-preserved
loop-symbol-preserved c =
    let g = c.args.rules.now in
    let table = c.table-table.result.now in
    let t = slice_get c.args.kinds.now c.loop-symbol.taken in
    let column = c.loop-symbol.column.now in
    let expansion = c.in-Some-column.expansion in
    let new = symbols_of c.next.new.left.now c.next.new.stack.items in
    let is = expansion_is g table t c.in-Rule.rule column expansion c.table-table.ensures c.loop-symbol.invariant.1 (ap (λ k. get_or column k None) (sym c.from.ensures) ∙ c.in-Some-column.is) in (
      expand_first g c.args.kinds.now c.loop-symbol.taken c.in-Rule.rule c.loop-symbol.invariant.1.bit (symbols_of c.loop-symbol.left.now c.loop-symbol.stack.items) new (symbols_in table.expansions expansion) (symbols_of c.push-in-Rule.new.left.now c.push-in-Rule.new.stack.items)
          c.loop-symbol.steps.items (steps_in table.expansions expansion) c.append.new.steps.items c.loop-symbol.invariant.0
          (c.in-Some.ensures.taken ∙ ap (λ (s : Sym). s ∷ new) c.in-Rule.is)
          (same_bit g table t column c.table-table.ensures c.loop-symbol.invariant.1) is.expands
          (c.in_ok-push-in-Rule-2.ensures.pushed ∙ ap (λ (l : List Sym). l ++ new) c.symbols.ensures)
          (c.in_ok-append-in-Rule.ensures ∙ ap (λ (l : List Step). l ++ c.more.result.now) c.in_ok-push-in-Rule.ensures.items ∙ append_assoc c.loop-symbol.steps.items (expansion.step ∷ []) c.more.result.now
          ∙ ap (λ (l : List Step). c.loop-symbol.steps.items ++ expansion.step ∷ l) c.more.ensures),
      c.loop-symbol.invariant.1,
      c.in_ok-push-in-Rule-2.ensures.filled,
    )

pub returns-then-taken-kinds-clause-refused : goal.returns-then-taken-kinds-clause-refused
returns-then-taken-kinds-clause-refused c =
    refused_end c.args.rules.now c.args.kinds.now c.loop-symbol.taken (symbols_of c.loop-symbol.left.now c.loop-symbol.stack.items) c.loop-symbol.steps.items c.loop-symbol.invariant.0 c.in_default.ensures.taken
    (λ (none : slice_get c.args.kinds.now c.loop-symbol.taken ≡ None). let is = slice_get-get_or c.args.kinds.now c.loop-symbol.taken 0 c.if-taken-kinds.true in cc)

pub returns-clause-tree : goal.returns-clause-tree
returns-clause-tree c =
    let d = all_read c.args.rules.now c.args.kinds.now c.loop-symbol.taken (symbols_of c.loop-symbol.left.now c.loop-symbol.stack.items) c.loop-symbol.steps.items c.loop-symbol.invariant.0 c.in_default.ensures.taken (omega arith) in
    subst (IsTreeOf c.args.rules.now c.args.kinds.now) (sym c.from_vec.ensures) d.0

pub returns-clause-only : goal.returns-clause-only
returns-clause-only c =
    let d = all_read c.args.rules.now c.args.kinds.now c.loop-symbol.taken (symbols_of c.loop-symbol.left.now c.loop-symbol.stack.items) c.loop-symbol.steps.items c.loop-symbol.invariant.0 c.in_default.ensures.taken (omega arith) in
    λ other t. d.1 other t ∙ sym c.from_vec.ensures
