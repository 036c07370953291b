use Rattle.std.proofs.Common.{◌≡◌, ◌+◌, ◌-◌, ◌*◌, ◌<◌, [], length, get_or, None, sym, ap, subst, ◌∙◌, arith}
use Rattle.std.proofs.lemmas.List.{get_or_read}
use Rattle.vital_ll.specs.Expansion.{AreExpansions}
use Rattle.vital_ll.specs.Table.{entry_at, IsColumnFrom}
use Rattle.vital_ll.proofs.Columns.{column_start, column_without, column_with, decided}
use Rattle.vital_ll.proofs.Expanding.{longer_self, longer_both}
use Rattle.vital_ll.proofs.table.make_column.Goals as goal

pub loop-rule-init : goal.loop-rule-init
loop-rule-init c = record {
  below = omega arith;
  kept = longer_self c.args.expansions.now;
  column = column_start c.args.rules.now c.args.bit (length c.args.rows.now) c.args.expansions.now c.in_ok-column.column.items c.requires.rows.1.size (c.in_ok-column.ensures.items ∙ c.requires.none);
}

pub at-requires : goal.at-requires
at-requires c =
    let r = c.loop-rule.rule - 1 in
    let rows_are = c.requires.rows.1 in
    let rows = get_or_read c.args.rows.now r c.index-rows-rule.result (omega arith) c.index-rows-rule.is [] in
    let size = rows_are.sizes r (let n = rows_are.size in omega arith) in
    subst (λ l. c.args.bit < 128 * length l) (sym rows) (let low = c.requires.rows.2 in omega arith)

pub push-requires-clause-there : goal.push-requires-clause-there
push-requires-clause-there c =
    let r = c.loop-rule.rule - 1 in
    let rows = get_or_read c.args.rows.now r c.index-rows-rule.result (omega arith) c.index-rows-rule.is [] in
    let rows_are = c.requires.rows.1 in
    rows_are.there r c.args.bit c.in-Some.alternative (let n = rows_are.size in omega arith) (ap (λ l. entry_at l c.args.bit) (sym rows) ∙ sym c.at.ensures ∙ c.in-Some.is)

pub push-requires-clause-inside : goal.push-requires-clause-inside
push-requires-clause-inside c = λ r expansion at.
    (c.loop-rule.invariant.column.are_expansions r expansion (ap (λ l. get_or l r None) (sym c.deref.ensures.value) ∙ at)).inside

pub loop-rule-preserved-in-Some : goal.loop-rule-preserved-in-Some
loop-rule-preserved-in-Some c =
    let g = c.args.rules.now in
    let bit = c.args.bit in
    let r = c.loop-rule.rule - 1 in
    let old = c.loop-rule.expansions in
    let new = c.push.new.self in
    let before = c.loop-rule.invariant in
    let rows_are = c.requires.rows.1 in
    let rows = get_or_read c.args.rows.now r c.index-rows-rule.result (omega arith) c.index-rows-rule.is [] in
    let is = c.in_ok-push.ensures.expansion bit
    (subst (AreExpansions g bit old) (sym c.deref.ensures.value) before.column.are_expansions)
    (decided g c.requires.rows.0 bit r c.in-Some.alternative c.args.rows.now rows_are (ap (λ l. entry_at l bit) (sym rows) ∙ sym c.at.ensures ∙ c.in-Some.is)) in
    record {
      below = omega arith;
      kept = longer_both c.args.expansions.now old new before.kept c.in_ok-push.ensures.kept;
      column = column_with g bit r old new c.in_ok-push.field-0 c.loop-rule.column.items (let n = rows_are.size in omega arith) c.in_ok-push.ensures.kept is
          (subst (λ n. IsColumnFrom g bit old n c.loop-rule.column.items) (let e : c.loop-rule.rule ≡ r + 1 = omega arith in e) before.column);
    }

pub loop-rule-preserved : goal.loop-rule-preserved
loop-rule-preserved c =
    let r = c.loop-rule.rule - 1 in
    let before = c.loop-rule.invariant in
    let rows = get_or_read c.args.rows.now r c.index-rows-rule.result (omega arith) c.index-rows-rule.is [] in
    record {
      below = omega arith;
      kept = before.kept;
      column = column_without c.args.rules.now c.requires.rows.0 c.args.bit r c.args.rows.now c.loop-rule.expansions c.loop-rule.column.items c.requires.rows.1
          (ap (λ l. entry_at l c.args.bit) (sym rows) ∙ sym c.at.ensures ∙ c.in_default.is)
          (subst (λ n. IsColumnFrom c.args.rules.now c.args.bit c.loop-rule.expansions n c.loop-rule.column.items) (let e : c.loop-rule.rule ≡ r + 1 = omega arith in e) before.column);
    }

pub returns-clause-column : goal.returns-clause-column
returns-clause-column c =
    subst (λ n. IsColumnFrom c.args.rules.now c.args.bit c.loop-rule.expansions n c.loop-rule.column.items) (let e : c.loop-rule.rule ≡ 0 = omega arith in e) c.loop-rule.invariant.column
