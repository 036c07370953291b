use Rattle.std.proofs.Common.{◌+◌, length, sym, subst, rules, arith}
use Rattle.vital_ll.specs.Conflict.{IsConflict}
use Rattle.vital_ll.proofs.Entries.{AreTableRows, table_more, conflict_first, has_rows, predictive}
use Rattle.vital_ll.proofs.blocks.Analysis.all_rows.Goals as goal

pub returns-in_err-rows-clause-conflict : goal.returns-in_err-rows-clause-conflict
returns-in_err-rows-clause-conflict c =
    let g = c.args.self.now.rules.now in
    let conflict : IsConflict g c.in_err-rows.field-0.0 = conflict_first g (length c.args.blocks.now) c.loop-rule.rule c.loop-rule.all.items c.in_err-rows.field-0.0 c.requires.within c.loop-rule.invariant c.in_err-rows.ensures.conflict in
    search rules

pub loop-rule-preserved : goal.loop-rule-preserved
loop-rule-preserved c =
    let a = c.args.self.now in
    subst (AreTableRows a.rules.now (length c.args.blocks.now) (c.loop-rule.rule + 1)) (sym c.in_ok-push.ensures.items)
    (table_more a.rules.now (length c.args.blocks.now) c.loop-rule.rule c.loop-rule.all.items c.in_ok-rows.field-0 c.in_ok-rows.ensures.rows c.loop-rule.invariant)

pub returns-clause-rows : goal.returns-clause-rows
returns-clause-rows c =
    has_rows c.args.self.now.rules.now (length c.args.blocks.now) c.loop-rule.rule c.loop-rule.all.items c.requires.within (omega arith) c.loop-rule.invariant

pub returns-clause-predictive : goal.returns-clause-predictive
returns-clause-predictive c =
    predictive c.args.self.now.rules.now (length c.args.blocks.now) c.loop-rule.rule c.loop-rule.all.items c.requires.within (omega arith) c.loop-rule.invariant
