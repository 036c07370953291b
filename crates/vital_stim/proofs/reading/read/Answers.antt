use Rattle.std.proofs.Common.{◌∙◌, sym, length, arith}
use Rattle.std.proofs.lemmas.Iterator.Consumers.{YieldsList-at, YieldsList-from_first, YieldsList-turn, YieldsList-end}
use Rattle.std.proofs.lemmas.List.{length_push}
use Rattle.vital_stim.specs.Parts.{lines_of, fields_of}
use Rattle.vital_stim.specs.Stimuli.{lent}
use Rattle.vital_stim.proofs.EntryLemmas.{told_of, fails_before}
use Rattle.vital_stim.proofs.Progress.{next_is, is_small, passes, takes, fails, ends}
use Rattle.vital_stim.proofs.reading.read.Goals as goal

pub overflow_add-number : goal.overflow_add-number
overflow_add-number c =
    let turn = YieldsList-turn (YieldsList-at c.into_iter-line-iterator.ensures.into_iter_gives (YieldsList-from_first (λ x. x.now) (λ lines. lines) (lines_of c.args.text.now) c.new-line-items.ensures)) c.loop-line.yielded _ c.loop-line.yielded_by _ _ c.in-Some.line c.in-Some.is c.next.ensures.steps in
    let next = next_is c.args.text.now (length c.loop-line.yielded) c.in-Some.line.now turn in
    omega (arith, is_small _ _ _ _ _ _ _ c.loop-line.invariant next c.requires.short)

pub loop-line-preserved-then-is_passed_over : goal.loop-line-preserved-then-is_passed_over
loop-line-preserved-then-is_passed_over c =
    let turn = YieldsList-turn (YieldsList-at c.into_iter-line-iterator.ensures.into_iter_gives (YieldsList-from_first (λ x. x.now) (λ lines. lines) (lines_of c.args.text.now) c.new-line-items.ensures)) c.loop-line.yielded _ c.loop-line.yielded_by _ _ c.in-Some.line c.in-Some.is c.next.ensures.steps in
    let next = next_is c.args.text.now (length c.loop-line.yielded) c.in-Some.line.now turn in
    rw length_push (passes _ _ _ _ _ _ _ c.loop-line.invariant next (sym c.is_passed_over.ensures ∙ c.if-is_passed_over.true))

pub loop-line-preserved : goal.loop-line-preserved
loop-line-preserved c =
    let turn = YieldsList-turn (YieldsList-at c.into_iter-line-iterator.ensures.into_iter_gives (YieldsList-from_first (λ x. x.now) (λ lines. lines) (lines_of c.args.text.now) c.new-line-items.ensures)) c.loop-line.yielded _ c.loop-line.yielded_by _ _ c.in-Some.line c.in-Some.is c.next.ensures.steps in
    let next = next_is c.args.text.now (length c.loop-line.yielded) c.in-Some.line.now turn in
    let given = lent c.args.ports in
    let so = c.loop-line.invariant in
    let told = told_of given c.in-Ok.entry c.loop-line.latest (fields_of c.in-Some.line.now) _ _ c.in-Ok.ensures (c.in_ok-push-in-Ok.ensures.told given so.stimuli so.held) c.in-Ok-2.is in
    let held = rw c.in-Ok-2.is at c.in_ok-push-in-Ok.ensures.held in
    rw length_push (takes _ _ _ _ _ _ _ _ _ so next (sym c.is_passed_over.ensures ∙ c.if-is_passed_over.false) told (held given) c.in_ok-push-in-Ok.ensures.count)

pub returns-in-Err-2 : goal.returns-in-Err-2
returns-in-Err-2 c =
    let turn = YieldsList-turn (YieldsList-at c.into_iter-line-iterator.ensures.into_iter_gives (YieldsList-from_first (λ x. x.now) (λ lines. lines) (lines_of c.args.text.now) c.new-line-items.ensures)) c.loop-line.yielded _ c.loop-line.yielded_by _ _ c.in-Some.line c.in-Some.is c.next.ensures.steps in
    let next = next_is c.args.text.now (length c.loop-line.yielded) c.in-Some.line.now turn in
    let given = lent c.args.ports in
    let so = c.loop-line.invariant in
    let told = told_of given c.in-Ok.entry c.loop-line.latest (fields_of c.in-Some.line.now) _ _ c.in-Ok.ensures (c.in_ok-push-in-Ok.ensures.told given so.stimuli so.held) c.in-Err-2.is in
    fails _ _ _ _ _ _ _ _ so next (sym c.is_passed_over.ensures ∙ c.if-is_passed_over.false) told

pub returns-in-Err : goal.returns-in-Err
returns-in-Err c =
    let turn = YieldsList-turn (YieldsList-at c.into_iter-line-iterator.ensures.into_iter_gives (YieldsList-from_first (λ x. x.now) (λ lines. lines) (lines_of c.args.text.now) c.new-line-items.ensures)) c.loop-line.yielded _ c.loop-line.yielded_by _ _ c.in-Some.line c.in-Some.is c.next.ensures.steps in
    let next = next_is c.args.text.now (length c.loop-line.yielded) c.in-Some.line.now turn in
    let told = fails_before (lent c.args.ports) c.loop-line.latest (fields_of c.in-Some.line.now) _ c.in-Err.ensures in
    fails _ _ _ _ _ _ _ _ c.loop-line.invariant next (sym c.is_passed_over.ensures ∙ c.if-is_passed_over.false) told

pub returns : goal.returns
returns c =
    let end = YieldsList-end (YieldsList-at c.into_iter-line-iterator.ensures.into_iter_gives (YieldsList-from_first (λ x. x.now) (λ lines. lines) (lines_of c.args.text.now) c.new-line-items.ensures)) c.loop-line.yielded _ c.loop-line.yielded_by _ _ c.in-None.is c.next.ensures.steps in
    ends _ _ _ _ _ _ _ c.loop-line.invariant end.1 (c.in_ok-build.ensures (lent c.args.ports) c.loop-line.invariant.stimuli c.loop-line.invariant.held)
