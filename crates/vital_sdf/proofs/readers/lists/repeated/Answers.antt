use Rattle.std.proofs.Common.{Err, sym, ◌∙◌, rules}
use Rattle.vital_sdf.specs.Reading.{repeated}
use Rattle.vital_sdf.specs.Reads.{Reads}
use Rattle.vital_sdf.proofs.Turns.{ends, makes, fails_as, runs_out}
use Rattle.vital_sdf.proofs.readers.lists.repeated.Goals as goal

pub returns-then-kind-ne-LEFT_PARENTHESIS : goal.returns-then-kind-ne-LEFT_PARENTHESIS
returns-then-kind-ne-LEFT_PARENTHESIS g c reader by =
    ends (c.loop-turn.invariant reader by) c.loop-turn-test.true (λ opens. c.if-kind-ne-LEFT_PARENTHESIS.true (c.kind.ensures ∙ opens))

pub returns-in_err-made : goal.returns-in_err-made
returns-in_err-made g c reader by =
    let answered : Reads (repeated reader c.args.made c.args.cursor.now) (Err c.in_err-made.field-0.0) c.item.new.arg2 =
    fails_as c.in_err-made.field-0.0 c.item.new.arg2 (c.loop-turn.invariant reader by) c.loop-turn-test.true (sym c.kind.ensures ∙ c.if-kind-ne-LEFT_PARENTHESIS.false) c.skip.ensures
    (by.makes _ _ _ _ c.in_err-made.ensures) in
    search rules

pub loop-turn-preserved : goal.loop-turn-preserved
loop-turn-preserved g c reader by =
    makes (c.loop-turn.invariant reader by) c.loop-turn-test.true (sym c.kind.ensures ∙ c.if-kind-ne-LEFT_PARENTHESIS.false) c.skip.ensures (by.makes _ _ _ _ c.in_ok-made.ensures)
    c.skip-in-loop-turn.ensures

pub returns : goal.returns
returns g c reader by = runs_out (c.loop-turn.invariant reader by) c.loop-turn-test.false
