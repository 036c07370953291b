use Rattle.std.proofs.Common.{Err, rules}
use Rattle.vital_shapes.specs.Reading.{more_lists}
use Rattle.vital_vhdl.specs.Reads.{Reads}
use Rattle.vital_vhdl.proofs.Turns.{ends, adds, fails_as}
use Rattle.vital_vhdl.proofs.readers.lists.fold.Goals as goal

pub returns-then-alternative-eq0 : goal.returns-then-alternative-eq0
returns-then-alternative-eq0 g c item by = ends (c.loop-turn.invariant item by) c.loop-turn-test.true c.choice-alternative.ensures c.if-alternative-eq0.true

pub returns-in_err-found : goal.returns-in_err-found
returns-in_err-found g c item by =
    let answered : Reads (more_lists item c.args.found c.args.cursor.now) (Err c.in_err-found.field-0.0) c.add.new.arg2 =
    fails_as c.in_err-found.field-0.0 c.add.new.arg2 (c.loop-turn.invariant item by) c.loop-turn-test.true c.choice-alternative.ensures c.if-alternative-eq0.false (by.adds _ _ _ _ _ c.in_err-found.ensures) in
    search rules

pub loop-turn-preserved : goal.loop-turn-preserved
loop-turn-preserved g c item by =
    adds (c.loop-turn.invariant item by) c.loop-turn-test.true c.choice-alternative.ensures c.if-alternative-eq0.false (by.adds _ _ _ _ _ c.in_ok-found.ensures)
