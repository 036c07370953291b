use Rattle.std.proofs.Common.{arith}
use Rattle.vital_sdf.proofs.Closing.{opens, closes, stops, passes, ends}
use Rattle.vital_sdf.proofs.cursor.closing.Goals as goal
use Rattle.vital_sdf.proofs.cursor.closing.Goals.{then-token-eq-LEFT_PARENTHESIS, else-token-eq-LEFT_PARENTHESIS+then-token-eq-RIGHT_PARENTHESIS+else-depth-eq0, else-token-eq-LEFT_PARENTHESIS+else-token-eq-RIGHT_PARENTHESIS}

pub loop-at-preserved : goal.loop-at-preserved
loop-at-preserved c =
    let tokens = c.args.tokens.now in
    let at = c.loop-at.at in
    let depth = c.loop-at.depth in
    let below = c.loop-at-test.true in
    elim c.if-token-eq-LEFT_PARENTHESIS.branch [
      | then-token-eq-LEFT_PARENTHESIS w ↦ (let step = opens tokens at depth _ below w.if-token-eq-LEFT_PARENTHESIS.true in record { passed = rw w.depth-is (omega arith); few = omega arith })
      | else-token-eq-LEFT_PARENTHESIS+then-token-eq-RIGHT_PARENTHESIS+else-depth-eq0 w ↦
          (let step = closes tokens at depth _ below w.if-token-eq-RIGHT_PARENTHESIS.true w.if-depth-eq0.false in record { passed = rw w.depth-is (omega arith); few = omega arith })
      | else-token-eq-LEFT_PARENTHESIS+else-token-eq-RIGHT_PARENTHESIS w ↦
          (let step = passes tokens at depth _ below w.if-token-eq-LEFT_PARENTHESIS.false w.if-token-eq-RIGHT_PARENTHESIS.false in record { passed = rw w.depth-is (omega arith); few = omega arith })
    ]

pub returns-then-depth-eq0 : goal.returns-then-depth-eq0
returns-then-depth-eq0 c =
    let step = stops c.args.tokens.now c.loop-at.at c.loop-at.depth _ c.loop-at-test.true c.if-token-eq-RIGHT_PARENTHESIS.true c.if-depth-eq0.true in omega arith

pub returns : goal.returns
returns c = let step = ends c.args.tokens.now c.loop-at.at c.loop-at.depth (omega arith) in omega arith
