use Rattle.std.proofs.Common.{rules}
use mir.Syntax.{w128}
use Rattle.std.specs.Int.{trailing_zeros}
use Rattle.vital_ll.proofs.Bits.{lowest, cleared}
use Rattle.vital_ll.proofs.Entries.{chosen_more}
use Rattle.vital_ll.proofs.rows.choose.Goals as goal

pub loop-left-smaller : goal.loop-left-smaller
loop-left-smaller c =
    let at = lowest c.loop-left.left (λ e. c.loop-left-test.true e) (search rules) in
    (cleared c.loop-left.left (trailing_zeros w128 c.loop-left.left) at.0 at.1).0

pub loop-left-preserved : goal.loop-left-preserved
loop-left-preserved c =
    let at = lowest c.loop-left.left (λ e. c.loop-left-test.true e) (search rules) in
    chosen_more c.args.choices.now c.args.mask c.args.alternative c.loop-left.left (trailing_zeros w128 c.loop-left.left) _ c.loop-left.choices at.0 at.1
    (cleared c.loop-left.left (trailing_zeros w128 c.loop-left.left) at.0 at.1).1 c.loop-left.invariant
