use Rattle.std.proofs.Common.{arith}
use Rattle.vital_calls.specs.Formals as all_formals
use Rattle.vital_expr.specs.Seen.{lent}
use Rattle.vital_typed_statements.specs.Given.{given_by}
use Rattle.vital_typed_statements.proofs.GivenLemmas.{all_more, broken_more, typed_more}
use Rattle.vital_typed_statements.proofs.given.read_all_given.Goals as goal

pub loop-position-preserved : goal.loop-position-preserved
loop-position-preserved c =
    let by = given_by (lent c.args.reader.now) (all_formals.lent c.args.formals) in
    let i = c.loop-position.position in
    record {
      given = typed_more by c.args.items.now i c.index-items-position.result c.loop-position.given.given.items c.put_given.new.given.given.items (omega arith) c.index-items-position.is c.loop-position.invariant.given c.in_ok-put_given.ensures.given;
      all = all_more by c.args.items.now i c.index-items-position.result c.loop-position.given.are_all c.put_given.new.given.are_all (omega arith) c.index-items-position.is c.loop-position.invariant.all c.in_ok-put_given.ensures.all;
      places = broken_more by c.args.items.now i c.index-items-position.result c.args.broken.now.items c.loop-position.broken.items c.put_given.new.broken.items (omega arith) c.index-items-position.is c.loop-position.invariant.places c.in_ok-put_given.ensures.places;
    }
