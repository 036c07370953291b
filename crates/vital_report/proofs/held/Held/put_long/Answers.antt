use Rattle.std.proofs.Common.{◌+◌, ◌≡◌, ◌∙◌, length, sym, arith}
use Rattle.vital_report.proofs.Passing.{fault_going, goes_on}
use Rattle.vital_report.proofs.held.Held.put_long.Goals as goal

pub returns-in_err-fill-clause-puts : goal.returns-in_err-fill-clause-puts
returns-in_err-fill-clause-puts g c =
    fault_going c.from_residual.result _ _ _ _ _ _ _ _ _ _ c.from_residual.ensures.0 c.loop-rest.invariant.going
    c.in_err-fill.ensures.fault_appends_prefix (sym c.split_at.ensures.by_index.0)

pub loop-rest-preserved : goal.loop-rest-preserved
loop-rest-preserved g c =
    let full : length c.loop-rest.self + length c.split_at.result.0.now ≡ 4096 = omega (arith, c.room-in-loop-rest.ensures.complements, c.split_at.ensures.front_len) in
    record {
      going = rw c.in_ok-fill.ensures.ok_holds_nothing
          (goes_on _ _ _ _ _ _ _ _ _ c.loop-rest.invariant.going c.in_ok-fill.ensures.ok_writes full (sym c.split_at.ensures.by_index.0));
      same_count = c.in_ok-fill.ensures.counts ∙ c.loop-rest.invariant.same_count;
      keeps_may_stick = λ h. c.in_ok-fill.ensures.keeps_may_stick (c.loop-rest.invariant.keeps_may_stick h);
    }
