use Rattle.vital_timing_checks.proofs.Times.{kept_later}
use Rattle.vital_timing_checks.proofs.timing_data.TimingData.step.Goals as goal

pub returns-clause-times : goal.returns-clause-times
returns-clause-times c =
    λ later le. kept_later c.closed.result c.args.now later (c.closed.ensures.times c.args.now c.noted-next.ensures.times) le
