use Rattle.vital_run.proofs.Driven.{ports_are_driven}
use Rattle.vital_rows.proofs.parts.put_stimuli.Goals as goal

pub put_run-requires-clause-driven : goal.put_run-requires-clause-driven
put_run-requires-clause-driven c =
    ports_are_driven c.in-Ok.network c.args.stimuli c.as_slice-lines.result.now c.in-Ok.ensures c.as_slice-lines.ensures c.requires.fit
