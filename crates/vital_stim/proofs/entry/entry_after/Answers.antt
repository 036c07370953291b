use Rattle.vital_stim.proofs.EntryLemmas.{falls}
use Rattle.vital_stim.specs.Parts.{fields_of}
use Rattle.vital_stim.proofs.entry.entry_after.Goals as goal

pub returns-then-entry-latest : goal.returns-then-entry-latest
returns-then-entry-latest c = falls c.args.latest (fields_of c.args.line.now) c.in_ok-entry.entry _ c.in_ok-entry.ensures c.if-entry-latest.true c.first_fault.ensures
