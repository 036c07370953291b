use Rattle.vital_ll.proofs.Readings.{one_reading_by_tables}
use Rattle.vital_ll.proofs.laws.one_reading.Goals as goal

pub returns : goal.returns
returns c = one_reading_by_tables
