use Rattle.vital_sdf.proofs.Answered.{one_of_text}
use Rattle.vital_sdf.proofs.laws.one_reading.Goals as goal

pub returns : goal.returns
returns c file text room = one_of_text file text room (c.one_outcome.ensures text room) c.one_reading.ensures
