use Rattle.vital_vhdl.proofs.Answered.{one_of_text}
use Rattle.vital_vhdl.proofs.laws.one_reading.Goals as goal

pub returns : goal.returns
returns c file role text room =
    one_of_text file role text room (c.one_outcome.ensures text room) (λ tokens tree. c.file_is_read.ensures.shaped file text tokens tree) c.one_reading.ensures
