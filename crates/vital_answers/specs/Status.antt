-- The exit status that stands for each way in which a run ends.
use Rattle.std.specs.Prelude.{ℕ}
use Rattle.vital_answers.specs.declared.status.Status.{Status}
use Rattle.vital_answers.specs.declared.status.Status.TheVariants.{Done, Found, Usage, Syntax, Limit, Library, Netlist, Sdf, Stimulus, DeltaLimit, ReadFault, WriteFault, NoMemory}

abbrev pub number_of : Status → ℕ
number_of Done = 0
number_of Found = 1
number_of Usage = 2
number_of Syntax = 3
number_of Limit = 4
number_of Library = 5
number_of Netlist = 6
number_of Sdf = 7
number_of Stimulus = 8
number_of DeltaLimit = 9
number_of ReadFault = 10
number_of WriteFault = 11
number_of NoMemory = 12
