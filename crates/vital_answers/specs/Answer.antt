-- Answers: the bytes that are written, and the status. A refusal ends one.
use Rattle.std.specs.Prelude.{ℕ, List, [], ◌++◌, Result, Ok, Err}
use Rattle.vital_report.specs.Lines.{Said, bytes_of, text_of}
use Rattle.vital_answers.specs.declared.status.Status.{Status}
use Rattle.vital_answers.specs.declared.status.Status.TheVariants.{Done, ReadFault}

pub record Answer : Type 0 where
  pub bytes : List ℕ
  pub status : Status

-- Going on with what a stage gives, unless a refusal ended it.
infixl 10 ◌>>=◌
abbrev pub ◌>>=◌ : {A B E : Type 0} → Result A E → (A → Result B E) → Result B E
(Ok x) >>= f = f x
(Err refusal) >>= f = Err refusal

-- A refusal is one line, and ends the answer.
abbrev pub refused : Said → Status → Answer
refused line status = record { bytes = bytes_of line; status = status }

-- A file that isn't there: nothing is written.
abbrev pub not_there : Answer
not_there = record { bytes = []; status = ReadFault }

-- Nothing is written, and all is well.
abbrev pub nothing_told : Answer
nothing_told = record { bytes = []; status = Done }

-- Lines, and then an answer.
abbrev pub before : List Said → Answer → Answer
before lines answer = record { bytes = text_of lines ++ answer.bytes; status = answer.status }
