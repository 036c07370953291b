-- What is answered to a network that is run with stimuli.
use Rattle.std.specs.Prelude.{ℕ, ◌≡◌, List, ◌++◌}
use Rattle.vital_kernel.specs.Lines.{run_lines}
use Rattle.vital_kernel.specs.Runs.{DeltaPassed, End, Ended, IsWholeRun, Run}
use Rattle.vital_kernel.specs.Networks.{Network}
use Rattle.vital_report.specs.Lines.{Said, bytes_of, end, refused_delta, text_of, version}
use Rattle.vital_stim.specs.declared.stimuli.StimLine.{StimLine}
use Rattle.vital_answers.specs.Answer.{Answer}
use Rattle.vital_answers.specs.declared.status.Status.TheVariants.{DeltaLimit, Done}

-- The text of a run of which these lines are told, and then this one.
abbrev pub run_text : List Said → Said → List ℕ
run_text lines last = bytes_of version ++ text_of lines ++ bytes_of last

-- A run ends at its end time; or a cycle would begin whose delta number is the limit.
abbrev pub run_answer : ℕ → ℕ → List Said → End → Answer
run_answer until limit lines Ended = record { bytes = run_text lines (end until); status = Done }
run_answer until limit lines (DeltaPassed time) = record { bytes = run_text lines (refused_delta time limit); status = DeltaLimit }

-- What is answered to a network with stimuli, up to an end time, with a limit of delta numbers: what is told of its run.
abbrev pub IsRunAnswer : Network → List StimLine → ℕ → ℕ → Answer → Type 0
IsRunAnswer n lines until limit answer =
    (r : Run) × IsWholeRun n lines until limit r × (answer ≡ run_answer until limit (run_lines n r.happened) r.end)
