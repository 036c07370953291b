-- What is answered to the text of a stimulus file: it is read, and then its stimuli run.
use Rattle.std.specs.Prelude.{ℕ, ◌≡◌, List, None, Result, Ok, Err}
use Rattle.vital_kernel.specs.Lines.{run_lines}
use Rattle.vital_kernel.specs.Runs.{Ended, IsWholeRun, Run}
use Rattle.vital_kernel.specs.PortNetworks.{port_network}
use Rattle.vital_report.specs.Lines.{refused_stimulus}
use Rattle.vital_report.specs.declared.why.StimulusWhy.{StimulusWhy}
use Rattle.vital_report.specs.declared.why.StimulusWhy.TheVariants as printed
use Rattle.vital_stim.specs.Stimuli.{stim}
use Rattle.vital_stim.specs.declared.fault.StimFault.{StimFault}
use Rattle.vital_stim.specs.declared.fault.StimWhy.{StimWhy}
use Rattle.vital_stim.specs.declared.fault.StimWhy.TheVariants as why
use Rattle.vital_stim.specs.declared.stimuli.Stimuli.{Stimuli}
use Rattle.vital_answers.specs.Answer.{Answer, refused}
use Rattle.vital_run.specs.Runs.{run_answer}
use Rattle.vital_answers.specs.declared.status.Status.TheVariants.{Stimulus}

-- Why a stimulus file is refused, as it is printed.
abbrev pub printed_why : StimWhy → StimulusWhy
printed_why why.Line = printed.Line
printed_why why.Unit = printed.Unit
printed_why why.Large = printed.Large
printed_why why.Value = printed.Value
printed_why why.Falls = printed.Falls
printed_why why.UnknownPort = printed.UnknownPort
printed_why why.NotInput = printed.NotInput

-- A stimulus file of this name with a fault is refused.
abbrev pub refused_stimuli : List ℕ → StimFault → Answer
refused_stimuli name fault = refused (refused_stimulus (printed_why fault.why) name fault.line) Stimulus

-- What `play` answers to stimuli: what is told of the run of the network of their ports, which ends. No cycle of it has a delta
-- number as large as 1,000.
abbrev pub IsStimuliAnswer : ℕ → Stimuli → Answer → Type 0
IsStimuliAnswer until stimuli answer =
    let n = port_network stimuli.ports in
    (r : Run) × IsWholeRun n stimuli.lines until 1_000 r × (r.end ≡ Ended)
    × (answer ≡ run_answer until 1_000 (run_lines n r.happened) Ended)

-- What `play` answers to what a file of this name was read as.
abbrev pub IsReadStimuliAnswer : List ℕ → ℕ → Result Stimuli StimFault → Answer → Type 0
IsReadStimuliAnswer name until (Ok stimuli) answer = IsStimuliAnswer until stimuli answer
IsReadStimuliAnswer name until (Err fault) answer = answer ≡ refused_stimuli name fault

-- What `play` answers to the text of a file of this name: no ports are given.
abbrev pub IsTextAnswer : List ℕ → ℕ → List ℕ → Answer → Type 0
IsTextAnswer name until text answer = IsReadStimuliAnswer name until (stim text None) answer
