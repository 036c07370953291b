-- The answer of `sim`: the run of the design under a top with the delays of SDF files, and with stimuli.
use Rattle.std.specs.Prelude.{◌≡◌, ℕ, List, map, Some, Result, Ok, Err}
use Rattle.vital_annotate.specs.Annotations.{Outcome, annotated}
use Rattle.vital_annotate.specs.declared.note.Note.{Note}
use Rattle.vital_annotate.specs.declared.note.NoteWhy.{NoteWhy}
use Rattle.vital_annotate.specs.declared.note.NoteWhy.TheVariants as why
use Rattle.vital_netlist.specs.Designs.{Design}
use Rattle.vital_kernel.specs.DesignNetworks.{network}
use Rattle.vital_kernel.specs.Networks.{Network}
use Rattle.vital_report.specs.Lines.{Said, note}
use Rattle.vital_report.specs.declared.why.Limit.TheVariants.{Delay as DelayLimit}
use Rattle.vital_report.specs.declared.why.NoteWhy.{NoteWhy as PrintedWhy}
use Rattle.vital_report.specs.declared.why.NoteWhy.TheVariants as printed
use Rattle.vital_sdf.specs.declared.group.SdfFile.{SdfFile}
use Rattle.vital_stim.specs.Stimuli.{stim}
use Rattle.vital_stim.specs.declared.fault.StimFault.{StimFault}
use Rattle.vital_stim.specs.declared.stimuli.StimLine.{StimLine}
use Rattle.vital_stim.specs.declared.stimuli.Stimuli.{Stimuli}
use Rattle.vital_timing.specs.declared.delay.Delay.{Delay}
use Rattle.vital_answers.specs.Answer.{Answer, before}
use Rattle.vital_answers.specs.Refusals.{refused_at, spot_of}
use Rattle.vital_run.specs.Runs.{IsRunAnswer}
use Rattle.vital_run.specs.Stimuli.{refused_stimuli}
use Rattle.vital_answers.specs.declared.refusal.Refusal.TheVariants as refusal
use Rattle.vital_words.specs.declared.job.NamedFile.{NamedFile}
use Rattle.vital_words.specs.declared.job.Sim.{Sim}

-- The network that is run, with delays for the instances of cells.
abbrev pub simulated : Sim → Design → List (List Delay) → List StimLine → Network
simulated sim d values lines = network d values lines sim.watch

-- What `sim` answers to a design with delays and with stimuli, or with a fault of the file of this name that states them.
abbrev pub IsStimulatedAnswer : Sim → List ℕ → Design → List (List Delay) → Result Stimuli StimFault → Answer → Type 0
IsStimulatedAnswer sim name d values (Ok stimuli) answer =
    IsRunAnswer (simulated sim d values stimuli.lines) stimuli.lines sim.until sim.limit answer
IsStimulatedAnswer sim name d values (Err fault) answer = answer ≡ refused_stimuli name fault

-- To one with delays, and the text of a stimulus file of this name: the ports are the bits of the ports of the top.
abbrev pub IsTimedAnswer : Sim → List ℕ → List ℕ → Design → List (List Delay) → Answer → Type 0
IsTimedAnswer sim name text d values answer = IsStimulatedAnswer sim name d values (stim text (Some d.ports)) answer

-- Why an entry changes nothing, or less than it says, as it is printed.
abbrev pub printed_note : NoteWhy → PrintedWhy
printed_note why.Passed = printed.Passed
printed_note why.Port = printed.Port
printed_note why.Instance = printed.Instance
printed_note why.Generic = printed.Generic
printed_note why.Negative = printed.Negative

abbrev pub note_line : List NamedFile → Note → Said
note_line files n = note (printed_note n.why) (spot_of files n.place)

-- What it answers where SDF files make delays and notes: the notes come first, also before a refused stimulus; or where an entry makes a
-- delay that is too long.
abbrev pub IsAnnotatedAnswer : Sim → List NamedFile → List ℕ → List ℕ → Design → Outcome → Answer → Type 0
IsAnnotatedAnswer sim files name text d (Ok a) answer =
    (rest : Answer) × IsTimedAnswer sim name text d a.values rest × (answer ≡ before (map (note_line files) a.notes) rest)
IsAnnotatedAnswer sim files name text d (Err place) answer = answer ≡ refused_at files (refusal.Limit DelayLimit place)

-- What it answers to a design, with the entries of SDF files.
abbrev pub IsSimAnswer : Sim → List NamedFile → List SdfFile → List ℕ → List ℕ → Design → Answer → Type 0
IsSimAnswer sim files delays name text d answer = IsAnnotatedAnswer sim files name text d (annotated d sim.corner delays) answer
