-- Each network has one run, and so one answer; and the run of ports ends.
use Rattle.std.proofs.Common.{◌≡◌, ℕ, ◌<◌, List, refl, sym, ap, ◌∙◌, arith}
use Rattle.vital_base.specs.declared.ports.PortBit.{PortBit}
use Rattle.vital_kernel.specs.Lines.{run_lines}
use Rattle.vital_kernel.specs.PortRuns.{IsPortRun}
use Rattle.vital_kernel.specs.Runs.{Ended, HasOneRun, Run}
use Rattle.vital_kernel.specs.Networks.{Network}
use Rattle.vital_kernel.specs.PortNetworks.{port_network}
use Rattle.vital_stim.specs.declared.stimuli.StimLine.{StimLine}
use Rattle.vital_stim.specs.declared.stimuli.Stimuli.{Stimuli}
use Rattle.vital_answers.specs.Answer.{Answer}
use Rattle.vital_run.specs.Runs.{IsRunAnswer, run_answer}
use Rattle.vital_run.specs.Stimuli.{IsStimuliAnswer}

-- each network has one run, and that of ports ends
pub record OneRun : Type 0 where
  pub one : (n : Network) (lines : List StimLine) (until limit : ℕ) → HasOneRun n lines until limit
  pub ports : (ports : List PortBit) (lines : List StimLine) (until limit : ℕ) → 1 < limit → (r : Run) × IsPortRun ports lines until limit r

-- what is told of a run
abbrev pub told_of : Network → ℕ → ℕ → Run → Answer
told_of n until limit r = run_answer until limit (run_lines n r.happened) r.end

pub run_told : (n : Network) (lines : List StimLine) (until limit : ℕ) (one : HasOneRun n lines until limit) → IsRunAnswer n lines until limit (told_of n until limit one.run)
run_told n lines until limit one = (one.run, one.is, refl)

pub only_told : (n : Network) (lines : List StimLine) (until limit : ℕ) (one : HasOneRun n lines until limit) (answer : Answer) → IsRunAnswer n lines until limit answer
    → answer ≡ told_of n until limit one.run
only_told n lines until limit one answer (r, is, e) = e ∙ ap (told_of n until limit) (one.only r is)

-- ---- ports

-- what is answered to stimuli is told of the run of the network of their ports
pub told_of_stimuli : (until : ℕ) (stimuli : Stimuli) (answer : Answer) → IsStimuliAnswer until stimuli answer → IsRunAnswer (port_network stimuli.ports) stimuli.lines until 1_000 answer
told_of_stimuli until stimuli answer (r, is, ends, e) = (r, is, e ∙ ap (run_answer until 1_000 (run_lines (port_network stimuli.ports) r.happened)) (sym ends))

-- what is told of that run is answered to them, since it ends
pub stimuli_told : (laws : OneRun) (until : ℕ) (stimuli : Stimuli)
    → IsStimuliAnswer until stimuli (told_of (port_network stimuli.ports) until 1_000 (laws.one (port_network stimuli.ports) stimuli.lines until 1_000).run)
stimuli_told laws until stimuli =
    let n = port_network stimuli.ports in
    let one = laws.one n stimuli.lines until 1_000 in
    let p = laws.ports stimuli.ports stimuli.lines until 1_000 (omega arith) in
    let ends : one.run.end ≡ Ended = ap (λ (r : Run). r.end) (sym (one.only p.0 p.1.is)) ∙ p.1.ends in
    (one.run, one.is, ends, ap (run_answer until 1_000 (run_lines n one.run.happened)) ends)
