-- A run: the initial run, and then cycles up to an end time (IEEE 1076-1993, 12.6.4).
use Rattle.std.specs.Prelude.{ℕ, zero, suc, ◌≡◌, ◌+◌, ◌*◌, ◌==◌, nat_le, List, [], ◌++◌, Option, Some, None, if◌then◌else◌}
use Rattle.std.specs.Option.{option_and_then, option_map}
use Rattle.vital_agenda.specs.Driver.{next_time}
use Rattle.vital_stim.specs.declared.stimuli.StimLine.{StimLine}
use Rattle.vital_kernel.specs.Cycles.{Happening, cycle_at, initial_run}
use Rattle.vital_kernel.specs.Networks.{Network}
use Rattle.vital_kernel.specs.States.{State}

-- A time that may be missing, where it is not after the end time.
abbrev pub up_to : ℕ → Option ℕ → Option ℕ
up_to until time = option_and_then (λ t. if nat_le t until then Some t else None) time

-- The delta number of the cycle at a time: it counts the cycles of one time.
abbrev pub delta_at : ℕ → ℕ → ℕ → ℕ
delta_at time now delta = if time == now then delta + 1 else 0

-- A step of a run: it has ended; or the cycle that would begin at a time passes the limit of delta numbers; or a cycle comes, with what
-- happens in it and the next state.
pub data Step : Type 0 where
  ended : Step
  passed : (time : ℕ) → Step
  cycle : (happened : List Happening) → (next : State) → Step

-- The step at the time of the next cycle, where there is one.
abbrev pub step_at : Network → ℕ → State → Option ℕ → Step
step_at n limit s None = ended
step_at n limit s (Some time) =
    let delta = delta_at time s.now s.delta in
    if nat_le limit delta then passed time
    else (let part = cycle_at n time delta s in cycle part.happened part.state)

-- The step from a state, in a run up to an end time in which no cycle has a delta number as large as the limit. The next cycle is at the
-- least time of a pending transaction of any driver.
abbrev pub step : Network → ℕ → ℕ → State → Step
step n until limit s = step_at n limit s (up_to until (next_time s.drivers))

-- How a run ends.
pub data End : Type 0 where
  Ended : End
  DeltaPassed : (time : ℕ) → End

-- From a state on this happens in a run, it comes to this last state, and it ends so. It may go on from any state, as from one that was saved.
pub data IsRun (n : Network) (until limit : ℕ) : State → List Happening → State → End → Type 0 where
  ends : {s : State} → step n until limit s ≡ ended → IsRun n until limit s [] s Ended
  passes : {s : State} {time : ℕ} → step n until limit s ≡ passed time → IsRun n until limit s [] s (DeltaPassed time)
  goes_on : {s next last : State} {happened later : List Happening} {end : End} →
      step n until limit s ≡ cycle happened next → IsRun n until limit next later last end →
      IsRun n until limit s (happened ++ later) last end

-- What happened in a run, the state to which it came, and how it ended.
pub record Run : Type 0 where
  pub happened : List Happening
  pub last : State
  pub end : End

-- A run behind what happened before it.
abbrev pub behind : List Happening → Run → Run
behind happened later = record { happened = happened ++ later.happened; last = later.last; end = later.end }

-- This is a run from a state on.
abbrev pub IsRunFrom : Network → ℕ → ℕ → State → Run → Type 0
IsRunFrom n until limit s r = IsRun n until limit s r.happened r.last r.end

-- This is a run from the start: the initial run comes first.
abbrev pub IsWholeRun : Network → List StimLine → ℕ → ℕ → Run → Type 0
IsWholeRun n lines until limit whole =
    let first = initial_run n lines in
    (later : Run) × IsRunFrom n until limit first.state later × (whole ≡ behind first.happened later)

-- ---- the same as a plain program, which counts steps

-- A run from a state that goes on after a step.
abbrev pub going_on : State → (State → Option Run) → Step → Option Run
going_on s run ended = Some (record { happened = []; last = s; end = Ended })
going_on s run (passed time) = Some (record { happened = []; last = s; end = DeltaPassed time })
going_on s run (cycle happened next) = option_map (behind happened) (run next)

-- The run from a state on, where it has at most so many steps, of which the last is its end.
abbrev pub run_within : ℕ → Network → ℕ → ℕ → State → Option Run
run_within zero n until limit s = None
run_within (suc most) n until limit s = going_on s (run_within most n until limit) (step n until limit s)

-- The run from a state on. Each cycle raises the time or the delta number, so that no run has more steps than this.
abbrev pub run_from : Network → ℕ → ℕ → State → Option Run
run_from n until limit s = run_within ((until + 1) * (limit + 1)) n until limit s

-- The run from the start.
abbrev pub whole_run : Network → List StimLine → ℕ → ℕ → Option Run
whole_run n lines until limit =
    let first = initial_run n lines in
    option_map (behind first.happened) (run_from n until limit first.state)

-- ---- there is one run, and the program gives it

pub record HasOneRunFrom (n : Network) (until limit : ℕ) (s : State) : Type 0 where
  pub run : Run
  pub given : run_from n until limit s ≡ Some run
  pub is : IsRunFrom n until limit s run
  pub only : (other : Run) → IsRunFrom n until limit s other → other ≡ run

pub record HasOneRun (n : Network) (lines : List StimLine) (until limit : ℕ) : Type 0 where
  pub run : Run
  pub given : whole_run n lines until limit ≡ Some run
  pub is : IsWholeRun n lines until limit run
  pub only : (other : Run) → IsWholeRun n lines until limit other → other ≡ run
