-- A run that is made cycle by cycle.
use Rattle.std.proofs.Common.{◌≡◌, ◌∙◌, ℕ, ◌+◌, ◌-◌, ◌*◌, ◌<◌, ◌≤◌, Bool, true, false, List, [], ◌++◌, take, Option, Some, Result, Ok, Err, refl, ap, sym, subst, append_assoc, arith}
use Rattle.std.specs.List.{flat_map}
use Rattle.std.specs.Result.{IsErrAnd}
use Rattle.std.proofs.lemmas.Bool.{le-leb, lt-leb}
use Rattle.std.proofs.lemmas.List.{append-nil}
use Rattle.std.proofs.lemmas.List.Concat.{flat_map-append}
use Rattle.std.proofs.lemmas.Result.{err_from_is_err_and}
use Rattle.vital_agenda.specs.Driver.{next_time}
use Rattle.vital_kernel.specs.Activations.{text_in}
use Rattle.vital_kernel.specs.Cycles.{Happening, cycle_at, initial_run}
use Rattle.vital_kernel.specs.Kernels.{ComesTo, GoesOn, IsRunAfter, IsRunOf, PrintsRun, Simulation, begun, begun_text, gives_up, told_by}
use Rattle.vital_kernel.specs.Lines.{init_lines, lines_of, run_lines}
use Rattle.vital_kernel.specs.RunErrors.{run_error}
use Rattle.vital_kernel.specs.Runs.{DeltaPassed, End, Ended, IsRun, IsRunFrom, Run, cycle, delta_at, ended, ends, goes_on, passed, passes, step, step_at, up_to}
use Rattle.vital_kernel.specs.States.{State}
use Rattle.vital_kernel.specs.declared.run_error.RunError.{RunError}
use Rattle.vital_kernel.specs.declared.run_error.RunError.TheVariants as run
use Rattle.vital_kernel.proofs.Activations.{text_in-append}
use Rattle.vital_kernel.proofs.SomeRun.{fewer_left}
use Rattle.vital_kernel.proofs.Texts.{Left, left_all, left_breaks_in, left_less, left_none, left_stops, printed_then, stopped_then, stopped_within}
use Rattle.vital_kernel.specs.Networks.{Network}
use Rattle.vital_report.specs.Lines.{bytes_of, text_of}
use Rattle.vital_report.specs.Reporters.{Printed, PrinterState, PrintsPart, Stopped}
use Rattle.vital_report.specs.declared.print_error.PrintError.{PrintError}
use Rattle.vital_report.specs.declared.print_error.PrintError.TheVariants as print
use Rattle.vital_stim.specs.declared.stimuli.StimLine.{StimLine}

-- ---- the steps of a run

pub runs_on : {n : Network} {until limit : ℕ} {s last : State} {happened : List Happening} {end : End} → IsRun n until limit s happened last end
    → (here : List Happening) (next : State) → step n until limit s ≡ cycle here next → (later : List Happening) × (happened ≡ here ++ later) × IsRun n until limit next later last end
runs_on (ends e) here next is = absurd cc
runs_on (passes e) here next is = absurd cc
runs_on {n} {until} {limit} (goes_on {next = t} {last = o} {happened = k} {later = r} {end = x} f rest) here next is =
    let states : t ≡ next = cc in
    let now : k ≡ here = cc in
    (r, ap (λ (front : List Happening). front ++ r) now, subst (λ (u : State). IsRun n until limit u r o x) states rest)

pub run_ends : {n : Network} {until limit : ℕ} {s last : State} {happened : List Happening} {end : End} → IsRun n until limit s happened last end
    → step n until limit s ≡ ended → (happened ≡ []) × (last ≡ s) × (end ≡ Ended)
run_ends (ends e) is = (refl, refl, refl)
run_ends (passes e) is = absurd cc
run_ends (goes_on e later) is = absurd cc

pub run_passes : {n : Network} {until limit : ℕ} {s last : State} {happened : List Happening} {end : End} → IsRun n until limit s happened last end
    → (time : ℕ) → step n until limit s ≡ passed time → (happened ≡ []) × (last ≡ s) × (end ≡ DeltaPassed time)
run_passes (ends e) time is = absurd cc
run_passes (passes {time = t} e) time is = let same : t ≡ time = cc in (refl, refl, ap (λ (x : ℕ). DeltaPassed x) same)
run_passes (goes_on e later) time is = absurd cc

-- the step where a cycle comes at a time
pub step_is : (n : Network) (until limit : ℕ) (s : State) (o : Option ℕ) → o ≡ up_to until (next_time s.drivers) → step n until limit s ≡ step_at n limit s o
step_is n until limit s o e = ap (step_at n limit s) (sym e)

pub step_cycle : (n : Network) (until limit : ℕ) (s : State) (time : ℕ) → Some time ≡ up_to until (next_time s.drivers) → delta_at time s.now s.delta < limit
    → let part = cycle_at n time (delta_at time s.now s.delta) s in step n until limit s ≡ cycle part.happened part.state
step_cycle n until limit s time e within =
    step_is n until limit s (Some time) e ∙ rw (lt-leb limit (delta_at time s.now s.delta) within) refl

pub step_passed : (n : Network) (until limit : ℕ) (s : State) (time : ℕ) → Some time ≡ up_to until (next_time s.drivers) → limit ≤ delta_at time s.now s.delta
    → step n until limit s ≡ passed time
step_passed n until limit s time e past =
    step_is n until limit s (Some time) e ∙ rw (le-leb limit (delta_at time s.now s.delta) past) refl

-- ---- what is left of a run

pub record RunLeft (n : Network) (until limit : ℕ) (whole : Run) (start : PrinterState) (s : State) (now : PrinterState) : Type 0 where
  pub later : Run
  pub is : IsRunFrom n until limit s later
  pub last : whole.last ≡ later.last
  pub end : whole.end ≡ later.end
  pub left : Left start (text_in n whole.happened) (text_in n later.happened) now

-- all of it
pub run_left : (n : Network) (until limit : ℕ) (r : Run) (start : PrinterState) (s : State) → IsRunFrom n until limit s r → start.stopped ≡ false → RunLeft n until limit r start s start
run_left n until limit r start s is going = record { later = r; is = is; last = refl; end = refl; left = left_all start (text_in n r.happened) going }

-- its next cycle, and what comes after it
pub record NextLeft (n : Network) (until limit : ℕ) (whole : Run) (start : PrinterState) (here : List Happening) (next : State) (now : PrinterState) : Type 0 where
  pub later : Run
  pub is : IsRunFrom n until limit next later
  pub last : whole.last ≡ later.last
  pub end : whole.end ≡ later.end
  pub left : Left start (text_in n whole.happened) (text_in n here ++ text_in n later.happened) now

pub next_left : (n : Network) (until limit : ℕ) (whole : Run) (start : PrinterState) (s : State) (now : PrinterState) (here : List Happening) (next : State)
    → RunLeft n until limit whole start s now → step n until limit s ≡ cycle here next → NextLeft n until limit whole start here next now
next_left n until limit whole start s now here next h is =
    let on = runs_on h.is here next is in
    record {
      later = record { happened = on.0; last = h.later.last; end = h.later.end };
      is = on.2;
      last = h.last;
      end = h.end;
      left = subst (λ (text : List ℕ). Left start (text_in n whole.happened) text now) (ap (text_in n) on.1 ∙ text_in-append n here on.0) h.left;
    }

pub cycle_ran : (n : Network) (until limit : ℕ) (whole : Run) (start : PrinterState) (s next : State) (now after : PrinterState) (here : List Happening) (to : State)
    → RunLeft n until limit whole start s now → step n until limit s ≡ cycle here to → next ≡ to → Printed (text_in n here) now after → RunLeft n until limit whole start next after
cycle_ran n until limit whole start s next now after here to h is same printed =
    let x = next_left n until limit whole start s now here to h is in
    subst (λ (u : State). RunLeft n until limit whole start u after) (sym same) (record {
      later = x.later;
      is = x.is;
      last = x.last;
      end = x.end;
      left = left_less start (text_in n whole.happened) (text_in n here) (text_in n x.later.happened) now after x.left printed;
    })

-- nothing is left
pub record RunDone (n : Network) (whole : Run) (start : PrinterState) (s : State) (end : End) (now : PrinterState) : Type 0 where
  pub last : whole.last ≡ s
  pub ends : whole.end ≡ end
  pub printed : Printed (text_in n whole.happened) start now

pub run_ended : (n : Network) (until limit : ℕ) (whole : Run) (start : PrinterState) (s : State) (now : PrinterState) → RunLeft n until limit whole start s now
    → step n until limit s ≡ ended → RunDone n whole start s Ended now
run_ended n until limit whole start s now h is =
    let e = run_ends h.is is in
    record {
      last = h.last ∙ e.1;
      ends = h.end ∙ e.2;
      printed = left_none start (text_in n whole.happened) now (subst (λ (x : List Happening). Left start (text_in n whole.happened) (text_in n x) now) e.0 h.left);
    }

pub run_passed : (n : Network) (until limit : ℕ) (whole : Run) (start : PrinterState) (s : State) (time : ℕ) (now : PrinterState) → RunLeft n until limit whole start s now
    → step n until limit s ≡ passed time → RunDone n whole start s (DeltaPassed time) now
run_passed n until limit whole start s time now h is =
    let e = run_passes h.is time is in
    record {
      last = h.last ∙ e.1;
      ends = h.end ∙ e.2;
      printed = left_none start (text_in n whole.happened) now (subst (λ (x : List Happening). Left start (text_in n whole.happened) (text_in n x) now) e.0 h.left);
    }

-- ---- a call that goes on

-- what it does from a state after the initial run
pub goes_from : (result : Result Unit RunError) (until limit : ℕ) (old new : Simulation) (before after : PrinterState) → old.is_begun ≡ true → new.is_given_up ≡ gives_up result
    → ((r : Run) → IsRunFrom old.network until limit old.state r → PrintsRun result (text_in old.network r.happened) before after × ComesTo result old new r)
    → GoesOn result until limit old new before after
goes_from result until limit old new before after is given_up all =
    record {
      given_up = given_up;
      prints = λ r h. rw is (all r (subst (λ (b : Bool). IsRunAfter b old until limit r) is h)).0;
      comes_to = λ r h. (all r (subst (λ (b : Bool). IsRunAfter b old until limit r) is h)).1;
    }

pub from_goes : (result : Result Unit RunError) (until limit : ℕ) (old new : Simulation) (before after : PrinterState) → old.is_begun ≡ true → GoesOn result until limit old new before after
    → (r : Run) → IsRunFrom old.network until limit old.state r → PrintsRun result (text_in old.network r.happened) before after × ComesTo result old new r
from_goes result until limit old new before after is h r run =
    let whole : IsRunOf old until limit r = subst (λ (b : Bool). IsRunAfter b old until limit r) (sym is) run in
    (rw is at (h.prints r whole), h.comes_to r whole)

pub prints_run_then : (r : Result Unit RunError) (first second : List ℕ) (x y z : PrinterState) → Printed first x y → PrintsRun r second y z → PrintsRun r (first ++ second) x z
prints_run_then (Ok u) first second x y z one two = printed_then first second x y z one two
prints_run_then (Err (run.DeltaLimit time)) first second x y z one two = printed_then first second x y z one two
prints_run_then (Err run.WriteFault) first second x y z one two = stopped_then first second x y z one two
prints_run_then (Err run.NoMemory) first second x y z one two =
    let left : Left x (first ++ second) (second ++ []) y = rw (append-nil second) (record { front = first; parts = refl; printed = one }) in
    left_breaks_in x (first ++ second) second [] y z left two

-- a fault in a part of what is printed
prints_run_failed : (e : PrintError) (first second : List ℕ) (x z : PrinterState) → x.stopped ≡ false → PrintsPart {T = Unit {0}} (Err e) first x z → PrintsRun (Err (run_error e)) (first ++ second) x z
prints_run_failed print.WriteFault first second x z going w = stopped_within first second x z w
prints_run_failed print.NoMemory first second x z going w = left_breaks_in x (first ++ second) first second x z (left_all x (first ++ second) going) w

-- ---- the initial run and what comes after it

whole_text : (n : Network) (lines : List StimLine) (later : Run) → let first = initial_run n lines in
    text_of (run_lines n (first.happened ++ later.happened)) ≡ text_of (run_lines n first.happened) ++ text_in n later.happened
whole_text n lines later =
    let first = initial_run n lines in
    flat_map-append bytes_of (init_lines n) (flat_map (lines_of n) (first.happened ++ later.happened))
    ∙ ap (λ (text : List ℕ). text_of (init_lines n) ++ text) (text_in-append n first.happened later.happened)
    ∙ sym (append_assoc (text_of (init_lines n)) (text_in n first.happened) (text_in n later.happened))
    ∙ ap (λ (text : List ℕ). text ++ text_in n later.happened) (sym (flat_map-append bytes_of (init_lines n) (flat_map (lines_of n) first.happened)))

-- what is told of the run from a simulation on is the text of its initial run, where that is still to come, and what comes after it
record Begins (k : Simulation) (until limit : ℕ) (r : Run) : Type 0 where
  pub later : Run
  pub is : IsRunFrom k.network until limit (begun k).state later
  pub text : text_of (told_by k r.happened) ≡ begun_text k ++ text_in k.network later.happened
  pub last : r.last ≡ later.last
  pub end : r.end ≡ later.end

begins : (k : Simulation) (until limit : ℕ) (r : Run) → IsRunOf k until limit r → Begins k until limit r
begins k until limit r h = by k.network k.lines k.is_begun k.is_given_up k.state h
  where
    by : (n : Network) (lines : List StimLine) (b g : Bool) (s : State) → let k : Simulation = record { network = n; lines = lines; is_begun = b; is_given_up = g; state = s } in
        IsRunOf k until limit r → Begins k until limit r
    by n lines true g s h = record { later = r; is = h; text = refl; last = refl; end = refl }
    by n lines false g s (later, is, same) =
        record {
          later = later;
          is = is;
          text = ap (λ (x : Run). text_of (run_lines n x.happened)) same ∙ whole_text n lines later;
          last = ap (λ (x : Run). x.last) same;
          end = ap (λ (x : Run). x.end) same;
        }

begun_is : (k : Simulation) → begun k ≡ record k { is_begun = true; state = (begun k).state }
begun_is k = by k.network k.lines k.is_begun k.is_given_up k.state
  where
    by : (n : Network) (lines : List StimLine) (b g : Bool) (s : State) → let k : Simulation = record { network = n; lines = lines; is_begun = b; is_given_up = g; state = s } in
        begun k ≡ record k { is_begun = true; state = (begun k).state }
    by n lines true g s = refl
    by n lines false g s = refl

pub begun_is_begun : (k : Simulation) → (begun k).is_begun ≡ true
begun_is_begun k = ap (λ (x : Simulation). x.is_begun) (begun_is k)

comes_to_then : (result : Result Unit RunError) (k new : Simulation) (s : State) (r later : Run) → r.last ≡ later.last → r.end ≡ later.end
    → ComesTo result (let it : Simulation = record k { is_begun = true; state = s } in it) new later → ComesTo result k new r
comes_to_then (Ok x) k new s r later last end h = (end ∙ h.0, h.1 ∙ ap (λ (t : State). let it : Simulation = record k { is_begun = true; state = t } in it) (sym last))
comes_to_then (Err (run.DeltaLimit time)) k new s r later last end h =
    (end ∙ h.0, h.1 ∙ ap (λ (t : State). let it : Simulation = record k { is_begun = true; state = t } in it) (sym last))
comes_to_then (Err run.WriteFault) k new s r later last end h = h
comes_to_then (Err run.NoMemory) k new s r later last end h = h

pub goes_then : (result : Result Unit RunError) (until limit : ℕ) (old middle new : Simulation) (before between after : PrinterState) → middle ≡ begun old → Printed (begun_text old) before between
    → GoesOn result until limit middle new between after → GoesOn result until limit old new before after
goes_then result until limit old middle new before between after same printed h =
    let k : Simulation = record old { is_begun = true; state = (begun old).state } in
    let is : middle ≡ k = same ∙ begun_is old in
    let on : GoesOn result until limit k new between after = subst (λ (x : Simulation). GoesOn result until limit x new between after) is h in
    record {
      given_up = h.given_up;
      prints = λ r run.
          let b = begins old until limit r run in
          subst (λ (text : List ℕ). PrintsRun result text before after) (sym b.text)
          (prints_run_then result (begun_text old) (text_in old.network b.later.happened) before between after printed
          (from_goes result until limit k new between after refl on b.later b.is).0);
      comes_to = λ r run.
          let b = begins old until limit r run in
          comes_to_then result old new (begun old).state r b.later b.last b.end (from_goes result until limit k new between after refl on b.later b.is).1;
    }

-- a fault gives the simulation up
gives_up_on : (e : PrintError) → gives_up (Err (run_error e)) ≡ true
gives_up_on print.WriteFault = refl
gives_up_on print.NoMemory = refl

pub gives_up_failed : (result : Result Unit RunError) (e : PrintError) (mark : Bool) → IsErrAnd result (λ x. x ≡ run_error e) → mark ≡ true → mark ≡ gives_up result
gives_up_failed result e mark failed is =
    let p = err_from_is_err_and result failed in
    is ∙ sym (gives_up_on e) ∙ ap (λ (x : RunError). gives_up (Err x)) (sym p.2) ∙ ap gives_up (sym p.1)

pub begin_failed : (result : Result Unit RunError) (e : PrintError) (until limit : ℕ) (old new : Simulation) (before after : PrinterState) → before.stopped ≡ false → new.is_given_up ≡ true
    → IsErrAnd result (λ x. x ≡ run_error e) → PrintsPart {T = Unit {0}} (Err e) (begun_text old) before after → GoesOn result until limit old new before after
begin_failed result e until limit old new before after going given_up failed w =
    let p = err_from_is_err_and result failed in
    let is : result ≡ Err (run_error e) = p.1 ∙ ap (λ (x : RunError). Err x) p.2 in
    subst (λ (x : Result Unit RunError). GoesOn x until limit old new before after) (sym is) (record {
      given_up = given_up ∙ sym (gives_up_on e);
      prints = λ r run.
          let b = begins old until limit r run in
          subst (λ (text : List ℕ). PrintsRun (Err (run_error e)) text before after) (sym b.text)
          (prints_run_failed e (begun_text old) (text_in old.network b.later.happened) before after going w);
      comes_to = λ r run. none e r;
    })
  where
    none : (e : PrintError) (r : Run) → ComesTo (Err (run_error e)) old new r
    none print.WriteFault r = tt
    none print.NoMemory r = tt

-- what was held could not be written
pub flush_failed : (result : Result Unit RunError) (until limit : ℕ) (old new : Simulation) (before after : PrinterState) → IsErrAnd result (λ x. x ≡ run.WriteFault) → new.is_given_up ≡ true → Stopped [] before after
    → GoesOn result until limit old new before after
flush_failed result until limit old new before after failed given_up w =
    let p = err_from_is_err_and result failed in
    let is : result ≡ Err run.WriteFault = p.1 ∙ ap (λ (x : RunError). Err x) p.2 in
    subst (λ (x : Result Unit RunError). GoesOn x until limit old new before after) (sym is) (record {
      prints = λ r run. stopped_within [] _ before after w;
      comes_to = λ r run. tt;
      given_up = given_up;
    })

-- a run goes on behind what was held
prints_behind : (result : Result Unit RunError) (text : List ℕ) (x y z : PrinterState) → Printed [] x y → PrintsRun result text y z → PrintsRun result text x z
prints_behind (Ok ok) text x y z one two = printed_then [] text x y z one two
prints_behind (Err (run.DeltaLimit time)) text x y z one two = printed_then [] text x y z one two
prints_behind (Err run.WriteFault) text x y z one two = stopped_then [] text x y z one two
prints_behind (Err run.NoMemory) text x y z one two = (two.0, printed_then [] (take two.0 text) x y z one two.1)

pub goes_behind : (result : Result Unit RunError) (until limit : ℕ) (old new : Simulation) (before between after : PrinterState) → Printed [] before between → GoesOn result until limit old new between after
    → GoesOn result until limit old new before after
goes_behind result until limit old new before between after one goes =
    record {
      prints = λ r run. prints_behind result _ before between after one (goes.prints r run);
      comes_to = goes.comes_to;
      given_up = goes.given_up;
    }

-- a fault in a cycle
pub cycle_failed : (result : Result Unit RunError) (e : PrintError) (n : Network) (until limit : ℕ) (whole : Run) (start : PrinterState) (here : List Happening) (next : State) (now after : PrinterState)
    → IsErrAnd result (λ x. x ≡ run_error e) → NextLeft n until limit whole start here next now → PrintsPart {T = Unit {0}} (Err e) (text_in n here) now after
    → (old new : Simulation) → PrintsRun result (text_in n whole.happened) start after × ComesTo result old new whole
cycle_failed result e n until limit whole start here next now after failed h w old new =
    let p = err_from_is_err_and result failed in
    let is : result ≡ Err (run_error e) = p.1 ∙ ap (λ (x : RunError). Err x) p.2 in
    subst (λ (x : Result Unit RunError). PrintsRun x (text_in n whole.happened) start after × ComesTo x old new whole) (sym is) (by e w)
  where
    by : (e : PrintError) → PrintsPart {T = Unit {0}} (Err e) (text_in n here) now after
        → PrintsRun (Err (run_error e)) (text_in n whole.happened) start after × ComesTo (Err (run_error e)) old new whole
    by print.WriteFault w = (left_stops start (text_in n whole.happened) (text_in n here) (text_in n h.later.happened) now after h.left w, tt)
    by print.NoMemory w = (left_breaks_in start (text_in n whole.happened) (text_in n here) (text_in n h.later.happened) now after h.left w, tt)

-- ---- how many steps are left

-- more than these are not left
abbrev pub steps_left : ℕ → ℕ → ℕ → ℕ → ℕ
steps_left until limit now delta = (until - now) * (limit + 1) + (limit - delta)

-- each cycle raises the time or the delta number
pub fewer_steps : (until limit now time delta : ℕ) → now ≤ time → time ≤ until → delta_at time now delta < limit
    → steps_left until limit time (delta_at time now delta) < steps_left until limit now delta
fewer_steps until limit now time delta le within next =
    let most = steps_left until limit now delta in
    let less = fewer_left until limit now time delta most le within next (omega arith) in
    omega (arith, less)
