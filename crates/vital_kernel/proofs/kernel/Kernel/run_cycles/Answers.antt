use Rattle.std.proofs.Common.{◌≡◌, ◌∙◌, ℕ, ◌<◌, ◌≤◌, ◌^◌, IsSomeAnd, List, None, Option, Some, Ok, Err, Bool, false, true, refl, sym, ap, subst, arith}
use Rattle.vital_agenda.specs.Driver.{next_time}
use Rattle.vital_kernel.specs.Activations.{text_in}
use Rattle.vital_kernel.specs.Cycles.{cycle_at}
use Rattle.vital_kernel.specs.Kernels.{Simulation, after_next, next_part}
use Rattle.vital_kernel.specs.Runs.{delta_at, up_to}
use Rattle.vital_kernel.specs.States.{State}
use Rattle.vital_kernel.specs.declared.run_error.RunError.TheVariants as run
use Rattle.vital_kernel.proofs.Kept.{cycle_keeps}
use Rattle.vital_kernel.proofs.Least.{all_rise_next, next_is_above}
use Rattle.vital_kernel.proofs.PartLemmas.{delta_is, state_is, text_is}
use Rattle.vital_kernel.proofs.RunLemmas.{cycle_failed, cycle_ran, fewer_steps, gives_up_failed, goes_from, next_left, run_ended, run_left, run_passed, step_cycle, step_is, step_passed, steps_left}
use Rattle.vital_kernel.proofs.SomeRun.{Next, next_in}
use Rattle.vital_report.specs.Reporters.{Printed}
use Rattle.vital_kernel.proofs.kernel.Kernel.run_cycles.Goals as goal

pub loop-time-init : goal.loop-time-init
loop-time-init g c =
    record {
      same = refl;
      goes_on = c.requires.goes_on;
      left = λ r is. run_left c.args.self.now.network c.args.until c.args.limit r c.args.printer.now c.args.self.now.state is c.requires.goes_on;
    }

pub run_next-requires-clause-not_given_up : goal.run_next-requires-clause-not_given_up
run_next-requires-clause-not_given_up g c =
    ap (λ (x : Simulation). x.is_given_up) c.loop-time.invariant.same ∙ c.requires.not_given_up

pub run_next-requires-clause-to_come : goal.run_next-requires-clause-to_come
run_next-requires-clause-to_come g c =
    let fn = c.args.self.now in
    let n = fn.network in
    let until = c.args.until in
    let limit = c.args.limit in
    let k = c.loop-time.self in
    let st = k.state in
    let start = c.args.printer.now in
    let inv = c.loop-time.invariant in
    let time = c.in-Some.time in
    let comes : Some time ≡ up_to until (next_time st.drivers) = c.in-Some.ensures ∙ ap (up_to until) c.next_time.ensures.next in
    let next : Next until st time = next_in until st time (next_time st.drivers) refl (sym comes) in
    λ begun. subst (λ (o : Option ℕ). IsSomeAnd o (λ t. t ≤ 2 ^ 60)) (sym next.is) (omega (arith, next.within, c.requires.until))

pub run_next-requires-clause-delta : goal.run_next-requires-clause-delta
run_next-requires-clause-delta g c =
    let fn = c.args.self.now in
    let n = fn.network in
    let until = c.args.until in
    let limit = c.args.limit in
    let k = c.loop-time.self in
    let st = k.state in
    let start = c.args.printer.now in
    let inv = c.loop-time.invariant in
    let time = c.in-Some.time in
    let comes : Some time ≡ up_to until (next_time st.drivers) = c.in-Some.ensures ∙ ap (up_to until) c.next_time.ensures.next in
    let next : Next until st time = next_in until st time (next_time st.drivers) refl (sym comes) in
    let counted = delta_is st time next.is in
    λ begun. omega (arith, counted, c.next_delta-delta.ensures, c.if-delta-limit.false, c.ranges.limit)

pub run_next-requires-clause-goes_on : goal.run_next-requires-clause-goes_on
run_next-requires-clause-goes_on g c =
    c.loop-time.invariant.goes_on

pub returns-then-delta-limit : goal.returns-then-delta-limit
returns-then-delta-limit g c =
    let fn = c.args.self.now in
    let n = fn.network in
    let until = c.args.until in
    let limit = c.args.limit in
    let k = c.loop-time.self in
    let st = k.state in
    let start = c.args.printer.now in
    let inv = c.loop-time.invariant in
    let time = c.in-Some.time in
    let comes : Some time ≡ up_to until (next_time st.drivers) = c.in-Some.ensures ∙ ap (up_to until) c.next_time.ensures.next in
    let next : Next until st time = next_in until st time (next_time st.drivers) refl (sym comes) in
    let past : limit ≤ delta_at time st.now st.delta = omega (arith, c.next_delta-delta.ensures, c.if-delta-limit.true) in
    let unmarked : k.is_given_up ≡ false = ap (λ (x : Simulation). x.is_given_up) inv.same ∙ c.requires.not_given_up in
    goes_from (Err (run.DeltaLimit time)) until limit fn k start c.loop-time.printer c.requires.begun unmarked (λ r is.
    let done = run_passed n until limit r start st time c.loop-time.printer (inv.left r is) (step_passed n until limit st time comes past) in (
      done.printed,
      (done.ends, inv.same ∙ ap (λ (b : Bool). let it : Simulation = record fn { is_begun = b; state = st } in it) c.requires.begun ∙ ap (λ (x : State). let it : Simulation = record fn { is_begun = true; state = x } in it) (sym done.last)),
    ))

pub returns-in_err-run_next : goal.returns-in_err-run_next
returns-in_err-run_next g c =
    let fn = c.args.self.now in
    let n = fn.network in
    let until = c.args.until in
    let limit = c.args.limit in
    let k = c.loop-time.self in
    let st = k.state in
    let start = c.args.printer.now in
    let inv = c.loop-time.invariant in
    let time = c.in-Some.time in
    let comes : Some time ≡ up_to until (next_time st.drivers) = c.in-Some.ensures ∙ ap (up_to until) c.next_time.ensures.next in
    let next : Next until st time = next_in until st time (next_time st.drivers) refl (sym comes) in
    let d = delta_at time st.now st.delta in
    let within : d < limit = omega (arith, c.next_delta-delta.ensures, c.if-delta-limit.false) in
    let here = (cycle_at n time d st).happened in
    let to = (cycle_at n time d st).state in
    let stepped = step_cycle n until limit st time comes within in
    let same : k.network ≡ n = ap (λ (x : Simulation). x.network) inv.same in
    let begun : k.is_begun ≡ true = ap (λ (x : Simulation). x.is_begun) inv.same ∙ c.requires.begun in
    goes_from c.from_residual.result until limit fn c.run_next.new.self start c.run_next.new.printer c.requires.begun
    (gives_up_failed c.from_residual.result _ c.run_next.new.self.is_given_up c.from_residual.ensures.1 c.in_err-run_next.ensures.given_up) (λ r is.
    cycle_failed c.from_residual.result _ n until limit r start here to c.loop-time.printer c.run_next.new.printer c.from_residual.ensures.1
    (next_left n until limit r start st c.loop-time.printer here to (inv.left r is) stepped)
    (rw (text_is k n time same begun next.is) at c.in_err-run_next.ensures.prints) fn c.run_next.new.self)

pub loop-time-smaller : goal.loop-time-smaller
loop-time-smaller g c =
    let fn = c.args.self.now in
    let n = fn.network in
    let until = c.args.until in
    let limit = c.args.limit in
    let k = c.loop-time.self in
    let st = k.state in
    let start = c.args.printer.now in
    let inv = c.loop-time.invariant in
    let time = c.in-Some.time in
    let comes : Some time ≡ up_to until (next_time st.drivers) = c.in-Some.ensures ∙ ap (up_to until) c.next_time.ensures.next in
    let next : Next until st time = next_in until st time (next_time st.drivers) refl (sym comes) in
    let d = delta_at time st.now st.delta in
    let within : d < limit = omega (arith, c.next_delta-delta.ensures, c.if-delta-limit.false) in
    let here = (cycle_at n time d st).happened in
    let to = (cycle_at n time d st).state in
    let stepped = step_cycle n until limit st time comes within in
    let same : k.network ≡ n = ap (λ (x : Simulation). x.network) inv.same in
    let begun : k.is_begun ≡ true = ap (λ (x : Simulation). x.is_begun) inv.same ∙ c.requires.begun in
    let after : c.run_next.new.self.state ≡ to = ap (λ (x : Simulation). x.state) c.in_ok-run_next.ensures.after ∙ state_is k n time same begun next.is in
    let kept = cycle_keeps n time d st (all_rise_next st.now time st.drivers c.next_time.ensures.rise next.is) in
    let fewer = fewer_steps until limit st.now time st.delta (next_is_above st.now time st.drivers c.next_time.ensures.rise next.is) next.within within in
    subst (λ (x : State). steps_left until limit x.now x.delta < steps_left until limit st.now st.delta) (sym after)
    (subst (λ (t : ℕ). steps_left until limit t to.delta < steps_left until limit st.now st.delta) (sym kept.now_is)
    (subst (λ (t : ℕ). steps_left until limit time t < steps_left until limit st.now st.delta) (sym kept.delta_is) fewer))

pub loop-time-preserved : goal.loop-time-preserved
loop-time-preserved g c =
    let fn = c.args.self.now in
    let n = fn.network in
    let until = c.args.until in
    let limit = c.args.limit in
    let k = c.loop-time.self in
    let st = k.state in
    let start = c.args.printer.now in
    let inv = c.loop-time.invariant in
    let time = c.in-Some.time in
    let comes : Some time ≡ up_to until (next_time st.drivers) = c.in-Some.ensures ∙ ap (up_to until) c.next_time.ensures.next in
    let next : Next until st time = next_in until st time (next_time st.drivers) refl (sym comes) in
    let d = delta_at time st.now st.delta in
    let within : d < limit = omega (arith, c.next_delta-delta.ensures, c.if-delta-limit.false) in
    let here = (cycle_at n time d st).happened in
    let to = (cycle_at n time d st).state in
    let stepped = step_cycle n until limit st time comes within in
    let same : k.network ≡ n = ap (λ (x : Simulation). x.network) inv.same in
    let begun : k.is_begun ≡ true = ap (λ (x : Simulation). x.is_begun) inv.same ∙ c.requires.begun in
    let new = c.run_next.new.self in
    let is : new ≡ after_next k = c.in_ok-run_next.ensures.after in
    let after : new.state ≡ to = ap (λ (x : Simulation). x.state) is ∙ state_is k n time same begun next.is in
    let printed : Printed (text_in n here) c.loop-time.printer c.run_next.new.printer =
    subst (λ (text : List ℕ). Printed text c.loop-time.printer c.run_next.new.printer) (text_is k n time same begun next.is) c.in_ok-run_next.ensures.prints in
    record {
      same =
          is ∙ ap (λ (x : Simulation). let it : Simulation = record x { is_begun = true; state = (next_part k).state } in it) inv.same
          ∙ ap (λ (b : Bool). let it : Simulation = record fn { is_begun = b; state = (next_part k).state } in it) (sym c.requires.begun)
          ∙ ap (λ (x : State). let it : Simulation = record fn { state = x } in it) (sym (ap (λ (x : Simulation). x.state) is));
      goes_on = printed.goes_on;
      left = λ r run. cycle_ran n until limit r start st new.state c.loop-time.printer c.run_next.new.printer here to (inv.left r run) stepped after printed;
    }

pub returns : goal.returns
returns g c =
    let fn = c.args.self.now in
    let n = fn.network in
    let until = c.args.until in
    let limit = c.args.limit in
    let k = c.loop-time.self in
    let st = k.state in
    let start = c.args.printer.now in
    let inv = c.loop-time.invariant in
    let unmarked : k.is_given_up ≡ false = ap (λ (x : Simulation). x.is_given_up) inv.same ∙ c.requires.not_given_up in
    goes_from (Ok tt) until limit fn k start c.loop-time.printer c.requires.begun unmarked (λ r is.
    let done = run_ended n until limit r start st c.loop-time.printer (inv.left r is) (step_is n until limit st None (c.in_default.ensures ∙ ap (up_to until) c.next_time.ensures.next)) in (
      done.printed,
      (done.ends, inv.same ∙ ap (λ (b : Bool). let it : Simulation = record fn { is_begun = b; state = st } in it) c.requires.begun ∙ ap (λ (x : State). let it : Simulation = record fn { is_begun = true; state = x } in it) (sym done.last)),
    ))
