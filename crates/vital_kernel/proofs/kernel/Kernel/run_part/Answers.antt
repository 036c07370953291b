use Rattle.std.proofs.Common.{◌≡◌, ◌∙◌, ℕ, List, IsSome, false, true, sym, ap, subst, arith}
use Rattle.vital_agenda.specs.Driver.{next_time}
use Rattle.vital_kernel.specs.Kernels.{Simulation}
use Rattle.vital_kernel.proofs.CycleLemmas.{on_ok}
use Rattle.vital_kernel.proofs.PartLemmas.{after_cycle, after_initial, delta_is, is_early, is_there, text_of_cycle, text_of_initial}
use Rattle.vital_report.specs.Reporters.{PrintsPart}
use Rattle.vital_kernel.proofs.kernel.Kernel.run_part.Goals as goal

pub unwrap-time-requires : goal.unwrap-time-requires
unwrap-time-requires g c =
    let is : c.args.self.now.is_begun ≡ true = sym (ap (λ (k : Simulation). k.is_begun) c.self.view_is) ∙ c.if-self.true in
    subst IsSome (sym c.next_time.ensures.next) (is_there (next_time c.args.self.now.state.drivers) (c.requires.to_come is))

pub run_cycle-requires-clause-next : goal.run_cycle-requires-clause-next
run_cycle-requires-clause-next g c = sym c.next_time.ensures.next ∙ c.unwrap-time.ensures

pub run_cycle-requires-clause-rise : goal.run_cycle-requires-clause-rise
run_cycle-requires-clause-rise g c = c.next_time.ensures.rise

pub run_cycle-requires-clause-time : goal.run_cycle-requires-clause-time
run_cycle-requires-clause-time g c =
    let is : c.args.self.now.is_begun ≡ true = sym (ap (λ (k : Simulation). k.is_begun) c.self.view_is) ∙ c.if-self.true in
    is_early (next_time c.args.self.now.state.drivers) c.unwrap-time.result (c.requires.to_come is) (sym c.next_time.ensures.next ∙ c.unwrap-time.ensures)

pub run_cycle-requires-clause-delta : goal.run_cycle-requires-clause-delta
run_cycle-requires-clause-delta g c =
    let is : c.args.self.now.is_begun ≡ true = sym (ap (λ (k : Simulation). k.is_begun) c.self.view_is) ∙ c.if-self.true in
    let counted = delta_is c.args.self.now.state c.unwrap-time.result (sym c.next_time.ensures.next ∙ c.unwrap-time.ensures) in
    omega (arith, counted, c.next_delta-delta.ensures, c.requires.delta is)

pub run_cycle-requires-clause-begun : goal.run_cycle-requires-clause-begun
run_cycle-requires-clause-begun g c = sym (ap (λ (k : Simulation). k.is_begun) c.self.view_is) ∙ c.if-self.true

pub returns-then-self-clause-after : goal.returns-then-self-clause-after
returns-then-self-clause-after g c =
    let is : c.args.self.now.is_begun ≡ true = sym (ap (λ (k : Simulation). k.is_begun) c.self.view_is) ∙ c.if-self.true in
    on_ok c.run_cycle.result c.run_cycle.ensures.after (λ e.
    e ∙ after_cycle c.args.self.now c.unwrap-time.result c.next_delta-delta.result is (sym c.next_time.ensures.next ∙ c.unwrap-time.ensures) c.next_delta-delta.ensures)

pub returns-then-self-clause-prints : goal.returns-then-self-clause-prints
returns-then-self-clause-prints g c =
    let is : c.args.self.now.is_begun ≡ true = sym (ap (λ (k : Simulation). k.is_begun) c.self.view_is) ∙ c.if-self.true in
    subst (λ (text : List ℕ). PrintsPart c.run_cycle.result text c.args.printer.now c.run_cycle.new.printer)
    (text_of_cycle c.args.self.now c.unwrap-time.result c.next_delta-delta.result is (sym c.next_time.ensures.next ∙ c.unwrap-time.ensures) c.next_delta-delta.ensures) c.run_cycle.ensures.prints

pub run_first-requires-clause-first : goal.run_first-requires-clause-first
run_first-requires-clause-first g c = sym (ap (λ (k : Simulation). k.is_begun) c.self.view_is) ∙ c.if-self.false

pub returns-else-self-clause-after : goal.returns-else-self-clause-after
returns-else-self-clause-after g c =
    let is : c.args.self.now.is_begun ≡ false = sym (ap (λ (k : Simulation). k.is_begun) c.self.view_is) ∙ c.if-self.false in
    on_ok c.run_first.result c.run_first.ensures.after (λ e. e ∙ after_initial c.args.self.now is)

pub returns-else-self-clause-prints : goal.returns-else-self-clause-prints
returns-else-self-clause-prints g c =
    let is : c.args.self.now.is_begun ≡ false = sym (ap (λ (k : Simulation). k.is_begun) c.self.view_is) ∙ c.if-self.false in
    subst (λ (text : List ℕ). PrintsPart c.run_first.result text c.args.printer.now c.run_first.new.printer) (text_of_initial c.args.self.now is) c.run_first.ensures.prints
