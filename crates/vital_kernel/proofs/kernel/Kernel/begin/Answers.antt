use Rattle.std.proofs.Common.{◌≡◌, ◌∙◌, ℕ, List, false, true, sym, ap, subst}
use Rattle.std.proofs.lemmas.Bool.{false≢true}
use Rattle.vital_kernel.specs.Kernels.{Simulation}
use Rattle.vital_kernel.proofs.CycleLemmas.{on_ok}
use Rattle.vital_kernel.proofs.PartLemmas.{begun_as_it_is, begun_first, text_as_it_is, text_first}
use Rattle.vital_kernel.proofs.Texts.{printed_none}
use Rattle.vital_report.specs.Reporters.{Printed, PrintsPart}
use Rattle.vital_kernel.proofs.kernel.Kernel.begin.Goals as goal

pub returns-then-self-clause-after : goal.returns-then-self-clause-after
returns-then-self-clause-after g c =
    let is : c.args.self.now.is_begun ≡ true = sym (ap (λ (k : Simulation). k.is_begun) c.self.view_is) ∙ c.if-self.true in
    sym (begun_as_it_is c.args.self.now is)

pub returns-then-self-clause-prints : goal.returns-then-self-clause-prints
returns-then-self-clause-prints g c =
    let is : c.args.self.now.is_begun ≡ true = sym (ap (λ (k : Simulation). k.is_begun) c.self.view_is) ∙ c.if-self.true in
    subst (λ (text : List ℕ). Printed text c.args.printer.now c.args.printer.now) (sym (text_as_it_is c.args.self.now is)) (printed_none c.args.printer.now c.requires.goes_on)

pub run_next-requires-clause-to_come : goal.run_next-requires-clause-to_come
run_next-requires-clause-to_come g c =
    let is : c.args.self.now.is_begun ≡ false = sym (ap (λ (k : Simulation). k.is_begun) c.self.view_is) ∙ c.if-self.false in
    λ begun. absurd (false≢true (sym is ∙ begun))

pub run_next-requires-clause-delta : goal.run_next-requires-clause-delta
run_next-requires-clause-delta g c =
    let is : c.args.self.now.is_begun ≡ false = sym (ap (λ (k : Simulation). k.is_begun) c.self.view_is) ∙ c.if-self.false in
    λ begun. absurd (false≢true (sym is ∙ begun))

pub returns-clause-after : goal.returns-clause-after
returns-clause-after g c =
    let is : c.args.self.now.is_begun ≡ false = sym (ap (λ (k : Simulation). k.is_begun) c.self.view_is) ∙ c.if-self.false in
    on_ok c.run_next.result c.run_next.ensures.after (λ e. e ∙ sym (begun_first c.args.self.now is))

pub returns-clause-prints : goal.returns-clause-prints
returns-clause-prints g c =
    let is : c.args.self.now.is_begun ≡ false = sym (ap (λ (k : Simulation). k.is_begun) c.self.view_is) ∙ c.if-self.false in
    subst (λ (text : List ℕ). PrintsPart c.run_next.result text c.args.printer.now c.run_next.new.printer) (sym (text_first c.args.self.now is)) c.run_next.ensures.prints
