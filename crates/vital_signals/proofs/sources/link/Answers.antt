use Rattle.std.proofs.Common.{◌≡◌, ℕ, suc, ◌-◌, get_or, refl, subst, arith}
use Rattle.vital_signals.specs.Sources.{AreLinkedFrom}
use Rattle.vital_signals.proofs.SourceLemmas.{one_more_linked}
use Rattle.vital_signals.proofs.sources.link.Goals as goal

pub loop-driver-preserved : goal.loop-driver-preserved
loop-driver-preserved c =
    let low = c.loop-driver.driver - 1 in
    let signals = c.args.signals_of.now in
    let before : c.loop-driver.driver ≡ suc low = omega arith in
    let linked = subst (λ (n : ℕ). AreLinkedFrom n signals c.loop-driver.first c.loop-driver.next) before c.loop-driver.invariant in
    one_more_linked low (get_or signals low 0) signals c.loop-driver.first c.loop-driver.next linked (omega arith) refl
