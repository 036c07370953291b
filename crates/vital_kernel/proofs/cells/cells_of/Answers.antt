use Rattle.std.proofs.Common.{List, map, sym, subst, ◌∙◌}
use Rattle.std.specs.Borrow.{Bor}
use Rattle.vital_kernel.specs.Placed.{HaveKinds}
use Rattle.vital_kernel.proofs.AlikeCells.{alike-made}
use Rattle.vital_kernel.proofs.cells.cells_of.Goals as goal
use Rattle.vital_timing.specs.declared.delay.Delay.{Delay}

pub returns-clause-alike : goal.returns-clause-alike
returns-clause-alike c =
    let trees = c.args.design.now.cells in
    let placed = c.deref.result.now in
    alike-made c.cells_from.result trees placed c.deref-2.result.now (map (λ (v : Bor (List Delay)). v.now) c.args.values.now) c.in_ok-alike.alike.items c.deref-3.result.now
    (subst (HaveKinds trees) (sym c.deref.ensures.value) c.in_ok-placed.ensures.kinds) c.in_ok-alike.ensures (c.deref-2.ensures.value ∙ sym c.deref.ensures.value) c.deref-3.ensures.value
    c.cells_from.ensures.trees c.cells_from.ensures.delays c.cells_from.ensures.alike
