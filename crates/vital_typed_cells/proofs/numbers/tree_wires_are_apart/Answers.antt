use Rattle.std.proofs.Common.{List, ℕ, refl, sym, subst}
use Rattle.std.specs.List.{IsDistinct}
use Rattle.std.specs.Str.{bytes_eq}
use Rattle.vital_typed_cells.specs.Typed.{typed, typed_with}
use Rattle.vital_uses.specs.Statements.{statements}
use Rattle.vital_typed_cells.proofs.TypedWires.{wires-kept}
use Rattle.vital_typed_cells.proofs.numbers.tree_wires_are_apart.Goals as goal

pub returns-clause-signals : goal.returns-clause-signals
unfolding typed typed_with
returns-clause-signals c cell fifth sixth =
    subst (λ (ns : List (List ℕ)). IsDistinct bytes_eq ns) (sym (wires-kept (λ w. w.signal) (λ w. w.0.name) (λ w. refl) cell (statements cell.arch)))
    (c.wires_are_apart.ensures.signals cell fifth sixth)

pub returns-clause-ports : goal.returns-clause-ports
unfolding typed typed_with
returns-clause-ports c cell fifth sixth =
    subst (λ (ns : List (List ℕ)). IsDistinct bytes_eq ns) (sym (wires-kept (λ w. w.port) (λ w. w.1.name) (λ w. refl) cell (statements cell.arch)))
    (c.wires_are_apart.ensures.ports cell fifth sixth)
