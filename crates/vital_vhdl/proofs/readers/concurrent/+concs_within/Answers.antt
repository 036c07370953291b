use Rattle.std.proofs.Common.{◌≡◌, ℕ, List, Some, ap, sym, subst, ◌∙◌, arith}
use Rattle.vital_nodes.specs.declared.stmt.Conc.{Conc}
use Rattle.vital_shapes.specs.Reading.{Input}
use Rattle.vital_shapes.specs.Statements.{concs_within}
use Rattle.vital_vhdl.specs.Reads.{Reads}
use Rattle.vital_vhdl.proofs.Turns.{deeper}
use Rattle.vital_vhdl.proofs.readers.concurrent.+concs_within.Goals as goal

pub returns-then-levels-eq0 : goal.returns-then-levels-eq0
unfolding concs_within
returns-then-levels-eq0 t c =
    let none : c.args.levels ≡ 0 = omega arith in
    ap (λ (n : ℕ). concs_within n c.args.cursor.now) none ∙ ap (λ (xs : List Conc). Some (xs, c.args.cursor.now)) (sym c.new.ensures)

pub returns : goal.returns
unfolding concs_within
returns t c = rw (deeper (λ (n : ℕ). concs_within n c.args.cursor.now) c.args.levels (omega arith)) c.all.ensures
