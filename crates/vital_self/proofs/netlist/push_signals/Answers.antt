use Rattle.std.proofs.Common.{ℕ, List, ◌++◌, ap, ◌∙◌}
use Rattle.std.specs.Prelude.{codes, decimal}
use Rattle.vital_self.specs.Netlist.{signal}
use Rattle.vital_self.proofs.Growing.{grown_by_text, grown_by_three}
use Rattle.vital_self.proofs.netlist.push_signals.Goals as goal

pub loop-k-preserved : goal.loop-k-preserved
loop-k-preserved c =
    grown_by_three (codes "  signal n") (decimal c.loop-k.k) (codes " : STD_ULOGIC;\n") _ _ _ c.in_ok-push_numbered.ensures c.in_ok-extend_from_slice.ensures.items
    ∙ ap (λ (text : List ℕ). text ++ signal c.loop-k.k) c.loop-k.invariant ∙ grown_by_text c.args.text.now.items signal c.loop-k.k
