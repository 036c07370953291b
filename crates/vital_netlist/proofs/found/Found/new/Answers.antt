use Rattle.std.proofs.Common.{replicate, ap, ◌∙◌}
use Rattle.std.specs.Prelude.{None}
use Rattle.vital_netlist.proofs.CellLemmas.{of-none}
use Rattle.vital_netlist.proofs.found.Found.new.Goals as goal

pub returns : goal.returns
returns c = of-none c.args.library.now _ _ c.new.ensures.items (c.in_ok-numbers.ensures ∙ ap (λ n. replicate n None) c.entity_count.ensures)
