use Rattle.std.proofs.Common.{IsSome, refl, sym, subst}
use Rattle.std.proofs.lemmas.List.Elements.{All-from_recursion}
use Rattle.vital_netlist.specs.Bits.{bits}
use Rattle.vital_netlist.specs.Nets.{signal_number}
use Rattle.vital_netlist.proofs.Bits.{IsThere, bits-there}
use Rattle.vital_netlist.proofs.Lists.{each-weaker}
use Rattle.vital_netlist.proofs.Nets.{numbered}
use Rattle.vital_netlist.proofs.UnitFacts.{Known}
use Rattle.vital_netlist.proofs.laws.bits_have_signals.Goals as goal

pub returns : goal.returns
returns c files found are =
    let known : Known files found = record {
      parents = c.instances_are_good.ensures.parents files found are;
      children = c.instances_are_good.ensures.children files found are;
      units = c.instances_are_good.ensures.units files found are;
      cells = c.instances_are_good.ensures.cells files found are;
      contents = c.instances_are_good.ensures.contents files found are;
      scalar = c.ports_of_cells_are_bits.ensures;
      inside = c.associations_are_apart.ensures.inside;
    } in
    All-from_recursion (λ b. IsSome (signal_number files found b)) (bits files found)
    (each-weaker (IsThere files found) (λ b. IsSome (signal_number files found b))
    (λ b there. let n = numbered files found known b there in subst IsSome (sym n.1) refl) (bits files found) (bits-there files found))
