use Rattle.std.proofs.Common.{subst}
use Rattle.std.specs.Option.{option_copied}
use Rattle.vital_netlist.specs.Cells.{Netlist as Netlist'}
use Rattle.vital_netlist.specs.Netlists.{IsKeptOf}
use Rattle.vital_netlist.proofs.ConnectionLemmas.{kept_right}
use Rattle.vital_netlist.proofs.netlist.Netlist.connections.Goals as goal

pub returns : goal.returns
returns c =
    let P : Netlist' → Type 0 = λ n. IsKeptOf n.files n.instances c.args.instance (option_copied c.kept_of.result) in
    subst P c.self.view_is (kept_right _ _ _ _ c.self.invariant c.args.instance (option_copied c.kept_of.result) (rw c.deref.ensures.value at c.kept_of.ensures))
