use Rattle.std.proofs.Common.{◌≡◌, subst}
use Rattle.std.specs.Prelude.{Option}
use Rattle.std.specs.Option.{option_map_or}
use Rattle.std.proofs.lemmas.Result.{IfOk-weaker}
use Rattle.vital_netlist.specs.Cells.{Netlist as Netlist'}
use Rattle.vital_instances.specs.Designs.{AreBehindParents}
use Rattle.vital_netlist.specs.declared.bit.Bit.{Bit}
use Rattle.vital_netlist.specs.Nets as spec
use Rattle.vital_netlist.proofs.NetLemmas.{net_step}
use Rattle.vital_netlist.proofs.netlist.Netlist.bit_above.Goals as goal

pub returns-clause-net : goal.returns-clause-net
returns-clause-net c =
    let self = c.args.self.now in
    let bit = c.args.bit.now in
    let P : Netlist' → Type 0 = λ n. AreBehindParents n.instances in
    let behind : AreBehindParents self.instances = subst P c.self.view_is c.self.invariant.behind in
    IfOk-weaker c.actual_bit.result (λ (above : Option Bit). above ≡ spec.bit_above self.files self.instances bit)
    (λ (above : Option Bit). spec.net self.files self.instances bit ≡ option_map_or (spec.net self.files self.instances) above bit)
    (λ above is. net_step self.files self.instances behind bit above is) c.actual_bit.ensures
