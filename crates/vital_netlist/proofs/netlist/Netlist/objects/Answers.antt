use Rattle.std.proofs.Common.{◌∙◌, ap, map, slice_get}
use Rattle.std.specs.Option.{option_copied}
use Rattle.vital_connections.specs.Objects.{lent}
use Rattle.vital_netlist.proofs.NetlistLemmas.{objects_is}
use Rattle.vital_netlist.proofs.netlist.Netlist.objects.Goals as goal

pub returns : goal.returns
returns c =
    let self = c.args.self.now in
    ap (map lent) c.objects_of.ensures ∙ objects_is self.files (slice_get self.instances c.args.instance) (option_copied c.unit.result) c.unit.ensures
