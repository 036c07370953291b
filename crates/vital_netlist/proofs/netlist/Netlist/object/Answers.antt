use Rattle.std.proofs.Common.{◌∙◌, ap, slice_get}
use Rattle.vital_netlist.proofs.NetlistLemmas.{object_at}
use Rattle.vital_netlist.proofs.netlist.Netlist.object.Goals as goal

pub returns : goal.returns
returns c =
    let self = c.args.self.now in
    let bit = c.args.bit.now in
    c.object_in.ensures ∙ ap (λ os. slice_get os bit.object) c.objects.ensures ∙ object_at self.files (slice_get self.instances bit.instance) bit.object
