use Rattle.std.proofs.Common.{refl}
use Rattle.vital_annotate.proofs.TargetLemmas.{no-cell, one-cell}
use Rattle.vital_netlist.specs.Designs.{lent_instance}
use Rattle.vital_annotate.proofs.target.put_target.Goals as goal

pub returns-in_default-get : goal.returns-in_default-get
returns-in_default-get c = λ d same.
    no-cell d c.args.number c.in-Some.cell (lent_instance c.args.instance.now) c.args.cells.now _ same c.in-Some.is c.in_default-get.ensures.lookup.3

pub returns : goal.returns
returns c = λ d same.
    one-cell d c.args.number c.in-Some.cell (lent_instance c.args.instance.now) c.args.cells.now c.args.targets.now.items c.push.new.self.items
    (record { instance = c.args.number; entity = c.args.instance.now.unit; cell = c.in-Some-get.cell })
    same c.in-Some.is c.in-Some-get.ensures.lookup.3.0 c.in-Some-get.ensures.lookup.1 refl refl c.in_ok-push.ensures.items
