use Rattle.std.proofs.Common.{List, map, subst, sym}
use Rattle.vital_netlist.specs.Designs.{StandBehind, lent_instance}
use Rattle.vital_netlist.specs.declared.design_lists.DesignInstance.{DesignInstance}
use Rattle.vital_netlist.proofs.SoundLemmas.{stand-behind}
use Rattle.vital_netlist.proofs.design.Design.labels.Goals as goal

pub labels_of-requires : goal.labels_of-requires
labels_of-requires c =
    subst (λ (is : List DesignInstance). StandBehind (map lent_instance is)) (sym c.deref.ensures.value) (stand-behind _ c.self.invariant.instances_sound)
