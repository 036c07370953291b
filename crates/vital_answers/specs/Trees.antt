-- The answer of `tree`: the design under a top.
use Rattle.std.specs.Prelude.{◌≡◌, List, [], ◌∷◌, ◌++◌, map}
use Rattle.vital_netlist.specs.Designs.{Design}
use Rattle.vital_netlist.specs.Trees.{TreeInstance, TreeSignal, tree_instances, tree_signals}
use Rattle.vital_report.specs.Lines.{Said, end_of_design, instance, signal, text_of}
use Rattle.vital_answers.specs.Answer.{Answer}
use Rattle.vital_answers.specs.declared.status.Status.TheVariants.{Done}

abbrev pub instance_line : TreeInstance → Said
instance_line i = instance i.path i.unit i.is_cell

abbrev pub signal_line : TreeSignal → Said
signal_line s = signal s.name s.is_resolved s.drivers

-- The instances of a design in order, then its signals in order, and then the end.
abbrev pub tree_lines : Design → List Said
tree_lines d = map instance_line (tree_instances d) ++ map signal_line (tree_signals d) ++ end_of_design ∷ []

-- What `tree` answers to a design.
abbrev pub IsTreeAnswer : Design → Answer → Type 0
IsTreeAnswer d answer = answer ≡ record { bytes = text_of (tree_lines d); status = Done }
