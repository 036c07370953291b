-- The texts of a run that a seed draws.
use Rattle.std.specs.Prelude.{ℕ}
use Rattle.vital_self.specs.Library.{library}
use Rattle.vital_self.specs.Netlist.{netlist}
use Rattle.vital_self.specs.Stimuli.{stimuli}
use Rattle.vital_self.specs.declared.files.Texts.{Texts}

-- The texts for a seed and a number of cells.
unfoldable pub self_texts : ℕ → ℕ → Texts
self_texts seed cells = record { library = library; netlist = netlist seed cells; stimuli = stimuli seed cells }
