use Rattle.vital_vhdl.proofs.readers.concurrent.+concs_within.Given as goal

abbrev pub decreases-concs_within : goal.decreases-concs_within
decreases-concs_within l = l.levels
