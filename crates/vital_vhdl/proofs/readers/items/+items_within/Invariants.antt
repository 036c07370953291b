use Rattle.vital_vhdl.proofs.readers.items.+items_within.Given as goal

abbrev pub decreases-items_within : goal.decreases-items_within
decreases-items_within l = l.levels
