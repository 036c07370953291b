use Rattle.vital_vhdl.proofs.readers.statements.+statements_within.Given as goal

abbrev pub decreases-statements_within : goal.decreases-statements_within
decreases-statements_within l = l.levels
