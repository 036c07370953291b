use Rattle.vital_table.proofs.columns.masks_from.Goals as goal

pub returns : goal.returns
returns c = record { x = c.input_mask-x.ensures; zero = c.input_mask-zero.ensures; one = c.input_mask-one.ensures }
