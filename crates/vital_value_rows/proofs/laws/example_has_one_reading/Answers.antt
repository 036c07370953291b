use Rattle.std.proofs.Common.{refl}
use Rattle.vital_ll.specs.Example.{example, example_masks, example_ranks, example_leads}
use Rattle.vital_value_rows.proofs.laws.example_has_one_reading.Goals as goal

pub returns : goal.returns
returns c = c.one_reading.ensures example example_masks example_ranks example_leads refl refl refl refl
