use Rattle.vital_library.proofs.NumberLemmas.{put-new}
use Rattle.vital_library.proofs.numbers.put_number.Goals as goal

pub returns-in_ok-insert : goal.returns-in_ok-insert
returns-in_ok-insert c = put-new c.args.name.now c.args.numbers.now c.insert.new.self c.args.number c.in_ok-from_slice.field-0 c.contains_key.result c.in_ok-from_slice.ensures.items c.if-not-contains_key.true c.contains_key.ensures c.in_ok-insert.ensures.updates
