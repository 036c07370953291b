use Rattle.std.proofs.Common.{◌≡◌, take}
use Rattle.vital_machine.proofs.store.copies_of.Given as goal

abbrev pub invariant-loop-slot : goal.invariant-loop-slot
invariant-loop-slot l = l.copies.items ≡ take l.slot-index l.slots
