use Rattle.std.proofs.Common.{◌≡◌, [], get_or, map, take}
use Rattle.std.specs.List.{flat_map}
use Rattle.vital_kernel.proofs.listeners.gather.Given as goal

abbrev pub invariant-loop-event : goal.invariant-loop-event
invariant-loop-event l = record {
  listed : l.triggered.listed ≡ flat_map (λ event. get_or (map (λ list. list.items) l.lists) event []) (take l.event-index l.events);
  room : l.triggered.room ≡ l.initial.triggered.room;
}
