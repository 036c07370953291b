use Rattle.std.proofs.Common.{◌≡◌, ℕ, ◌<◌, length, map, take, get_or}
use Rattle.vital_signals.proofs.signals.gather.Given as goal

abbrev pub invariant-loop-k : goal.invariant-loop-k
invariant-loop-k l = record {
  listed : l.touched.listed ≡ map (λ driver. get_or l.sources.signals_of driver 0) (take l.k l.due.listed);
  below : (i : ℕ) → i < length l.touched.listed → get_or l.touched.listed i 0 < length l.sources.defaults;
  room : l.touched.room ≡ l.initial.touched.room;
}
