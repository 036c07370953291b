-- Counts of faults. Each device keeps one, and it never falls.
use Rattle.std.specs.Prelude.{ℕ, ◌<◌, ◌≤◌, ◌+◌, ◌-◌, ◌^◌, ◌⊎◌, nat_lt, if◌then◌else◌}

-- The count of faults rose in a call: it is greater than before, or stands at the last value of 64 bits.
abbrev pub Rose : ℕ → ℕ → Type 0
Rose old new = (old < new) ⊎ (2 ^ 64 - 1 ≤ new)

-- A count after one more: it stands still once it is at the last value of 64 bits.
abbrev pub counted : ℕ → ℕ
counted count = if nat_lt count (2 ^ 64 - 1) then count + 1 else count
