-- The numbers that a seed draws: a linear congruential generator with a state of 64 bits.
use Rattle.std.specs.Prelude.{ℕ, zero, suc, ◌+◌, ◌*◌, ◌/◌, ◌%◌, ◌^◌}

-- The state behind a state.
abbrev pub next_state : ℕ → ℕ
next_state state = (state * 6_364_136_223_846_793_005 + 1_442_695_040_888_963_407) % 2 ^ 64

-- The state behind so many draws. The seed is the state before the first one.
unfoldable pub state_behind : ℕ → ℕ → ℕ
state_behind seed zero = seed
state_behind seed (suc draws) = next_state (state_behind seed draws)

-- What a draw below a limit gives: the draw of this number, where the first one is number 0. The low 33 bits of the state
-- behind it are dropped.
abbrev pub draw : ℕ → ℕ → ℕ → ℕ
draw seed number limit = state_behind seed (number + 1) / 2 ^ 33 % limit
